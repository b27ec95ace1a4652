-- What the outcome of reading all says of the source's count. This word is this project's own.
use Rattle.std.specs.Prelude.{Result, Ok, Err, ⊤}
use Rattle.cf_io.specs.declared.whole.ReadAll.{ReadAll}
use Rattle.cf_io.specs.declared.whole.ReadAll.TheVariants.{ReadFault, TooLong, NoMemory}

-- The fact holds, unless the outcome is ReadFault.
abbrev pub UnlessReadFault : {T : Type 0} → Result T ReadAll → Type 0 → Type 0
UnlessReadFault (Ok _) P = P
UnlessReadFault (Err TooLong) P = P
UnlessReadFault (Err NoMemory) P = P
UnlessReadFault (Err ReadFault) P = ⊤
