-- When a call of `Str` is refused (this project's own).
use Rattle.std.specs.Prelude.{◌≡◌, ℕ, ◌+◌, ◌||◌, nat_lt, List, length, Option, None, Some, Result, Ok, Err, if◌then◌else◌}
use Rattle.std.specs.Str.{is_utf8}
use Rattle.cf_string.specs.Units.{splits_pair}
use Rattle.cf_string.specs.declared.faults.StrFault.{StrFault}
use Rattle.cf_string.specs.declared.faults.StrFault.TheVariants.{NotUtf8, Range, SplitsPair, NoMemory}

-- why the bytes are no text, if they are none
abbrev pub bytes_fault : List ℕ → Option StrFault
bytes_fault bytes = if is_utf8 bytes then None else Some NotUtf8

-- why the units may not be cut at `at` and at `at + len`, if they may not: the range passes their length, or
-- one of the two places falls inside a pair
abbrev pub split_fault : List ℕ → ℕ → ℕ → Option StrFault
split_fault units at len =
    if nat_lt (length units) (at + len) then Some Range
    else (if splits_pair units at || splits_pair units (at + len) then Some SplitsPair else None)

-- the answer of a call that takes no memory: done, but for this fault
abbrev pub done_unless : Option StrFault → Result (Unit {0}) StrFault
done_unless None = Ok tt
done_unless (Some fault) = Err fault

-- the call is refused for exactly this fault, and want of memory comes only if there is none
abbrev pub IsRefusedFor : {T : Type 0} → Result T StrFault → Option StrFault → Type 0
IsRefusedFor (Ok x) fault = fault ≡ None
IsRefusedFor (Err NotUtf8) fault = fault ≡ Some NotUtf8
IsRefusedFor (Err Range) fault = fault ≡ Some Range
IsRefusedFor (Err SplitsPair) fault = fault ≡ Some SplitsPair
IsRefusedFor (Err NoMemory) fault = fault ≡ None
