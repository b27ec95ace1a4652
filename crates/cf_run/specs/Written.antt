-- What of the lines due a sink has taken. This project's own.
use Rattle.std.specs.Prelude.{◌≡◌, ℕ, ◌<◌, false, List, [], ◌∷◌, ◌++◌, length, Option, Result, Ok, Err, if◌then◌else◌}
use Rattle.cf_fault.specs.Fault.{HasRisen}
use Rattle.cf_io.specs.Bytes.{then_bytes}
use Rattle.cf_syntax.specs.declared.script.Script.{Script}
use Rattle.cf_model.specs.declared.entry.Entry.{Entry}
use Rattle.cf_render.specs.Rendering.{is_written, line}
use Rattle.cf_run.specs.declared.output.Unwritten.{Unwritten}
use Rattle.cf_run.specs.declared.output.Unwritten.TheVariants.{Fault, NoMemory}

-- a front of the text that is due was taken
pub record Part (due : List ℕ) (old new : Option (List ℕ)) : Type 0 where
  pub out : List ℕ
  pub rest : List ℕ
  pub parts : due ≡ out ++ rest
  pub taken : new ≡ then_bytes old out

-- a front was taken that is not the whole
pub record Cut (due : List ℕ) (old new : Option (List ℕ)) : Type 0 where
  pub part : Part due old new
  pub short : 0 < length part.rest

-- what an error tells: a fault only if the sink's count rose, and want of memory leaves the count
abbrev pub IsCause : Unwritten → (faults faults' : ℕ) → Type 0
IsCause Fault faults faults' = HasRisen faults faults'
IsCause NoMemory faults faults' = faults' ≡ faults

-- what a call that writes a text leaves: the whole is taken, or after an error a front
abbrev pub Writes : {T : Type 0} → Result T Unwritten → List ℕ → (old new : Option (List ℕ)) → (faults faults' : ℕ)
    → Type 0
Writes (Ok x) due old new faults faults' = (new ≡ then_bytes old due) × (faults' ≡ faults)
Writes (Err e) due old new faults faults' = Part due old new × IsCause e faults faults'

-- what a call that writes a text leaves, if an error leaves something due
abbrev pub WritesAll : {T : Type 0} → Result T Unwritten → List ℕ → (old new : Option (List ℕ)) → (faults faults' : ℕ)
    → Type 0
WritesAll (Ok x) due old new faults faults' = (new ≡ then_bytes old due) × (faults' ≡ faults)
WritesAll (Err e) due old new faults faults' = Cut due old new × IsCause e faults faults'

-- the line of an entry, if it is written
abbrev pub line_if : Script → Entry → List (List ℕ)
line_if s e = if is_written false e then line s e ∷ [] else []
