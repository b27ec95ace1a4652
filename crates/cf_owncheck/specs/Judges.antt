-- What the owner check answers.
use Rattle.std.specs.Prelude.{◌≡◌, Result, Ok, Err}
use Rattle.cf_syntax.specs.declared.script.Script.{Script}
use Rattle.cf_syntax.specs.Owned.{Owned, Unfit}
use Rattle.cf_owncheck.specs.declared.checked.Checked.{Checked}
use Rattle.cf_owncheck.specs.declared.checked.OwnFault.{OwnFault}
use Rattle.cf_owncheck.specs.declared.checked.OwnFault.TheVariants as faults

-- an accepted script is owned, and a refusal is the script's; the check takes no memory
abbrev pub Judges : Result Checked OwnFault → Script → Type 0
Judges (Ok c) s = (c ≡ s) × Owned s
Judges (Err (faults.Refused r)) s = Unfit s r
Judges (Err faults.NoMemory) s = ⊥
