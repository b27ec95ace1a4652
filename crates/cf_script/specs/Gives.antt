-- What a call that may want memory returns, beside what is defined.
use Rattle.std.specs.Prelude.{◌≡◌, ℕ, ◌+◌, Result, Ok, Err}
use Rattle.cf_syntax.specs.declared.script.Script.{Script}
use Rattle.cf_syntax.specs.declared.refusal.Refusal.{Refusal}
use Rattle.cf_syntax.specs.declared.refusal.Reason.{Reason}
use Rattle.cf_script.specs.declared.fault.ScriptFault.{ScriptFault}
use Rattle.cf_script.specs.declared.fault.ScriptFault.TheVariants as faults
use Rattle.cf_script.specs.declared.fault.LineFault.{LineFault}
use Rattle.cf_script.specs.declared.fault.LineFault.TheVariants.{Faulty, NoRoom}

-- a line's fault is the reason, or memory ran out
abbrev pub Fails : {Y : Type 0} → LineFault → Result Y Reason → Type 0
Fails (Faulty r) found = found ≡ Err r
Fails NoRoom found = Unit {0}

-- what a part of the reader returned, seen by a view, is what is found, unless memory ran out
abbrev pub GivesAs : {X Y : Type 0} → (X → Y) → Result X LineFault → Result Y Reason → Type 0
GivesAs view (Ok x) found = found ≡ Ok (view x)
GivesAs view (Err f) found = Fails f found

-- the same of a script and a refusal
abbrev pub Gives : Result Script ScriptFault → Result Script Refusal → Type 0
Gives (Ok s) found = found ≡ Ok s
Gives (Err (faults.Refused r)) found = found ≡ Err r
Gives (Err faults.NoMemory) found = Unit {0}

-- a line's fault after so many lines, as the fault of the text
abbrev pub GivesFault : (count : ℕ) → LineFault → ScriptFault → Type 0
GivesFault count (Faulty r) fault = fault ≡ faults.Refused (record { line = count + 1; reason = r })
GivesFault count NoRoom fault = fault ≡ faults.NoMemory
