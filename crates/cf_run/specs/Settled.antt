-- What a command came to before a line of it is written.
use Rattle.std.specs.Prelude.{◌≡◌, ℕ, ⊤, false, List, [], None, Result, Ok, Err}
use Rattle.cf_fault.specs.Fault.{HasRisen}
use Rattle.cf_io.specs.Bytes.{IsAtEnd}
use Rattle.cf_syntax.specs.Text.{Text}
use Rattle.cf_syntax.specs.declared.script.Script.{Script}
use Rattle.cf_syntax.specs.Owned.{Owned}
use Rattle.cf_syntax.specs.Stage.{IsOfStage}
use Rattle.cf_owncheck.specs.declared.checked.Checked.{Checked}
use Rattle.cf_script.specs.declared.fault.ScriptFault.{ScriptFault}
use Rattle.cf_script.specs.declared.fault.ScriptFault.TheVariants as faults
use Rattle.cf_model.specs.declared.entry.Entry.{Entry}
use Rattle.cf_model.specs.declared.ending.Ending.{Ending}
use Rattle.cf_model.specs.declared.ending.Ending.TheVariants as endings
use Rattle.cf_model.specs.Journals.{After}
use Rattle.cf_render.specs.Rendering.{rendering}
use Rattle.cf_serial.specs.declared.serial.Ran.{Ran}
use Rattle.cf_serial.specs.Serial.{AreEdges}
use Rattle.cf_run.specs.declared.output.Unwritten.{Unwritten}
use Rattle.cf_run.specs.declared.output.Unwritten.TheVariants as unwritten
use Rattle.cf_run.specs.declared.settle.Settled.{Settled}
use Rattle.cf_run.specs.declared.settle.Settled.TheVariants as settled
use Rattle.cf_run.specs.Calls.{SourceState}
use Rattle.cf_run.specs.Commands.{file_of, TakesWords}
use Rattle.cf_run.specs.Outcomes.{IsFaulty, IsAccepted, IsJournal, IsRefused, usage_text, fault_text, refusal_text}

-- what the reader and the owner check say of bytes: an owned script of today's forms of which they are the text, or
-- their refusal
abbrev pub Accepts : Result Checked ScriptFault → List ℕ → Type 0
Accepts (Ok c) bytes = Text bytes c × Owned c × IsOfStage c
Accepts (Err (faults.Refused r)) bytes = IsFaulty bytes r
Accepts (Err faults.NoMemory) bytes = ⊤

-- a run is over: its journal has its ending, and its edges are those after it
pub record HasRunBy (ran : Ran) : Type 0 where
  pub journal : IsJournal ran.script ran.ending ran.journal.items
  pub edges : AreEdges (After ran.script ran.journal.items).edges ran.edges.items

-- what the bytes of a file came to
abbrev pub SettlesBytes : List ℕ → Settled → Type 0
SettlesBytes bytes settled.Usage = ⊥
SettlesBytes bytes settled.ReadFault = ⊥
SettlesBytes bytes (settled.Refused r) = IsFaulty bytes r
SettlesBytes bytes (settled.Ran ran) = Text bytes ran.script × HasRunBy ran

-- the words name an accepted script, and the source stands at the end of its file and has counted no fault
pub record Accepted (words : List (List ℕ)) (before after : SourceState) (s : Script) : Type 0 where
  pub read : IsAccepted words before.files s
  pub at_end : IsAtEnd after.left
  pub quiet : after.faults ≡ before.faults

-- what a command came to, and what that says of the source
abbrev pub Settles : List (List ℕ) → (before after : SourceState) → Settled → Type 0
Settles words before after settled.Usage = (file_of words ≡ None) × (after ≡ before)
Settles words before after settled.ReadFault = TakesWords words × HasRisen before.faults after.faults
Settles words before after (settled.Refused r) = IsRefused words before.files r × (after.faults ≡ before.faults)
Settles words before after (settled.Ran ran) = Accepted words before after ran.script × HasRunBy ran

-- the text that is due
abbrev pub due_of : Settled → List ℕ
due_of settled.Usage = usage_text
due_of settled.ReadFault = fault_text
due_of (settled.Refused r) = refusal_text r
due_of (settled.Ran ran) = rendering ran.script ran.journal.items ran.ending false

-- the journal of a command: none if no script has run
abbrev pub entries_of : Settled → List Entry
entries_of settled.Usage = []
entries_of settled.ReadFault = []
entries_of (settled.Refused r) = []
entries_of (settled.Ran ran) = ran.journal.items

-- the status of an ending
abbrev pub status_by : Ending → ℕ
status_by endings.Done = 0
status_by endings.Limit = 7
status_by endings.Full = 8
status_by endings.Stalled = 9

-- the status of a command whose lines were all written
abbrev pub status_of : Settled → ℕ
status_of settled.Usage = 2
status_of settled.ReadFault = 4
status_of (settled.Refused r) = 3
status_of (settled.Ran ran) = status_by ran.ending

-- what can be written of a command: of a run that is over
abbrev pub CanWrite : Settled → Type 0
CanWrite settled.Usage = ⊤
CanWrite settled.ReadFault = ⊤
CanWrite (settled.Refused r) = ⊤
CanWrite (settled.Ran ran) = HasRunBy ran

-- the status after its lines were written, or not
abbrev pub status_after : Result (Unit {0}) Unwritten → Settled → ℕ
status_after (Ok u) s = status_of s
status_after (Err unwritten.Fault) s = 5
status_after (Err unwritten.NoMemory) s = 6
