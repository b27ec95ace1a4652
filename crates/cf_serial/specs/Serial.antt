-- What a serial run has done: its journal is in the serial order, with this ending. This project's own.
use Rattle.std.specs.Prelude.{◌≡◌, ℕ, ◌<◌, Bool, IsTrue, List, [], ◌∷◌, length, count_by, slice_index, Option, Some, None, IfSome, IsSomeAnd}
use Rattle.cf_syntax.specs.declared.script.Script.{Script}
use Rattle.cf_syntax.specs.Owned.{Owned}
use Rattle.cf_graph.specs.declared.edge.Edge.{Edge}
use Rattle.cf_graph.specs.Edges.{Reference, degree, edges_of}
use Rattle.cf_model.specs.declared.entry.Entry.{Entry}
use Rattle.cf_model.specs.declared.ending.Ending.{Ending}
use Rattle.cf_model.specs.declared.ending.Ending.TheVariants as endings
use Rattle.cf_model.specs.Serial.{IsSerial, picked, pointer_of}
use Rattle.cf_model.specs.Endings.{Ends}
use Rattle.cf_model.specs.Finals.{FinalsFit}
use Rattle.cf_model.specs.Journals.{After, makes}
use Rattle.cf_history.specs.Callouts.{CalloutsFit}
use Rattle.cf_history.specs.Clocks.{IsTimed, times_left}

-- a run that stopped since it can make no further object: the next action of the thread that the pointer picks makes one
abbrev pub StopsSerially : Script → Ending → List Entry → Type 0
StopsSerially s endings.Full es =
    IsSomeAnd (picked s (After s es) (pointer_of s es)) (λ t. IsTrue (makes s (After s es) t))
StopsSerially s _ es = Unit {0}

-- a serial run of an owned script: its journal is legal and in the serial order, its callouts and finals fit, and it
-- has this ending; the ticks go to the times of the clock, where that tells them
pub record HasRun (s : Script) (limit : ℕ) (times : Option (List ℕ)) (ending : Ending) (journal : List Entry) : Type 0 where
  pub owned : Owned s
  pub serial : IsSerial s journal
  pub ends : Ends s limit journal ending
  pub stops : StopsSerially s ending journal
  pub timed : IfSome times (λ ts. IsTimed s ts journal)
  pub callouts : CalloutsFit s journal
  pub finals : FinalsFit s journal

-- edges are those of references, each as often, in any order
abbrev pub AreEdges : List Reference → List Edge → Type 0
AreEdges rs es = (p : Edge → Bool) → count_by p es ≡ count_by p (edges_of rs)

-- the numbers are those of references: for each object that was made, how many lead to it
pub record AreDegrees (made : ℕ) (es : List Reference) (numbers : List ℕ) : Type 0 where
  pub size : length numbers ≡ made
  pub at : (o : ℕ) → o < made → slice_index numbers o ≡ degree o es

-- what is left of a clock's times after entries
abbrev pub times_after : List Entry → List ℕ → List ℕ
times_after [] times = times
times_after (e ∷ es) times = times_after es (times_left e.action times)

-- the clock tells what is left of the times that it told, and the ticks went to those
abbrev pub ClockFits : Script → List Entry → (before now : Option (List ℕ)) → Type 0
ClockFits s es None now = now ≡ None
ClockFits s es (Some times) now = (now ≡ Some (times_after es times)) × IsTimed s times es
