-- The refusal of a text: no line before it has a fault, and its reason is the first that its line has. The end of the
-- text counts as one line more. This project's own.
use Rattle.std.specs.Prelude.{◌≡◌, ℕ, ◌+◌, List, [], ◌∷◌, take, drop, Result, Ok, Err, Option, Some, None}
use Rattle.cf_syntax.specs.declared.refusal.Refusal.{Refusal}
use Rattle.cf_syntax.specs.declared.refusal.Reason.{Reason}
use Rattle.cf_syntax.specs.Lines.{lines}
use Rattle.cf_syntax.specs.Text.{Reading, start, after_line, whole, read_from, named_threads}

-- the fault of what is refused, and none of what is not
abbrev pub fault_in : {A E : Type 0} → Result A E → Option E
fault_in (Ok x) = None
fault_in (Err e) = Some e

-- the fault of the next line, or of the end of the text, after lines that have none
abbrev pub next_fault : (threads : List (List ℕ)) → Reading → List (List ℕ) → Option Reason
next_fault threads r [] = fault_in (whole r)
next_fault threads r (l ∷ ls) = fault_in (after_line threads r l)

-- the refusal of bytes, by the lines before it
pub record Refused (bs : List ℕ) (r : Refusal) : Type 0 where
  pub before : Reading
  pub earlier : read_from (named_threads (lines bs)) start (take before.count (lines bs)) ≡ Ok before
  pub line : r.line ≡ before.count + 1
  pub fault : next_fault (named_threads (lines bs)) before (drop before.count (lines bs)) ≡ Some r.reason
