-- The objects of a thread's next actions, as far as they are retains of objects: what a thread can retain before it
-- has the world in hand. This project's own.
use Rattle.std.specs.Prelude.{◌≡◌, ℕ, List, [], ◌∷◌, ◌++◌, drop, Option, Some, None, if◌then◌else◌}
use Rattle.cf_syntax.specs.declared.script.Script.{Script}
use Rattle.cf_syntax.specs.declared.statement.Statement.TheVariants.{Retain}
use Rattle.cf_syntax.specs.BlockLines.{BlockLine, says}
use Rattle.cf_next.specs.Facts.{Facts}
use Rattle.cf_next.specs.Stands.{Binding, look, Frame, Stand}
use Rattle.cf_next.specs.Demands.{Demand, call_demand, work_demand, frame_lines}

-- the object that a line retains, if it does
abbrev pub retain_of : List Binding → BlockLine → Option ℕ
retain_of bs (says (Retain v)) = look v bs
retain_of bs _ = None

-- what comes first, with what comes after it; nothing if nothing comes first
abbrev pub while_some : Option ℕ → List ℕ → List ℕ
while_some None os = []
while_some (Some o) os = o ∷ os

-- what lines retain, up to the first one that does not retain an object
abbrev pub lines_ahead : List Binding → List BlockLine → List ℕ
lines_ahead bs [] = []
lines_ahead bs (x ∷ xs) = while_some (retain_of bs x) (lines_ahead bs xs)

-- nothing is ahead if something else comes first
abbrev pub unless_due : Option Demand → List ℕ → List ℕ
unless_due None os = os
unless_due (Some d) os = []

-- what the innermost frame retains next, if it has nothing to call
abbrev pub frame_ahead : Script → Facts → ℕ → List Frame → List ℕ
frame_ahead s facts t [] = []
frame_ahead s facts t (f ∷ fs) =
    unless_due
    (call_demand facts t f.kind f.collected)
    (lines_ahead f.bindings (drop f.number (frame_lines s f.kind f.block)))

-- what a thread retains next, if it has no work
abbrev pub ahead : Script → Facts → ℕ → Stand → List ℕ
ahead s facts t stand =
    if stand.is_done then [] else unless_due (work_demand facts stand.work) (frame_ahead s facts t stand.frames)

-- a list is the beginning of another
pub record Begins (xs ys : List ℕ) : Type 0 where
  pub rest : List ℕ
  pub is : xs ++ rest ≡ ys
