-- The forms of statements that a script may have until time and notices come: those that the reader takes.
-- This project's own.
use Rattle.std.specs.Prelude.{◌≡◌, ℕ, Bool, true, false, Some, slice_get}
use Rattle.cf_syntax.specs.declared.statement.Statement.{Statement}
use Rattle.cf_syntax.specs.declared.statement.Statement.TheVariants as forms
use Rattle.cf_syntax.specs.declared.script.Script.{Script}
use Rattle.cf_syntax.specs.BlockLines.{statements_in}

-- a statement is of a form that the reader takes; a form that moves in the table of forms loses its line here
abbrev pub is_of_stage : Statement → Bool
is_of_stage (forms.MakeTimer v first interval handler info) = false
is_of_stage (forms.MakeObserver v mask repeats order handler info) = false
is_of_stage (forms.Observe observer handler name object) = false
is_of_stage (forms.Forget observer name object) = false
is_of_stage (forms.Post name info) = false
is_of_stage _ = true

-- each statement of each block of a script is of such a form
abbrev pub IsOfStage : Script → Type 0
IsOfStage s =
    (b n : ℕ) (x : Statement) → slice_get (statements_in (slice_get s.blocks b)) n ≡ Some x → is_of_stage x ≡ true
