-- What was found of a thread's next entry, as it is kept from the room that is made for it to the entry. This project's
-- own.
use Rattle.std.specs.Prelude.{◌≡◌, ℕ, Bool, true, false, Option, Some, None}
use Rattle.cf_syntax.specs.declared.script.Script.{Script}
use Rattle.cf_syntax.specs.declared.statement.Statement.{Statement}
use Rattle.cf_syntax.specs.BlockLines.{says}
use Rattle.cf_next.specs.declared.object.Used.{Used}
use Rattle.cf_next.specs.declared.step.Step.{Step}
use Rattle.cf_next.specs.declared.step.Step.TheVariants as steps
use Rattle.cf_next.specs.Facts.{Facts}
use Rattle.cf_next.specs.Stands.{Stand}
use Rattle.cf_next.specs.Demands.{demand, does}
use Rattle.cf_next.specs.Next.{top_frame, used_objects}
use Rattle.cf_next.specs.Steps.{IsStep, IsLine}
use Rattle.cf_next.specs.Views.{objects_of}
use Rattle.cf_scene.specs.Needs.{acts_on_loops}
use Rattle.cf_world.specs.declared.found.Found.{Found}
use Rattle.cf_world.specs.declared.found.Found.TheVariants as kept
use Rattle.cf_world.specs.Grounds.{statement_at}

-- a statement that a thread demands, which acts on run loops or does not: its place, and the objects that it uses
pub record IsSaid (s : Script) (facts : Facts) (t : ℕ) (stand : Stand) (loops : Bool) (block number : ℕ) (used : Used) : Type 0 where
  pub statement : Statement
  pub acts : acts_on_loops statement ≡ loops
  pub demands : demand s facts t stand ≡ Some (does (says statement))
  pub line : IsLine s (says statement) stand.frames
  pub objects : objects_of used ≡ used_objects (top_frame stand.frames).bindings (says statement)
  pub at : statement_at s block number ≡ Some statement

-- what is kept is what a thread demands
abbrev pub IsKept : Script → Facts → ℕ → Stand → Found → Type 0
IsKept s facts t stand kept.Begins = IsStep s facts t stand steps.Begins
IsKept s facts t stand (kept.Claims k v) = IsStep s facts t stand (steps.Claims k v)
IsKept s facts t stand (kept.Says b n used) = IsSaid s facts t stand false b n used
IsKept s facts t stand (kept.Deals b n used) = IsSaid s facts t stand true b n used
IsKept s facts t stand (kept.Packs u k v) = IsStep s facts t stand (steps.Packs u k v)
IsKept s facts t stand kept.Ends = IsStep s facts t stand steps.Ends
IsKept s facts t stand kept.Returns = IsStep s facts t stand steps.Returns
IsKept s facts t stand (kept.Owes o left) = IsStep s facts t stand (steps.Owes o left)
IsKept s facts t stand (kept.Spends i left) = IsStep s facts t stand (steps.Spends i left)
IsKept s facts t stand (kept.Drops b k o left) = IsStep s facts t stand (steps.Drops b k o left)
IsKept s facts t stand (kept.Calls k h info left) = IsStep s facts t stand (steps.Calls k h info left)
IsKept s facts t stand (kept.Enters p) = IsStep s facts t stand (steps.Enters p)
IsKept s facts t stand kept.Closes = IsStep s facts t stand steps.Closes

-- the statement of a step stands in this block
abbrev pub IsPlaced : Script → ℕ → Step → Type 0
IsPlaced s b (steps.Says x used n) = statement_at s b n ≡ Some x.now
IsPlaced s b _ = Unit {0}

-- what is kept as a step, where it is no statement
abbrev pub step_kept : Found → Option Step
step_kept kept.Begins = Some steps.Begins
step_kept (kept.Claims k v) = Some (steps.Claims k v)
step_kept (kept.Says b n used) = None
step_kept (kept.Deals b n used) = None
step_kept (kept.Packs u k v) = Some (steps.Packs u k v)
step_kept kept.Ends = Some steps.Ends
step_kept kept.Returns = Some steps.Returns
step_kept (kept.Owes o left) = Some (steps.Owes o left)
step_kept (kept.Spends i left) = Some (steps.Spends i left)
step_kept (kept.Drops b k o left) = Some (steps.Drops b k o left)
step_kept (kept.Calls k h info left) = Some (steps.Calls k h info left)
step_kept (kept.Enters p) = Some (steps.Enters p)
step_kept kept.Closes = Some steps.Closes
