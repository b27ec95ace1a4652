-- How the parts of a thread's stand move on. This project's own.
use Rattle.std.specs.Prelude.{◌≡◌, ℕ, ◌+◌, ◌<◌, ◌^◌, false, List, [], ◌++◌, length, map, Option, if◌then◌else◌}
use Rattle.cf_syntax.specs.declared.statement.Statement.{Statement}
use Rattle.cf_syntax.specs.BlockLines.{says}
use Rattle.cf_syntax.specs.declared.mention.Ownership.{Ownership}
use Rattle.cf_next.specs.declared.step.Step.{Step}
use Rattle.cf_next.specs.declared.step.Step.TheVariants as steps
use Rattle.cf_next.specs.Facts.{Facts}
use Rattle.cf_next.specs.Stands.{as_receiver, callee, Kind, Frame, Work}
use Rattle.cf_next.specs.Demands.{work_left}
use Rattle.cf_next.specs.Advance.{bindings_by, is_post, kind_item, releases_of, spend_work}
use Rattle.cf_next.specs.Steps.{StepFits, called_left}
use Rattle.cf_next.specs.Next.{top_frame}
use Rattle.cf_next.specs.Stacks.{is_block}

-- a frame after a line that does this to a variable, with the registrations that it lists
abbrev pub line_finished : Ownership → Option ℕ → List ℕ → Frame → Frame
line_finished ownership o receivers f = record {
  kind = f.kind;
  block = f.block;
  number = f.number + 1;
  bindings = bindings_by ownership o ++ f.bindings;
  collected = map (callee as_receiver) receivers;
}

-- the registrations that a statement lists
abbrev pub receivers_of : Statement → List ℕ → List ℕ
receivers_of x list = if is_post (says x) then list else []

-- after a handler of this kind, with this info: the release of its info, the item if it is spent, and its release
abbrev pub return_of : Facts → Kind → Option ℕ → List Work
return_of facts kind info = releases_of info ++ (spend_work facts kind ++ releases_of (kind_item kind))

-- how many items of work are left after a step
abbrev pub IsWorkFound : Facts → List Work → Step → Type 0
IsWorkFound facts work (steps.Owes o left) = left ≡ length (work_left facts work)
IsWorkFound facts work (steps.Spends i left) = left ≡ length (work_left facts work)
IsWorkFound facts work (steps.Drops b k o left) = left ≡ length (work_left facts work)
IsWorkFound facts work _ = Unit {0}

-- what was looked up in the innermost frame
abbrev pub IsFrameFound : Facts → ℕ → List Frame → Step → Type 0
IsFrameFound facts t fs (steps.Calls k h info left) = left ≡ length (called_left facts t (top_frame fs))
IsFrameFound facts t fs steps.Returns = is_block (top_frame fs).kind ≡ false
IsFrameFound facts t fs steps.Closes = is_block (top_frame fs).kind ≡ false
IsFrameFound facts t fs _ = Unit {0}

-- the place after a slot that is dropped fits
abbrev pub PlaceFits : Step → Type 0
PlaceFits (steps.Drops b k o left) = k + 1 < 2 ^ 32
PlaceFits _ = Unit {0}

-- the next line's number and the next slot's place fit
pub record Fits (x : Step) (number : ℕ) : Type 0 where
  pub line : StepFits x number
  pub place : PlaceFits x
