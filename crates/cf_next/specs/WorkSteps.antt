-- How many items are left after what work or what was collected demands, in the code's lists, which have the first one
-- last.
use Rattle.std.specs.Prelude.{◌≡◌, ℕ, ◌≤◌, List, [], ◌∷◌, length, take, Option, Some, None}
use Rattle.cf_next.specs.declared.parts.Callee.{Callee as CodeCallee}
use Rattle.cf_next.specs.declared.parts.Work.{Work as CodeWork}
use Rattle.cf_next.specs.declared.step.Step.{Step}
use Rattle.cf_next.specs.declared.step.Step.TheVariants as steps
use Rattle.cf_next.specs.Facts.{Facts}
use Rattle.cf_next.specs.Stands.{Callee, Kind, Work}
use Rattle.cf_next.specs.Demands.{Demand, callout_of, call_if, callees_left, work_demand, work_left}
use Rattle.cf_next.specs.Views.{callees_of, works_of}

-- what one item demands, and what one that was collected does
abbrev pub item_demand : Facts → Work → Option Demand
item_demand facts w = work_demand facts (w ∷ [])

abbrev pub callee_demand : Facts → ℕ → Kind → Callee → Option Demand
callee_demand facts t kind k = call_if k (callout_of facts t kind k.role k.number) None

abbrev pub work_left_of : Step → Option ℕ
work_left_of (steps.Owes o left) = Some left
work_left_of (steps.Spends i left) = Some left
work_left_of (steps.Drops b k o left) = Some left
work_left_of _ = None

abbrev pub callees_left_of : Step → Option ℕ
callees_left_of (steps.Calls k h info left) = Some left
callees_left_of _ = None

pub record WorkLeft (facts : Facts) (work : List CodeWork) (n : ℕ) : Type 0 where
  pub is : work_left facts (works_of work) ≡ works_of (take n work)
  pub within : n ≤ length work

abbrev pub IsWorkLeft : Facts → List CodeWork → Option ℕ → Type 0
IsWorkLeft facts work None = ⊥
IsWorkLeft facts work (Some n) = WorkLeft facts work n

pub record CalleesLeft (facts : Facts) (t : ℕ) (kind : Kind) (collected : List CodeCallee) (n : ℕ) : Type 0 where
  pub is : callees_left facts t kind (callees_of collected) ≡ callees_of (take n collected)
  pub within : n ≤ length collected

abbrev pub AreCalleesLeft : Facts → ℕ → Kind → List CodeCallee → Option ℕ → Type 0
AreCalleesLeft facts t kind collected None = ⊥
AreCalleesLeft facts t kind collected (Some n) = CalleesLeft facts t kind collected n
