-- How contracts see what a thread does next, with what was looked up for it.
use Rattle.std.specs.Prelude.{◌≡◌, ℕ, ◌+◌, ◌-◌, ◌^◌, ◌<◌, Bool, true, false, ◌&&◌, ◌==◌, List, [], ◌∷◌, length, Option, Some, None, slice_get, cond, not, is_some}
use Rattle.std.specs.List.{All}
use Rattle.cf_ids.specs.Ranges.{IsObjectNumber}
use Rattle.cf_syntax.specs.declared.script.Script.{Script}
use Rattle.cf_syntax.specs.declared.statement.Statement.{Statement}
use Rattle.cf_syntax.specs.declared.statement.Statement.TheVariants as forms
use Rattle.cf_syntax.specs.BlockLines.{BlockLine, begins, claims, says, packs}
use Rattle.cf_next.specs.declared.object.Used.{Used}
use Rattle.cf_next.specs.declared.step.Step.{Step}
use Rattle.cf_next.specs.declared.step.Step.TheVariants as steps
use Rattle.cf_next.specs.Facts.{Facts}
use Rattle.cf_next.specs.Stands.{Callee, Frame, Stand}
use Rattle.cf_next.specs.Demands.{Demand, demand, does, ends, returns, owes, spends, drops, calls, enters, closes, callees_left, work_left, frame_lines}
use Rattle.cf_next.specs.Next.{top_frame, used_objects, lines_before}
use Rattle.cf_next.specs.Advance.{is_post}
use Rattle.cf_next.specs.Stacks.{is_block}
use Rattle.cf_next.specs.Standing.{Standing, HasRoom}
use Rattle.cf_next.specs.Views.{callee_of, object_of, objects_of}

-- what is demanded
abbrev pub demand_of : Step → Demand
demand_of steps.Begins = does (begins 0)
demand_of (steps.Claims k v) = does (claims k v)
demand_of (steps.Says x used n) = does (says x.now)
demand_of (steps.Packs t k v) = does (packs t k v)
demand_of steps.Ends = ends
demand_of steps.Returns = returns
demand_of (steps.Owes o left) = owes o
demand_of (steps.Spends i left) = spends i
demand_of (steps.Drops b k o left) = drops b k o
demand_of (steps.Calls k h info left) = calls (callee_of k) (record { handler = h; info = object_of info })
demand_of (steps.Enters p) = enters p
demand_of steps.Closes = closes

-- ---- what was looked up beside it

-- a line that comes next in the innermost frame
abbrev pub IsLine : Script → BlockLine → List Frame → Type 0
IsLine s x [] = ⊥
IsLine s x (f ∷ fs) = slice_get (frame_lines s f.kind f.block) f.number ≡ Some x

-- the objects that a statement uses, and its number in its block
pub record IsSaid (s : Script) (x : Statement) (used : Used) (number : ℕ) (f : Frame) : Type 0 where
  pub objects : objects_of used ≡ used_objects f.bindings (says x)
  pub numbered : number ≡ f.number - lines_before s f.kind f.block

abbrev pub IsLineStep : Script → List Frame → Step → Type 0
IsLineStep s fs steps.Begins = IsLine s (begins 0) fs
IsLineStep s fs (steps.Claims k v) = IsLine s (claims k v) fs
IsLineStep s fs (steps.Says x used n) = IsLine s (says x.now) fs × IsSaid s x.now used n (top_frame fs)
IsLineStep s fs (steps.Packs t k v) = IsLine s (packs t k v) fs
IsLineStep s fs _ = Unit {0}

-- how many are left of what was collected, and of work; and that the innermost frame is not that of the thread's block
-- where it ends
abbrev pub called_left : Facts → ℕ → Frame → List Callee
called_left facts t f = callees_left facts t f.kind f.collected

abbrev pub IsFound : Facts → ℕ → Stand → Step → Type 0
IsFound facts t stand (steps.Owes o left) = left ≡ length (work_left facts stand.work)
IsFound facts t stand (steps.Spends i left) = left ≡ length (work_left facts stand.work)
IsFound facts t stand (steps.Drops b k o left) = left ≡ length (work_left facts stand.work)
IsFound facts t stand (steps.Calls k h info left) = left ≡ length (called_left facts t (top_frame stand.frames))
IsFound facts t stand steps.Returns = is_block (top_frame stand.frames).kind ≡ false
IsFound facts t stand steps.Closes = is_block (top_frame stand.frames).kind ≡ false
IsFound facts t stand _ = Unit {0}

-- the slot that is dropped is there, and the place after it has a number
abbrev pub HasSlot : Facts → Step → Type 0
HasSlot facts (steps.Drops b k o left) = (facts.slot b k ≡ Some o) × (k + 1 < 2 ^ 32)
HasSlot facts _ = Unit {0}

-- a step that a thread demands, with what was looked up for it
pub record IsStep (s : Script) (facts : Facts) (t : ℕ) (stand : Stand) (x : Step) : Type 0 where
  pub demand : demand s facts t stand ≡ Some (demand_of x)
  pub line : IsLineStep s stand.frames x
  pub found : IsFound facts t stand x
  pub slot : HasSlot facts x

-- ---- what an entry needs

-- a step is a line of a block
abbrev pub is_line : Step → Bool
is_line steps.Begins = true
is_line (steps.Claims k v) = true
is_line (steps.Says x used n) = true
is_line (steps.Packs t k v) = true
is_line _ = false

-- the number of lines that are done fits
abbrev pub StepFits : Step → (number : ℕ) → Type 0
StepFits x n = cond (is_line x) (n + 1 < 2 ^ 32) (Unit {0})

-- the object to which a step takes a reference away
abbrev pub cut_by : Statement → Used → Option ℕ
cut_by (forms.Release v) used = object_of used.first
cut_by _ used = None

abbrev pub step_cut : Step → Option ℕ
step_cut (steps.Says x used n) = cut_by x.now used
step_cut (steps.Owes o left) = Some o
step_cut (steps.Drops b k o left) = Some o
step_cut _ = None

-- a retain needs no room
abbrev pub says_retain : Statement → Bool
says_retain (forms.Retain v) = true
says_retain _ = false

abbrev pub is_retain_step : Step → Bool
is_retain_step (steps.Says x used n) = says_retain x.now
is_retain_step _ = false

-- a retain takes none away
abbrev pub IsCutBy : Step → Option ℕ → Type 0
IsCutBy x cut = cond (is_retain_step x) (cut ≡ None) (Unit {0})

abbrev pub StepRoom : Step → (more : ℕ) → Standing → Type 0
StepRoom x more s = cond (is_retain_step x && more == 0) (Unit {0}) (HasRoom more s)

-- the numbers that an entry lists are those of objects; a `post` lists registrations
abbrev pub step_posts : Step → Bool
step_posts (steps.Says x used n) = is_post (says x.now)
step_posts _ = false

abbrev pub StepLists : Step → List ℕ → Type 0
StepLists x list = cond (step_posts x) (Unit {0}) (All IsObjectNumber list)

-- ---- a statement that is entered

-- a retain that finalises and lists nothing needs no room
abbrev pub SaysRoom : Statement → (finalised : Option ℕ) → (more : ℕ) → Standing → Type 0
SaysRoom x finalised more s =
    cond (says_retain x && (more == 0 && not (is_some finalised))) (Unit {0}) (HasRoom more s)

abbrev pub SaysList : Statement → List ℕ → Type 0
SaysList x list = cond (is_post (says x)) (Unit {0}) (All IsObjectNumber list)
