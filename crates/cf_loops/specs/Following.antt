-- What the run loops of a run are to its state. Each loop holds in a place what the state has references of that place
-- to, and its common modes are those of the state's parts. This project's own; what modes and common items are is after
-- the Run Loops guide.
use Rattle.std.specs.Prelude.{◌≡◌, ℕ, ◌<◌, ◌≤◌, List, [], ◌∷◌, length, Option, Some, None, slice_get, slice_index_or}
use Rattle.std.specs.List.{All}
use Rattle.cf_ids.specs.declared.limits.TheConstants.{MODES}
use Rattle.cf_ids.specs.declared.numbers.ItemKind.{ItemKind}
use Rattle.rl_base.specs.declared.places.Place.{Place}
use Rattle.rl_base.specs.Modes.{rank}
use Rattle.rl_modes.specs.Loops.{Holding, Loop, holds_at}
use Rattle.rl_modes.specs.Fields.{IsOrdered}
use Rattle.cf_syntax.specs.declared.script.Script.{Script}
use Rattle.cf_syntax.specs.declared.statement.Statement.{Statement}
use Rattle.cf_syntax.specs.declared.statement.Statement.TheVariants as forms
use Rattle.cf_syntax.specs.BlockLines.{BlockLine, says}
use Rattle.cf_graph.specs.Holders.{Holder, in_mode, in_common}
use Rattle.cf_graph.specs.Edges.{Reference, held_by, weigh, one, counted}
use Rattle.cf_graph.specs.Flows.{Flow, Move, grows, shrinks, flowed}
use Rattle.cf_contents.specs.Contents.{Object}
use Rattle.cf_contents.specs.Deeds.{Change, in_item}
use Rattle.cf_contents.specs.Items.{kind_of}
use Rattle.cf_next.specs.Demands.{Demand, does, spends}
use Rattle.cf_model.specs.State.{Parts, State}
use Rattle.cf_model.specs.Things.{Thing, thing_of, thing_at}
use Rattle.cf_model.specs.Deals.{Deal, holder_at, common_modes}
use Rattle.cf_model.specs.Steps.{deal_step}

-- ---- one loop

-- a loop that holds nothing and has `default` as its one common mode, as each is at the start
abbrev pub first_loop : Loop
first_loop = record { held = []; common_modes = 0 ∷ []; room = 0 }

-- a thread that is not there has no loop, and so nothing is held
abbrev pub no_loop : Loop
no_loop = record { held = []; common_modes = []; room = 0 }

-- the loop of a thread
abbrev pub loop_at : ℕ → List Loop → Loop
loop_at t loops = slice_index_or loops t no_loop

-- the kind of what may be an item
abbrev pub kind_in : Option Thing → Option ItemKind
kind_in None = None
kind_in (Some x) = Some (kind_of x.item)

-- a holding is of an object that was made and is an item of that kind, in a mode of the script or the common items
pub record IsItem (s : Script) (p : Parts) (h : Holding) : Type 0 where
  pub place : rank h.place ≤ length s.modes
  pub kind : kind_in (thing_at p h.item.id) ≡ Some h.item.kind

-- a thread's loop is as the parts and the references have it: there is one reference of a place to each item that the
-- place holds, and none to others; what is held are items; and it is held in order
pub record IsLoop (s : Script) (p : Parts) (es : List Reference) (t : ℕ) (l : Loop) : Type 0 where
  pub held : (q : Place) (i : ℕ) → weigh (one (held_by (holder_at t q) i)) es ≡ counted (holds_at l.held i q)
  pub items : All (IsItem s p) l.held
  pub ordered : IsOrdered l.held

-- ---- all loops

-- the loops are those of a script's threads, as the parts and the references have them, with the common modes of the
-- parts; the script has no more modes than there are numbers for
pub record AreLoops (s : Script) (p : Parts) (es : List Reference) (loops : List Loop) : Type 0 where
  pub threads : length loops ≡ s.thread_count
  pub few : length s.modes ≤ MODES
  pub loops_are : (t : ℕ) → IsLoop s p es t (loop_at t loops)
  pub commons : (t : ℕ) → t < s.thread_count → (loop_at t loops).common_modes ≡ common_modes s t p

-- what is so of every state that the loops are those of
abbrev pub InStates : List Loop → (Script → State → Type 0) → Type 0
InStates loops P = (s : Script) (st : State) → AreLoops s st.parts st.edges loops → P s st

-- the loops after a deal of a thread are those of the parts and the references that it leaves
abbrev pub AfterDeal : Script → State → ℕ → Deal → List Loop → Type 0
AfterDeal s st t deal loops = AreLoops s deal.parts (flowed (deal_step t deal []).flow st.edges) loops

-- ---- what leaves loops as they are

-- a holder is a place of a loop
abbrev pub IsPlaceOfLoop : Holder → Type 0
IsPlaceOfLoop (in_mode t m) = Unit {0}
IsPlaceOfLoop (in_common t) = Unit {0}
IsPlaceOfLoop _ = ⊥

-- each place of a loop has the same references
abbrev pub SamePlaces : List Reference → List Reference → Type 0
SamePlaces es fs = (r : Reference) → IsPlaceOfLoop r.holder → weigh (one r) fs ≡ weigh (one r) es

-- no place of a loop has one of these references
abbrev pub AllElsewhere : List Reference → Type 0
AllElsewhere [] = Unit {0}
AllElsewhere (r ∷ rs) = (IsPlaceOfLoop r.holder → ⊥) × AllElsewhere rs

-- no reference moves from a place of a loop or to one
abbrev pub MovesElsewhere : List Move → Type 0
MovesElsewhere [] = Unit {0}
MovesElsewhere (m ∷ ms) = (IsPlaceOfLoop m.from.holder → ⊥) × (IsPlaceOfLoop m.to → ⊥) × MovesElsewhere ms

-- a flow has nothing to do with places of loops
abbrev pub IsElsewhere : Flow → Type 0
IsElsewhere (grows enters moves) = AllElsewhere enters × MovesElsewhere moves
IsElsewhere (shrinks r) = IsPlaceOfLoop r.holder → ⊥

-- each item among some objects is one of that kind among others
abbrev pub KeepsKinds : List Object → List Object → Type 0
KeepsKinds obs after =
    (i : ℕ) (k : ItemKind) → kind_in (thing_of (slice_get obs i)) ≡ Some k → kind_in (thing_of (slice_get after i)) ≡ Some k

-- parts that loops cannot tell from earlier ones: the common modes are the same, and each item is there and is of its
-- kind
pub record SameItems (p q : Parts) : Type 0 where
  pub commons : q.commons ≡ p.commons
  pub kinds : KeepsKinds p.objects q.objects

-- a change leaves an item of this kind one of its kind
abbrev pub KeepsKind : Change → ItemKind → Type 0
KeepsKind (in_item valid item) k = kind_of item ≡ k
KeepsKind _ k = Unit {0}

-- a statement moves no reference of a place of a loop: all but the forms of which this is the sense
abbrev pub LeavesLoops : Statement → Type 0
LeavesLoops (forms.Add v u m) = ⊥
LeavesLoops (forms.Drop v u m) = ⊥
LeavesLoops (forms.Common u m) = ⊥
LeavesLoops (forms.Invalidate v) = ⊥
LeavesLoops _ = Unit {0}

-- the same of a demand: of the line that it asks for, if it asks for one; what is spent is invalidated
abbrev pub LineLeavesLoops : BlockLine → Type 0
LineLeavesLoops (says x) = LeavesLoops x
LineLeavesLoops _ = Unit {0}

abbrev pub DemandLeavesLoops : Demand → Type 0
DemandLeavesLoops (does x) = LineLeavesLoops x
DemandLeavesLoops (spends i) = ⊥
DemandLeavesLoops _ = Unit {0}
