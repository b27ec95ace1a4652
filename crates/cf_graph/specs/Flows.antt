-- What one entry does to references: it adds some and moves some to other holders, or it takes one away. This
-- project's own: that no entry does both is why a count moves in one direction in each entry.
use Rattle.std.specs.Prelude.{◌≡◌, ℕ, ◌+◌, ◌≤◌, List, [], ◌∷◌, ◌++◌, map, Option, Some, None}
use Rattle.cf_graph.specs.Holders.{Holder}
use Rattle.cf_graph.specs.Edges.{Reference, weigh, one, leading_to, degree}
use Rattle.cf_graph.specs.Operations.{Operation, add, move, remove, moved, run}

-- a reference that goes to another holder
pub record Move : Type 0 where
  pub from : Reference
  pub to : Holder

-- references enter and others move, or one is taken away
pub data Flow : Type 0 where
  grows : (enters : List Reference) (moves : List Move) → Flow
  shrinks : Reference → Flow

-- nothing enters, and nothing moves
abbrev pub still : Flow
still = grows [] []

-- a move as an operation
abbrev pub move_by : Move → Operation
move_by m = move m.from m.to

-- a flow as operations, one after another
abbrev pub operations_of : Flow → List Operation
operations_of (grows enters moves) = map add enters ++ map move_by moves
operations_of (shrinks r) = remove r ∷ []

-- the references that a flow leaves
abbrev pub flowed : Flow → List Reference → List Reference
flowed f es = run (operations_of f) es

-- the objects to which a flow adds a reference, one for each
abbrev pub gained_by : Flow → List ℕ
gained_by (grows enters moves) = map (λ r. r.object) enters
gained_by (shrinks r) = []

-- the object to which a flow takes a reference away, if it does
abbrev pub cut_of : Flow → Option ℕ
cut_of (grows enters moves) = None
cut_of (shrinks r) = Some r.object

-- how often a flow adds a reference to the object
abbrev pub gains : ℕ → Flow → ℕ
gains o (grows enters moves) = degree o enters
gains o (shrinks r) = 0

-- how often a flow takes a reference to the object away
abbrev pub cuts : ℕ → Flow → ℕ
cuts o (grows enters moves) = 0
cuts o (shrinks r) = leading_to o r

-- what a weight wins by moves
abbrev pub won_by_moves : (Reference → ℕ) → List Move → ℕ
won_by_moves g [] = 0
won_by_moves g (m ∷ ms) = g (moved m.from m.to) + won_by_moves g ms

-- what a weight loses by moves
abbrev pub lost_by_moves : (Reference → ℕ) → List Move → ℕ
lost_by_moves g [] = 0
lost_by_moves g (m ∷ ms) = g m.from + lost_by_moves g ms

-- what a weight wins by a flow
abbrev pub flow_won : (Reference → ℕ) → Flow → ℕ
flow_won g (grows enters moves) = weigh g enters + won_by_moves g moves
flow_won g (shrinks r) = 0

-- what a weight loses by a flow
abbrev pub flow_lost : (Reference → ℕ) → Flow → ℕ
flow_lost g (grows enters moves) = lost_by_moves g moves
flow_lost g (shrinks r) = g r

-- of no reference more is taken than is there
abbrev pub IsThere : Flow → List Reference → Type 0
IsThere f es = (r : Reference) → flow_lost (one r) f ≤ weigh (one r) es

-- a weight is balanced over a flow: what it leaves and what it loses is what was there and what it wins
abbrev pub IsBalancedFlow : (Reference → ℕ) → Flow → List Reference → Type 0
IsBalancedFlow weight f es = weigh weight (flowed f es) + flow_lost weight f ≡ weigh weight es + flow_won weight f

-- the number of references to an object is what it was, with those that were added and without those taken away
abbrev pub IsCounted : ℕ → Flow → List Reference → Type 0
IsCounted o f es = degree o (flowed f es) + cuts o f ≡ degree o es + gains o f
