-- References, and numbers of them: a weight gives each reference a number, and a list of references has
-- their sum. Every count of the product is a weight. This project's own.
use Rattle.std.specs.Prelude.{ℕ, ◌+◌, Bool, ◌&&◌, not, List, [], ◌∷◌, map, Option, option_to_list, ◌==◌, nat_lt, if◌then◌else◌}
use Rattle.cf_graph.specs.declared.edge.Edge.{Edge}
use Rattle.cf_graph.specs.Owners.{is_owning, is_thread, is_of_no_other}
use Rattle.cf_graph.specs.Holders.{Holder, same_holder, owner_of}

-- a reference to an object, with who holds it
pub record Reference : Type 0 where
  pub holder : Holder
  pub object : ℕ

-- a holder's reference to an object
abbrev pub held_by : Holder → ℕ → Reference
held_by h o = record { holder = h; object = o }

-- the reference to an object, if there is one
abbrev pub held_if : Holder → Option ℕ → List Reference
held_if h o = map (held_by h) (option_to_list o)

-- two references are the same: one holder, and one object
abbrev pub same : Reference → Reference → Bool
same a b = same_holder a.holder b.holder && (a.object == b.object)

-- the reference as callers see it
abbrev pub edge_of : Reference → Edge
edge_of r = record { owner = owner_of r.holder; object = r.object }

-- references as callers see them
abbrev pub edges_of : List Reference → List Edge
edges_of rs = map edge_of rs

-- the sum of a weight over references
abbrev pub weigh : (Reference → ℕ) → List Reference → ℕ
weigh g [] = 0
weigh g (r ∷ rs) = g r + weigh g rs

-- 1 if a test holds
abbrev pub counted : Bool → ℕ
counted b = if b then 1 else 0

-- the weight of a reference: 1 for this very one
abbrev pub one : Reference → Reference → ℕ
one r e = counted (same r e)

-- the weight of an object: 1 for each reference that leads to it
abbrev pub leading_to : ℕ → Reference → ℕ
leading_to o e = counted (e.object == o)

-- the weight of owned references: 1 for each that leads to an object from a thread or a parcel
abbrev pub owning : ℕ → Reference → ℕ
owning o e = counted ((e.object == o) && is_owning (owner_of e.holder))

-- the weight of held references: 1 for each that leads to an object from elsewhere
abbrev pub holding : ℕ → Reference → ℕ
holding o e = counted ((e.object == o) && not (is_owning (owner_of e.holder)))

-- the weight of a thread: 1 for each reference of its own that leads to an object
abbrev pub from_thread : ℕ → ℕ → Reference → ℕ
from_thread t o e = counted ((e.object == o) && is_thread t (owner_of e.holder))

-- the weight of an object for one who answers for some threads alone: 1 for each reference that leads to it, but for
-- those from threads that are none of these
abbrev pub held_with : List ℕ → ℕ → Reference → ℕ
held_with ts o e = counted ((e.object == o) && is_of_no_other ts (owner_of e.holder))

-- a holder has a reference to the object
abbrev pub has : Holder → ℕ → List Reference → Bool
has h o es = nat_lt 0 (weigh (one (held_by h o)) es)

-- how many references lead to an object
abbrev pub degree : ℕ → List Reference → ℕ
degree o es = weigh (leading_to o) es
