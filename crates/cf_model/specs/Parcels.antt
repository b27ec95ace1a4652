-- How many references a place of a parcel has, after entries of any script. This project's own.
use Rattle.std.specs.Prelude.{◌≡◌, ℕ, ◌≤◌, List, Some, None}
use Rattle.cf_graph.specs.Holders.{Holder, same_holder}
use Rattle.cf_graph.specs.Edges.{Reference, counted, held_by, weigh, one}
use Rattle.cf_graph.specs.Operations.{without}
use Rattle.cf_model.specs.State.{first_held}

-- the weight of a holder: 1 for each reference that it has
abbrev pub from_holder : Holder → Reference → ℕ
from_holder h r = counted (same_holder h r.holder)

-- a holder has one reference at most: with it gone it has none, and if none is found there is none
pub record HasOneAtMost (h : Holder) (es : List Reference) : Type 0 where
  pub few : weigh (from_holder h) es ≤ 1
  pub gone : (o : ℕ) → first_held h es ≡ Some o → first_held h (without (held_by h o) es) ≡ None
  pub none : first_held h es ≡ None → (o : ℕ) → weigh (one (held_by h o)) es ≡ 0
