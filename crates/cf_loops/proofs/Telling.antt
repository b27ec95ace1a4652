-- What loops tell of a state, and what leaves them as they are.
use Rattle.std.proofs.Common.{◌≡◌, ℕ, Bool, true, false, ltb, List, refl, sym, ap, ◌∙◌}
use Rattle.std.specs.List.{filter, All}
use Rattle.std.proofs.lemmas.List.Elements.{All-weaker}
use Rattle.rl_base.specs.declared.places.Place.{Place}
use Rattle.rl_base.specs.declared.places.Place.TheVariants.{Common, Mode}
use Rattle.rl_modes.specs.Loops.{Holding, Loop, holds_at}
use Rattle.cf_syntax.specs.declared.script.Script.{Script}
use Rattle.cf_graph.specs.Edges.{Reference, held_by, weigh, one, counted, has}
use Rattle.cf_model.specs.State.{CommonMode, Parts, modes_of, is_common}
use Rattle.cf_model.specs.Deals.{holder_at}
use Rattle.cf_loops.specs.Following.{AreLoops, IsLoop, IsItem, KeepsKinds, SameItems, SamePlaces, IsPlaceOfLoop, loop_at}

-- ---- what a place holds

pub counted_tells : (b : Bool) → ltb 0 (counted b) ≡ b
counted_tells true = refl
counted_tells false = refl

pub held_is : (s : Script) (p : Parts) (es : List Reference) (t : ℕ) (l : Loop) → IsLoop s p es t l
    → (q : Place) (i : ℕ) → has (holder_at t q) i es ≡ holds_at l.held i q
held_is s p es t l h q i = ap (ltb 0) (h.held q i) ∙ counted_tells (holds_at l.held i q)

pub told : (s : Script) (p : Parts) (es : List Reference) (loops : List Loop) → AreLoops s p es loops
    → (t i : ℕ) (q : Place) → has (holder_at t q) i es ≡ holds_at (loop_at t loops).held i q
told s p es loops h t i q = held_is s p es t (loop_at t loops) (h.loops_are t) q i

-- ---- what leaves loops as they are

pub place_of_loop : (t : ℕ) (q : Place) → IsPlaceOfLoop (holder_at t q)
place_of_loop t Common = tt
place_of_loop t (Mode m) = tt

pub items_kept : (s : Script) (p q : Parts) (hs : List Holding) → KeepsKinds p.objects q.objects → All (IsItem s p) hs
    → All (IsItem s q) hs
items_kept s p q hs kinds = All-weaker (IsItem s p) (IsItem s q) (λ h is. record { place = is.place; kind = kinds h.item.id h.item.kind is.kind }) hs

pub loop_kept : (s : Script) (p q : Parts) (es fs : List Reference) (t : ℕ) (l : Loop) → SameItems p q
    → ((k : Place) (i : ℕ) → weigh (one (held_by (holder_at t k) i)) fs ≡ weigh (one (held_by (holder_at t k) i)) es)
    → IsLoop s p es t l → IsLoop s q fs t l
loop_kept s p q es fs t l same refs h = record {
  held = λ k i. refs k i ∙ h.held k i;
  items = items_kept s p q l.held same.kinds h.items;
  ordered = h.ordered;
}

pub kept : (s : Script) (p q : Parts) (es fs : List Reference) (loops : List Loop) → AreLoops s p es loops
    → SameItems p q → SamePlaces es fs → AreLoops s q fs loops
kept s p q es fs loops h same refs = record {
  threads = h.threads;
  few = h.few;
  loops_are = λ t. loop_kept s p q es fs t (loop_at t loops) same (λ k i. refs (held_by (holder_at t k) i) (place_of_loop t k)) (h.loops_are t);
  commons = λ t lt. h.commons t lt ∙ sym (ap (λ (cs : List CommonMode). filter (is_common t cs) (modes_of s)) same.commons);
}
