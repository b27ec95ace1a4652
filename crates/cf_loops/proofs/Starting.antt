-- The loops at the start of a script.
use Rattle.std.proofs.Common.{◌≡◌, ℕ, zero, suc, ◌+◌, ◌<◌, ◌≤◌, Bool, true, false, cond, ◌&&◌, ◌||◌, eqb, List, [], ◌∷◌, length, map, get_or, replicate, refl, sym, ap, ◌∙◌, subst, arith, inl, inr}
use Rattle.std.specs.List.{range_with_len}
use Rattle.std.proofs.lemmas.Bool.{cases_lt}
use Rattle.std.proofs.lemmas.Bool.Decides.{eqb_tells}
use Rattle.std.proofs.lemmas.List.{length-replicate}
use Rattle.std.proofs.lemmas.List.Elements.{All-nil}
use Rattle.cf_ids.specs.declared.limits.TheConstants.{MODES}
use Rattle.rl_modes.specs.Loops.{Loop}
use Rattle.cf_syntax.specs.declared.script.Script.{Script}
use Rattle.cf_model.specs.State.{Parts, start, is_common}
use Rattle.cf_loops.specs.Following.{AreLoops, IsLoop, first_loop, no_loop, loop_at}
use Rattle.cf_loops.proofs.Ranging.{range_passes}

first_at : (n t : ℕ) → t < n → loop_at t (replicate n first_loop) ≡ first_loop
first_at zero t lt = absurd (omega arith)
first_at (suc n) zero lt = refl
first_at (suc n) (suc t) lt = first_at n t (omega (arith, lt))

none_at : (n t : ℕ) → n ≤ t → loop_at t (replicate n first_loop) ≡ no_loop
none_at zero t le = refl
none_at (suc n) zero le = absurd (omega arith)
none_at (suc n) (suc t) le = none_at n t (omega (arith, le))

-- a loop that holds nothing, where there are no references
empty_loop : (s : Script) (p : Parts) (t : ℕ) (l : Loop) → l.held ≡ [] → IsLoop s p [] t l
empty_loop s p t l e = record {
  held = λ q i. rw e refl;
  items = rw e (All-nil _);
  ordered = rw e (record { in_order = λ a b d lt below. absurd (omega arith); below = All-nil _ });
}

not_default : (t k n a : ℕ) → eqb 0 k ≡ false
    → is_common t (map (λ t. record { thread = t; mode = 0 }) (range_with_len a n)) k ≡ false
not_default t k zero a e = refl
not_default t k (suc n) a e = both (eqb a t) (eqb 0 k) e ∙ not_default t k n (a + 1) e
  where
    both : (b c : Bool) → c ≡ false
        → cond (b && c) true (is_common t (map (λ t. record { thread = t; mode = 0 }) (range_with_len (a + 1) n)) k) ≡ is_common t (map (λ t. record { thread = t; mode = 0 }) (range_with_len (a + 1) n)) k
    both true true e = absurd cc
    both true false e = refl
    both false c e = refl

is_default : (t k n a : ℕ) → eqb 0 k ≡ true → a ≤ t → t < a + n
    → is_common t (map (λ t. record { thread = t; mode = 0 }) (range_with_len a n)) k ≡ true
is_default t k zero a e le lt = absurd (omega arith)
is_default t k (suc n) a e le lt = elim (eqb_tells a t) [
  | inl q ↦ rw (q.0, e) refl
  | inr q ↦ rw q.0 (is_default t k n (a + 1) e (above a t le q.1) (omega (arith, lt)))
]
  where
    above : (b u : ℕ) → b ≤ u → (b ≡ u → ⊥) → b + 1 ≤ u
    above b u le apart = omega arith

default_is : (t k n : ℕ) → t < n
    → is_common t (map (λ t. record { thread = t; mode = 0 }) (range_with_len 0 n)) k ≡ (eqb 0 k || false)
default_is t k n lt = by (eqb 0 k) refl
  where
    by : (b : Bool) → eqb 0 k ≡ b
        → is_common t (map (λ t. record { thread = t; mode = 0 }) (range_with_len 0 n)) k ≡ (b || false)
    by true e = is_default t k n 0 e (omega arith) (omega (arith, lt))
    by false e = not_default t k n 0 e

pub first_loops : (s : Script) (n : ℕ) (loops : List Loop) → loops ≡ replicate n first_loop → s.thread_count ≡ n
    → 0 < length s.modes → length s.modes ≤ MODES → AreLoops s (start s).parts (start s).edges loops
first_loops s n loops is threads some few =
    subst (AreLoops s (start s).parts (start s).edges) (sym is) (record {
      threads = length-replicate n first_loop ∙ sym threads;
      few = few;
      loops_are = λ t. elim (cases_lt t n) [
        | inl lt ↦ empty_loop s (start s).parts t (loop_at t (replicate n first_loop)) (ap (λ (l : Loop). l.held) (first_at n t lt))
        | inr le ↦ empty_loop s (start s).parts t (loop_at t (replicate n first_loop)) (ap (λ (l : Loop). l.held) (none_at n t le))
      ];
      commons = λ t lt.
          ap (λ (l : Loop). l.common_modes) (first_at n t (omega (arith, lt, threads)))
          ∙ sym (range_passes (is_common t (start s).parts.commons) (length s.modes) 0 (0 ∷ []) (λ a b d l below. absurd (omega arith)) (λ k d l. here k d l)
          (λ k le. default_is t k s.thread_count lt));
    })
  where
    here : (k d : ℕ) → k < 1 → (0 ≤ get_or (0 ∷ []) k d) × (get_or (0 ∷ []) k d < 0 + length s.modes)
    here zero d l = (omega arith, omega (arith, some))
    here (suc k) d l = absurd (omega arith)
