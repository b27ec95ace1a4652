-- What is looked up in the loops of all threads, one after another.
use Rattle.std.proofs.Common.{◌≡◌, ℕ, ◌+◌, ◌<◌, ◌≤◌, Bool, true, false, not, ◌&&◌, eqb, List, length, get_or, set, refl, sym, ap, ◌∙◌, subst, arith, inl, inr, length-append, length-set, get_or-set_same, get_or-set_other}
use Rattle.std.specs.List.{list_any, range_with_len}
use Rattle.std.proofs.lemmas.Bool.{ne_eqb}
use Rattle.std.proofs.lemmas.Bool.Decides.{eqb_tells}
use Rattle.std.proofs.lemmas.List.Folds.{list_any_at, list_any_none}
use Rattle.std.proofs.lemmas.List.Elements.{All-weaker}
use Rattle.std.proofs.lemmas.List.FromFn.{length-range_with_len, get_or-range_with_len}
use Rattle.rl_base.specs.declared.places.Place.{Place}
use Rattle.rl_modes.specs.Loops.{Loop}
use Rattle.cf_syntax.specs.declared.script.Script.{Script}
use Rattle.cf_next.specs.Held.{below}
use Rattle.cf_next.proofs.HeldLaws.{below-none, below-more}
use Rattle.cf_model.specs.State.{State, threads_of}
use Rattle.cf_model.specs.Deals.{is_elsewhere, loop_places}
use Rattle.cf_loops.specs.Following.{AreLoops, loop_at, no_loop}
use Rattle.cf_loops.specs.Changing.{HasLeft, HaveLeft, places_at}
use Rattle.cf_loops.proofs.Ranging.{any_agree, range_within}
use Rattle.cf_loops.proofs.Looking.{at_read, places_told}

-- ---- how many places hold an item

pub count_none : (i : ℕ) (loops : List Loop) → 0 ≡ length (below (λ t. places_at i (loop_at t loops)) 0)
count_none i loops = sym (ap length (below-none (λ t. places_at i (loop_at t loops))))

pub count_more : (i : ℕ) (loops : List Loop) (k n m : ℕ) (l : Loop)
    → n ≡ length (below (λ t. places_at i (loop_at t loops)) k) → m ≡ length (places_at i l) → l ≡ loop_at k loops
    → n + m ≡ length (below (λ t. places_at i (loop_at t loops)) (k + 1))
count_more i loops k n m l so_far one is =
    let f : ℕ → List Place = λ t. places_at i (loop_at t loops) in
    omega (arith, so_far, one, ap (λ (x : Loop). length (places_at i x)) is, ap length (below-more f k), length-append (below f k) (f k))

-- ---- an item in another loop

pub other_held : (i : ℕ) (loops : List Loop) (w t k : ℕ) (l : Loop) (b : Bool) → (w ≡ k → ⊥) → k ≡ t
    → b ≡ not (eqb (length (places_at i l)) 0) → b ≡ true → l ≡ loop_at w loops
    → (not (eqb w t) && not (eqb (length (places_at i (loop_at w loops))) 0)) ≡ true
other_held i loops w t k l b apart same test on is =
    let first : eqb w t ≡ false = ne_eqb w t (λ e. apart (e ∙ sym same)) in
    let second : not (eqb (length (places_at i (loop_at w loops))) 0) ≡ true = ap (λ (x : Loop). not (eqb (length (places_at i x)) 0)) (sym is) ∙ sym test ∙ on in
    rw first second

module _ (s : Script) (st : State) (loops : List Loop) (t i : ℕ) (h : AreLoops s st.parts st.edges loops) where
  abbrev elsewhere : ℕ → Bool
  elsewhere w = not (eqb w t) && not (eqb (length (places_at i (loop_at w loops))) 0)

  elsewhere_is : is_elsewhere s t i st.edges ≡ list_any elsewhere (threads_of s)
  elsewhere_is =
      any_agree (λ w. not (eqb w t) && not (eqb (length (loop_places s w i st.edges)) 0)) elsewhere (threads_of s)
      (λ k d lt. ap (λ (ps : List Place). not (eqb (get_or (threads_of s) k d) t) && not (eqb (length ps) 0)) (places_told s st.parts st.edges (get_or (threads_of s) k d) (loop_at (get_or (threads_of s) k d) loops) (h.loops_are (get_or (threads_of s) k d)) h.few i))

  pub found_elsewhere : (w : ℕ) → w < length loops → elsewhere w ≡ true → is_elsewhere s t i st.edges ≡ true
  found_elsewhere w lt e =
      let within : w < s.thread_count = omega (arith, lt, h.threads) in
      let at : get_or (range_with_len 0 s.thread_count) w 0 ≡ w = get_or-range_with_len 0 s.thread_count w 0 within ∙ omega arith in
      elsewhere_is ∙ list_any_at elsewhere (threads_of s) w 0 (omega (arith, within, length-range_with_len 0 s.thread_count)) (ap elsewhere at ∙ e)

  pub not_elsewhere : ((w : ℕ) → w < length loops → elsewhere w ≡ false) → is_elsewhere s t i st.edges ≡ false
  not_elsewhere none =
      elsewhere_is
      ∙ list_any_none elsewhere (threads_of s) (All-weaker (λ x. (0 ≤ x) × (x < 0 + s.thread_count)) (λ x. elsewhere x ≡ false) (λ x w. none x (omega (arith, w.1, h.threads))) (threads_of s) (range_within 0 s.thread_count))

-- ---- an item that leaves one loop after another

pub left_none : (i : ℕ) (loops : List Loop) → HaveLeft i 0 loops loops
left_none i loops = record { count = refl; left = λ t lt. absurd (omega (arith, lt)); rest = λ t le. refl }

pub left_more : (i k : ℕ) (before now : List Loop) (was new : Loop) → HaveLeft i k before now → k < length now
    → was ≡ get_or now k was → HasLeft i was new → HaveLeft i (k + 1) before (set now k new)
left_more i k before now was new h lt is left = record {
  count = length-set now k new ∙ h.count;
  left = λ t below. elim (eqb_tells t k) [
    | inl e ↦
        let own : loop_at t (set now k new) ≡ new = ap (λ (n : ℕ). loop_at n (set now k new)) e.1 ∙ get_or-set_same now k new no_loop lt in
        let old : was ≡ loop_at t before = at_read now now k k was refl refl lt is ∙ h.rest k (omega arith) ∙ ap (λ (n : ℕ). loop_at n before) (sym e.1) in
        subst (HasLeft i (loop_at t before)) (sym own) (subst (λ (l : Loop). HasLeft i l new) old left)
    | inr e ↦ subst (HasLeft i (loop_at t before)) (sym (get_or-set_other now k t new no_loop e.1)) (h.left t (smaller t k below e.1))
  ];
  rest = λ t le. get_or-set_other now k t new no_loop (λ e. absurd (omega (arith, e, le))) ∙ h.rest t (omega (arith, le));
}
  where
    smaller : (t k : ℕ) → t < k + 1 → (t ≡ k → ⊥) → t < k
    smaller t k lt apart = omega arith

pub left_by_all : (i n : ℕ) (loops items after : List Loop) → items ≡ loops → n ≡ length items
    → HaveLeft i n items after → HaveLeft i (length loops) loops after
left_by_all i n loops items after same all h =
    subst (λ (ls : List Loop). HaveLeft i (length ls) ls after) same (subst (λ (k : ℕ). HaveLeft i k items after) all h)
