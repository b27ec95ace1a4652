-- Where the threads of a script stand at its start.
use Rattle.std.proofs.Common.{◌≡◌, ℕ, zero, suc, ◌+◌, ◌<◌, ◌∙◌, ◌⊎◌, List, [], ◌∷◌, ◌++◌, length, map, get_or, refl, sym, ap, arith, inl, inr, length-append}
use Rattle.std.specs.List.{range_with_len}
use Rattle.std.proofs.lemmas.List.{map-append, get_or_push}
use Rattle.std.proofs.lemmas.List.FromFn.{map-range_with_len_more}
use Rattle.std.proofs.lemmas.Bool.{cases_eq}
use Rattle.cf_syntax.specs.declared.script.Script.{Script}
use Rattle.cf_next.specs.Stands.{opening_stand}
use Rattle.cf_next.specs.Standing.{Standing}
use Rattle.cf_model.specs.State.{start}
use Rattle.cf_world.specs.Begun.{StandSo, nobody, standing_at}

-- so many threads stand at their first lines
pub record StartTo (n : ℕ) (frames : List Standing) : Type 0 where
  pub count : length frames ≡ n
  pub thread : (t : ℕ) → t < n → (standing_at frames t).thread ≡ t
  pub stand : map (λ (f : Standing). f.stand) frames ≡ map opening_stand (range_with_len 0 n)

pub start_none : StartTo 0 []
start_none = record { count = refl; thread = λ t below. absurd (omega (arith, below)); stand = refl }

before : (fs : List Standing) (f : Standing) (t : ℕ) → t < length fs
    → get_or (fs ++ f ∷ []) t nobody ≡ get_or fs t nobody
before [] f t h = absurd (omega (arith, h))
before (g ∷ gs) f zero h = refl
before (g ∷ gs) f (suc t) h = before gs f t (omega (arith, h))

pub start_more : (n : ℕ) (fs : List Standing) (f : Standing) → StartTo n fs → f.thread ≡ n → f.stand ≡ opening_stand n
    → StartTo (n + 1) (fs ++ f ∷ [])
start_more n fs f h thread stand = record {
  count = length-append fs (f ∷ []) ∙ ap (λ (k : ℕ). k + 1) h.count;
  thread = λ t below. by t below (cases_eq t n);
  stand = map-append (λ (g : Standing). g.stand) fs (f ∷ []) ∙ ap (λ xs. xs ++ f.stand ∷ []) h.stand ∙ ap (λ x. map opening_stand (range_with_len 0 n) ++ x ∷ []) stand
      ∙ sym (map-range_with_len_more opening_stand 0 n n (omega arith));
}
  where
    within : (t n : ℕ) → t < n + 1 → (t ≡ n → ⊥) → t < n
    within zero zero b other = absurd (other refl)
    within zero (suc n) b other = omega arith
    within (suc t) zero b other = absurd (omega (arith, b))
    within (suc t) (suc n) b other = omega (arith, within t n (omega (arith, b)) (λ e. other (ap suc e)))

    by : (t : ℕ) → t < n + 1 → (t ≡ n) ⊎ (t ≡ n → ⊥) → (get_or (fs ++ f ∷ []) t nobody).thread ≡ t
    by t below (inl e) = ap (λ (k : ℕ). (get_or (fs ++ f ∷ []) k nobody).thread) e ∙ ap (λ (g : Standing). g.thread) (get_or_push fs f nobody n h.count) ∙ thread ∙ sym e
    by t below (inr other) =
        let under : t < n = within t n below other in
        ap (λ (g : Standing). g.thread) (before fs f t (omega (arith, h.count, under))) ∙ h.thread t under

pub all_started : (s : Script) (n : ℕ) (fs : List Standing) → n ≡ s.thread_count → StartTo n fs
    → StandSo s (start s).stands fs
all_started s n fs e h = record {
  count = h.count ∙ e;
  thread = λ t below. h.thread t (omega (arith, e, below));
  stand = h.stand ∙ ap (λ (k : ℕ). map opening_stand (range_with_len 0 k)) e;
}
