-- What entries tell, one by one.
use Rattle.std.proofs.Common.{◌≡◌, ℕ, ◌+◌, ◌<◌, ◌≤◌, Bool, true, false, cond, List, [], ◌∷◌, ◌++◌, length, take, get_or, Option, Some, None, eqb, refl, sym, ap, ◌∙◌, subst, append_assoc, append-nil, length-append, arith, inl, inr}
use Rattle.std.specs.Prelude.{slice_index_or, slice_set, nat_lt, ◌==◌}
use Rattle.std.specs.Option.{option_to_list}
use Rattle.std.proofs.lemmas.Bool.Decides.{eqb_tells, nat_tests}
use Rattle.std.proofs.lemmas.List.{take_more, get_or-set_same, get_or-set_other}
use Rattle.std.proofs.Math.ListN.{length-set}
use Rattle.cf_syntax.specs.declared.script.Script.{Script}
use Rattle.cf_model.specs.declared.entry.Entry.{Entry}
use Rattle.cf_model.specs.Finals.{final_of, finals, one_at}
use Rattle.cf_render.specs.Ends.{alive_in, without}
use Rattle.cf_render.specs.Made.{told_in, classes_told, finalised_in}

classes-append : (s : Script) (es fs : List Entry) → classes_told s (es ++ fs) ≡ classes_told s es ++ classes_told s fs
classes-append s [] fs = refl
classes-append s (e ∷ es) fs = ap (λ (l : List ℕ). option_to_list (told_in s e) ++ l) (classes-append s es fs) ∙ sym (append_assoc (option_to_list (told_in s e)) (classes_told s es) (classes_told s fs))

finalised-append : (es fs : List Entry) → finalised_in (es ++ fs) ≡ finalised_in es ++ finalised_in fs
finalised-append [] fs = refl
finalised-append (e ∷ es) fs = ap (λ (l : List ℕ). option_to_list (final_of e) ++ l) (finalised-append es fs) ∙ sym (append_assoc (option_to_list (final_of e)) (finalised_in es) (finalised_in fs))

finals-append : (o : ℕ) (es fs : List Entry) → finals o (es ++ fs) ≡ finals o es + finals o fs
finals-append o [] fs = omega arith
finals-append o (e ∷ es) fs = omega (arith, finals-append o es fs)

module _ (journal : List Entry) (i : ℕ) (e : Entry) (lt : i < length journal) (is : e ≡ get_or journal i e) where
  more : take (i + 1) journal ≡ take i journal ++ e ∷ []
  more = take_more journal i e lt ∙ ap (λ (x : Entry). take i journal ++ x ∷ []) (sym is)

  -- ---- classes

  pub class_more : (s : Script) (class : Option ℕ) (now after : List ℕ) → told_in s e ≡ class
      → after ≡ now ++ option_to_list class
      → now ≡ classes_told s (take i journal) → after ≡ classes_told s (take (i + 1) journal)
  class_more s class now after told is so_far =
      is ∙ ap (λ (l : List ℕ). l ++ option_to_list class) so_far ∙ ap (λ (c : Option ℕ). classes_told s (take i journal) ++ option_to_list c) (sym told)
      ∙ ap (λ (l : List ℕ). classes_told s (take i journal) ++ l) (sym (append-nil (option_to_list (told_in s e))))
      ∙ sym (ap (classes_told s) more ∙ classes-append s (take i journal) (e ∷ []))

  -- ---- finals

  pub count_more : (f : Option ℕ) (n : ℕ) → final_of e ≡ f → n ≡ length (finalised_in (take i journal))
      → n + length (option_to_list f) ≡ length (finalised_in (take (i + 1) journal))
  count_more f n final so_far =
      let parts : finalised_in (take (i + 1) journal) ≡ finalised_in (take i journal) ++ option_to_list f =
      ap finalised_in more ∙ finalised-append (take i journal) (e ∷ []) ∙ ap (λ (l : List ℕ). finalised_in (take i journal) ++ l) (append-nil (option_to_list (final_of e)) ∙ ap option_to_list final) in
      omega (arith, so_far, ap length parts, length-append (finalised_in (take i journal)) (option_to_list f))

  pub count_same : (n : ℕ) → final_of e ≡ None → n ≡ length (finalised_in (take i journal))
      → n ≡ length (finalised_in (take (i + 1) journal))
  count_same n none so_far = omega (arith, count_more None n none so_far)

  finals_more : (o : ℕ) (f : Option ℕ) → final_of e ≡ f
      → finals o (take (i + 1) journal) ≡ finals o (take i journal) + one_at o f
  finals_more o f final = ap (finals o) more ∙ finals-append o (take i journal) (e ∷ []) ∙ omega (arith, ap (one_at o) final)

-- which objects entries leave
pub record AreLeft (made : ℕ) (es : List Entry) (alive : List Bool) : Type 0 where
  pub size : length alive ≡ made
  pub at : (o : ℕ) → o < made → alive_in alive o ≡ (finals o es == 0)

above_none : (m : ℕ) → (m + 1 == 0) ≡ false
above_none m = grind (arith, nat_tests)

module _ (made : ℕ) (journal : List Entry) (i : ℕ) (e : Entry) (lt : i < length journal) (is : e ≡ get_or journal i e) (alive : List Bool) (h : AreLeft made (take i journal) alive) where
  pub none_final : (next : List Bool) → final_of e ≡ None → next ≡ alive → AreLeft made (take (i + 1) journal) next
  none_final next none q = rw q record {
    size = h.size;
    at = λ o below. h.at o below ∙ ap (λ (n : ℕ). n == 0) (omega (arith, finals_more journal i e lt is o None none));
  }

  other_same : (o p : ℕ) → final_of e ≡ Some p → eqb p o ≡ false
      → finals o (take (i + 1) journal) ≡ finals o (take i journal)
  other_same o p final apart = finals_more journal i e lt is o (Some p) final ∙ ap (λ (b : Bool). finals o (take i journal) + cond {A = ℕ} b 1 0) apart ∙ omega arith

  one_more : (p : ℕ) → final_of e ≡ Some p → finals p (take (i + 1) journal) ≡ finals p (take i journal) + 1
  one_more p final = finals_more journal i e lt is p (Some p) final ∙ ap (λ (b : Bool). finals p (take i journal) + cond {A = ℕ} b 1 0) (same p)
    where
      same : (n : ℕ) → eqb n n ≡ true
      same n = grind (arith, nat_tests)

  by_place : (p : ℕ) (b : Bool) → final_of e ≡ Some p → nat_lt p (length alive) ≡ b
      → AreLeft made (take (i + 1) journal) (cond b (slice_set alive p false) alive)
  by_place p true final here =
      let within : p < length alive = grind (arith, nat_tests) in
      record {
        size = length-set alive p false ∙ h.size;
        at = λ o below. elim (eqb_tells p o) [
          | inl same ↦
              subst (λ (q : ℕ). slice_index_or (slice_set alive p false) q false ≡ (finals q (take (i + 1) journal) == 0)) same.1
              (get_or-set_same alive p false false within ∙ sym (ap (λ (n : ℕ). n == 0) (one_more p final) ∙ above_none (finals p (take i journal))))
          | inr other ↦
              get_or-set_other alive p o false false (λ q. other.1 (sym q)) ∙ h.at o below ∙ ap (λ (n : ℕ). n == 0) (sym (other_same o p final other.0))
        ];
      }
  by_place p false final past =
      let beyond : length alive ≤ p = grind (arith, nat_tests) in
      record {
        size = h.size;
        at = λ o below. elim (eqb_tells p o) [
          | inl same ↦ absurd (omega (arith, same.1, beyond, below, h.size))
          | inr other ↦ h.at o below ∙ ap (λ (n : ℕ). n == 0) (sym (other_same o p final other.0))
        ];
      }

  pub one_final : (p : ℕ) (next : List Bool) → final_of e ≡ Some p → next ≡ without alive p
      → AreLeft made (take (i + 1) journal) next
  one_final p next final q = rw q (by_place p (nat_lt p (length alive)) final refl)
