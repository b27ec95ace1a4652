-- What the place of a row tells of std's words on pairs, and that edits keep keys distinct.
use Rattle.std.proofs.Common.{◌≡◌, ℕ, zero, suc, ◌+◌, Bool, true, false, cond, not, nat_lt, List, [], ◌∷◌, ◌++◌, slice_get, slice_set, remove, Option, Some, None, is_some, IsNone, IfSome, ◌↔◌, refl, sym, ap, ◌∙◌, subst, arith}
use Rattle.std.proofs.lemmas.List.{map-append}
use Rattle.std.proofs.lemmas.Grind.{common_steps}
use Rattle.std.proofs.lemmas.Map.Keys.{IsDistinct-head, IsDistinct-tail, IsDistinct-cons, IsDistinct-push}
use Rattle.std.proofs.lemmas.Option.{same_Some, none-some}
use Rattle.std.specs.Cmp.{IsEquivalence}
use Rattle.std.specs.List.{IsDistinct, AllByRecursion, list_any}
use Rattle.std.specs.Map.{keys_of, lookup, lookup_entry, remove_entry, set_value, set_key}
use Rattle.std.specs.Option.{option_map}
use Rattle.cf_basichash.specs.Tables.{Table, place_of}

by_test : (t : Bool) (p n : ℕ)
    → cond (nat_lt (cond (not t) (1 + p) 0) (suc n)) (Some (cond (not t) (1 + p) 0)) None
    ≡ cond t (Some 0) (option_map suc (cond (nat_lt p n) (Some p) None))
by_test true p n = grind (arith, common_steps)
by_test false p n = grind (arith, common_steps)

-- the place of the first row that passes, where one more row stands in front
pub place_of-cons : {K V : Type 0} (test : K → Bool) (row : K × V) (rows : List (K × V))
    → place_of test (row ∷ rows) ≡ cond (test row.0) (Some 0) (option_map suc (place_of test rows))
place_of-cons test row rows = by_test (test row.0) _ _

-- the row at i is the first that passes
pub record Found {K V : Type 0} (test : K → Bool) (rows : List (K × V)) (i : ℕ) (row : K × V) : Type 0 where
  pub there : slice_get rows i ≡ Some row
  pub passes : test row.0 ≡ true
  pub entry : lookup_entry test rows ≡ Some row
  pub value : lookup test rows ≡ Some row.1
  pub removed : remove rows i ≡ remove_entry test rows
  pub revalued : (v : V) → slice_set rows i (row.0, v) ≡ set_value test rows v
  pub rekeyed : (k : K) → slice_set rows i (k, row.1) ≡ set_key test rows k

-- no row passes
pub record Missing {K V : Type 0} (test : K → Bool) (rows : List (K × V)) : Type 0 where
  pub entry : lookup_entry test rows ≡ None
  pub value : lookup test rows ≡ None
  pub none : list_any test (keys_of rows) ≡ false
  pub removed : remove_entry test rows ≡ rows
  pub revalued : (v : V) → set_value test rows v ≡ rows
  pub rekeyed : (k : K) → set_key test rows k ≡ rows

module _ {K V : Type 0} (test : K → Bool) where
  first_found : (row : K × V) (rows : List (K × V)) → test row.0 ≡ true → Found test (row ∷ rows) zero row
  first_found row rows t = record {
    there = refl;
    passes = t;
    entry = rw t refl;
    value = rw t refl;
    removed = rw t refl;
    revalued = λ v. rw t refl;
    rekeyed = λ k. rw t refl;
  }

  later_found : (row : K × V) (rows : List (K × V)) (i : ℕ) (other : K × V) → test row.0 ≡ false
      → Found test rows i other → Found test (row ∷ rows) (suc i) other
  later_found row rows i other t f = record {
    there = f.there;
    passes = f.passes;
    entry = rw t f.entry;
    value = rw t f.value;
    removed = rw t (ap (λ rest. row ∷ rest) f.removed);
    revalued = λ v. rw t (ap (λ rest. row ∷ rest) (f.revalued v));
    rekeyed = λ k. rw t (ap (λ rest. row ∷ rest) (f.rekeyed k));
  }

  found_by_head : (row : K × V) (rows : List (K × V))
      → ((j : ℕ) → place_of test rows ≡ Some j → (other : K × V) × Found test rows j other) → (t : Bool) (o : Option ℕ)
      → test row.0 ≡ t → place_of test rows ≡ o → (i : ℕ) → cond t (Some 0) (option_map suc o) ≡ Some i
      → (other : K × V) × Found test (row ∷ rows) i other
  found_by_head row rows rest true o t p i e =
      subst (λ n. (other : K × V) × Found test (row ∷ rows) n other) (same_Some 0 i e) (row, first_found row rows t)
  found_by_head row rows rest false None t p i e = absurd (none-some i e)
  found_by_head row rows rest false (Some j) t p i e =
      let later = rest j p in
      subst (λ n. (other : K × V) × Found test (row ∷ rows) n other) (same_Some (suc j) i e)
      (later.0, later_found row rows j later.0 t later.1)

  -- the row at the place that was found
  pub found : (rows : List (K × V)) (i : ℕ) → place_of test rows ≡ Some i → (row : K × V) × Found test rows i row
  found [] i h = absurd (none-some i h)
  found (row ∷ rows) i h =
      found_by_head row rows (found rows) (test row.0) (place_of test rows) refl refl i
      (sym (place_of-cons test row rows) ∙ h)

  none_missing : Missing {V = V} test []
  none_missing = record {
    entry = refl;
    value = refl;
    none = refl;
    removed = refl;
    revalued = λ v. refl;
    rekeyed = λ k. refl;
  }

  later_missing : (row : K × V) (rows : List (K × V)) → test row.0 ≡ false → Missing test rows
      → Missing test (row ∷ rows)
  later_missing row rows t m = record {
    entry = rw t m.entry;
    value = rw t m.value;
    none = rw t m.none;
    removed = rw t (ap (λ rest. row ∷ rest) m.removed);
    revalued = λ v. rw t (ap (λ rest. row ∷ rest) (m.revalued v));
    rekeyed = λ k. rw t (ap (λ rest. row ∷ rest) (m.rekeyed k));
  }

  missing_by_head : (row : K × V) (rows : List (K × V)) → (place_of test rows ≡ None → Missing test rows)
      → (t : Bool) (o : Option ℕ) → test row.0 ≡ t → place_of test rows ≡ o → cond t (Some 0) (option_map suc o) ≡ None
      → Missing test (row ∷ rows)
  missing_by_head row rows rest true o t p e = absurd (none-some 0 (sym e))
  missing_by_head row rows rest false None t p e = later_missing row rows t (rest p)
  missing_by_head row rows rest false (Some j) t p e = absurd (none-some (suc j) (sym e))

  -- where no place was found
  pub missing : (rows : List (K × V)) → place_of test rows ≡ None → Missing test rows
  missing [] h = none_missing
  missing (row ∷ rows) h =
      missing_by_head row rows (missing rows) (test row.0) (place_of test rows) refl refl
      (sym (place_of-cons test row rows) ∙ h)

-- at the place that was found: the row there
pub row_found : {K V : Type 0} (test : K → Bool) (rows : List (K × V)) (i : ℕ) → place_of test rows ≡ Some i
    → slice_get rows i ≡ lookup_entry test rows
row_found test rows i p = (found test rows i p).1.there ∙ sym (found test rows i p).1.entry

-- at the place that was found: the value there, and the table where that value gives way to v
pub value_found : {K V : Type 0} (test : K → Bool) (rows : List (K × V)) (i : ℕ) (v : V) → place_of test rows ≡ Some i
    → IfSome (slice_get rows i) (λ row. v ≡ row.1) → lookup test rows ≡ Some v
value_found test rows i v p h = (found test rows i p).1.value ∙ ap Some (sym (rw (found test rows i p).1.there at h))

pub revalued_found : {K V C : Type 0} (test : K → Bool) (old new : Table K V C) (i : ℕ) (v : V)
    → place_of test old.rows ≡ Some i
    → IfSome (slice_get old.rows i) (λ row. new ≡ record old { rows = slice_set old.rows i (row.0, v) })
    → new ≡ record old { rows = set_value test old.rows v }
revalued_found test old new i v p h =
    rw (← (found test old.rows i p).1.revalued v) (rw (found test old.rows i p).1.there at h)

none_by : {K V : Type 0} (test : K → Bool) (rows : List (K × V)) (o : Option ℕ) → place_of test rows ≡ o
    → IsNone o ↔ IsNone (lookup test rows)
none_by test rows None p = rw (missing test rows p).value (λ h. h, λ h. h)
none_by test rows (Some i) p = rw (found test rows i p).1.value (λ h. h, λ h. h)

-- a place is missing exactly if a value is
pub none_together : {K V : Type 0} (test : K → Bool) (rows : List (K × V))
    → IsNone (place_of test rows) ↔ IsNone (lookup test rows)
none_together test rows = none_by test rows (place_of test rows) refl

-- what holds of each key holds of each that is left
pub all_removed : {K V : Type 0} (P : K → Type 0) (rows : List (K × V)) (i : ℕ) → AllByRecursion P (keys_of rows)
    → AllByRecursion P (keys_of (remove rows i))
all_removed P [] zero h = h
all_removed P [] (suc i) h = h
all_removed P (row ∷ rows) zero h = h.1
all_removed P (row ∷ rows) (suc i) h = (h.0, all_removed P rows i h.1)

-- keys stay distinct where a row is taken out
pub distinct_removed : {K V : Type 0} (e : K → K → Bool) (rows : List (K × V)) (i : ℕ) → IsDistinct e (keys_of rows)
    → IsDistinct e (keys_of (remove rows i))
distinct_removed e [] zero h = h
distinct_removed e [] (suc i) h = h
distinct_removed e (row ∷ rows) zero h = IsDistinct-tail e row.0 (keys_of rows) h
distinct_removed e (row ∷ rows) (suc i) h =
    IsDistinct-cons e row.0 (keys_of (remove rows i)) (all_removed _ rows i (IsDistinct-head e row.0 (keys_of rows) h))
    (distinct_removed e rows i (IsDistinct-tail e row.0 (keys_of rows) h))

-- what holds of each key holds of each where the one at i gives way to a key of which it holds too
pub all_rekeyed : {K V : Type 0} (P : K → Type 0) (rows : List (K × V)) (i : ℕ) (old new : K × V)
    → slice_get rows i ≡ Some old → (P old.0 → P new.0) → AllByRecursion P (keys_of rows)
    → AllByRecursion P (keys_of (slice_set rows i new))
all_rekeyed P [] i old new at moves h = absurd (none-some old at)
all_rekeyed {K = K} {V = V} P (row ∷ rows) zero old new at moves h =
    (moves (subst (λ (r : K × V). P r.0) (same_Some row old at) h.0), h.1)
all_rekeyed P (row ∷ rows) (suc i) old new at moves h = (h.0, all_rekeyed P rows i old new at moves h.1)

-- what the test for a value says
pub none_from_test : {X : Type 0} (o : Option X) → is_some o ≡ false → o ≡ None
none_from_test None e = refl
none_from_test (Some x) e = cc

-- keys stay distinct where a row is added whose key is equal to none
pub distinct_added : {K V : Type 0} {e : K → K → Bool} → IsEquivalence e → (rows : List (K × V)) (k : K) (v : V)
    → place_of (e k) rows ≡ None → IsDistinct e (keys_of rows) → IsDistinct e (keys_of (rows ++ (k, v) ∷ []))
distinct_added {e = e} laws rows k v absent h =
    rw map-append (IsDistinct-push laws (keys_of rows) k h (missing (e k) rows absent).none)

-- no keys are distinct
pub distinct_none : {K : Type 0} (e : K → K → Bool) → IsDistinct e []
unfolding IsDistinct
distinct_none e = tt

-- what holds of each element follows from what does
all_apart : {K : Type 0} {P Q : K → Type 0} → ((x : K) → P x → Q x) → (xs : List K) → AllByRecursion P xs
    → AllByRecursion Q xs
all_apart f [] h = h
all_apart f (x ∷ xs) h = (f x h.0, all_apart f xs h.1)

-- keys stay distinct where a key gives way to an equal one
pub distinct_rekeyed : {K V : Type 0} (e : K → K → Bool) → IsEquivalence e
    → (rows : List (K × V)) (i : ℕ) (old new : K × V) → slice_get rows i ≡ Some old → e new.0 old.0 ≡ true
    → IsDistinct e (keys_of rows) → IsDistinct e (keys_of (slice_set rows i new))
distinct_rekeyed e laws [] i old new at same h = absurd (none-some old at)
distinct_rekeyed {K = K} {V = V} e laws (row ∷ rows) zero old new at same h =
    let first : row ≡ old = same_Some row old at in
    IsDistinct-cons e new.0 (keys_of rows)
    (all_apart (λ y apart. laws.congr new.0 old.0 y same ∙ ap (λ (r : K × V). e r.0 y) (sym first) ∙ apart)
    (keys_of rows) (IsDistinct-head e row.0 (keys_of rows) h))
    (IsDistinct-tail e row.0 (keys_of rows) h)
distinct_rekeyed e laws (row ∷ rows) (suc i) old new at same h =
    IsDistinct-cons e row.0 (keys_of (slice_set rows i new))
    (all_rekeyed _ rows i old new at (λ apart. laws.symm row.0 new.0 ∙ laws.congr new.0 old.0 row.0 same
    ∙ laws.symm old.0 row.0 ∙ apart) (IsDistinct-head e row.0 (keys_of rows) h))
    (distinct_rekeyed e laws rows i old new at same (IsDistinct-tail e row.0 (keys_of rows) h))

-- keys stay as they are where a value gives way to another
pub keys_revalued : {K V : Type 0} (rows : List (K × V)) (i : ℕ) (row : K × V) (v : V) → slice_get rows i ≡ Some row
    → keys_of (slice_set rows i (row.0, v)) ≡ keys_of rows
keys_revalued [] i row v at = absurd (none-some row at)
keys_revalued {K = K} {V = V} (first ∷ rows) zero row v at =
    ap (λ (r : K × V). r.0 ∷ keys_of rows) (sym (same_Some first row at))
keys_revalued (first ∷ rows) (suc i) row v at = ap (λ keys. first.0 ∷ keys) (keys_revalued rows i row v at)

pub distinct_revalued : {K V : Type 0} (e : K → K → Bool) (rows : List (K × V)) (i : ℕ) (row : K × V) (v : V)
    → slice_get rows i ≡ Some row → IsDistinct e (keys_of rows) → IsDistinct e (keys_of (slice_set rows i (row.0, v)))
distinct_revalued e rows i row v at h = rw (keys_revalued rows i row v at) h
