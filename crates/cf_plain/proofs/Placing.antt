-- What the place of a member tells of plain lists.
use Rattle.std.proofs.Common.{◌≡◌, ℕ, zero, suc, ◌+◌, ◌-◌, ◌==◌, Bool, true, false, cond, not, nat_lt, List, [], ◌∷◌, ◌++◌, slice_get, slice_set, get_or, remove, Option, Some, None, is_some, refl, sym, ap, ◌∙◌, subst, arith}
use Rattle.std.specs.Prelude.{find, position}
use Rattle.std.proofs.lemmas.Grind.{common_steps}
use Rattle.std.proofs.lemmas.Option.{same_Some, none-some}
use Rattle.std.specs.List.{list_any}
use Rattle.std.specs.Map.{lookup, lookup_entry, lookup_key, remove_entry, set_value, set_key}
use Rattle.std.specs.Option.{option_map, option_to_list}
use Rattle.cf_basichash.specs.Members.{members_replaced, members_set, members_without, rows_set, rows_without}
use Rattle.cf_basichash.specs.Tables.{pairs_with, place_of}
use Rattle.cf_basichash.proofs.TablesLemmas.{found, missing}
use Rattle.cf_types.specs.declared.cells.Cell.{Cell}
use Rattle.cf_contents.specs.Contents.{flat, present}
use Rattle.cf_contents.specs.Deeds.{rows_with_one_more}

by_test : (t : Bool) (p n : ℕ)
    → cond (nat_lt (cond (not t) (1 + p) 0) (suc n)) (Some (cond (not t) (1 + p) 0)) None
    ≡ cond t (Some 0) (option_map suc (cond (nat_lt p n) (Some p) None))
by_test true p n = grind (arith, common_steps)
by_test false p n = grind (arith, common_steps)

module _ {E : Type 0} (test : E → Bool) where
  position-cons : (x : E) (xs : List E)
      → position test (x ∷ xs) ≡ cond (test x) (Some 0) (option_map suc (position test xs))
  position-cons x xs = by_test (test x) _ _

  -- the member at i is the first that passes
  pub record Placed (xs : List E) (i : ℕ) (x : E) : Type 0 where
    pub there : slice_get xs i ≡ Some x
    pub first : find test xs ≡ Some x
    pub any : list_any test xs ≡ true
    pub replaced : (y : E) → slice_set xs i y ≡ members_replaced test xs y
    pub removed : remove xs i ≡ members_without test xs

  -- no member passes
  pub record Absent (xs : List E) : Type 0 where
    pub first : find test xs ≡ None
    pub any : list_any test xs ≡ false
    pub removed : members_without test xs ≡ xs

  placed_first : (x : E) (xs : List E) → test x ≡ true → Placed (x ∷ xs) zero x
  placed_first x xs t = record {
    there = refl;
    first = rw t refl;
    any = rw t refl;
    replaced = λ y. rw t refl;
    removed = rw t refl;
  }

  placed_later : (x : E) (xs : List E) (i : ℕ) (other : E) → test x ≡ false → Placed xs i other
      → Placed (x ∷ xs) (suc i) other
  placed_later x xs i other t p = record {
    there = p.there;
    first = rw t p.first;
    any = rw t p.any;
    replaced = λ y. rw t (ap (λ rest. x ∷ rest) (p.replaced y));
    removed = rw t (ap (λ rest. x ∷ rest) p.removed);
  }

  placed_by : (x : E) (xs : List E) → ((j : ℕ) → position test xs ≡ Some j → (other : E) × Placed xs j other)
      → (t : Bool) (o : Option ℕ) → test x ≡ t → position test xs ≡ o → (i : ℕ)
      → cond t (Some 0) (option_map suc o) ≡ Some i → (other : E) × Placed (x ∷ xs) i other
  placed_by x xs rest true o t p i e =
      subst (λ n. (other : E) × Placed (x ∷ xs) n other) (same_Some 0 i e) (x, placed_first x xs t)
  placed_by x xs rest false None t p i e = absurd (none-some i e)
  placed_by x xs rest false (Some j) t p i e =
      let later = rest j p in
      subst (λ n. (other : E) × Placed (x ∷ xs) n other) (same_Some (suc j) i e)
      (later.0, placed_later x xs j later.0 t later.1)

  pub placed : (xs : List E) (i : ℕ) → position test xs ≡ Some i → (x : E) × Placed xs i x
  placed [] i h = absurd (none-some i h)
  placed (x ∷ xs) i h =
      placed_by x xs (placed xs) (test x) (position test xs) refl refl i (sym (position-cons x xs) ∙ h)

  absent_later : (x : E) (xs : List E) → test x ≡ false → Absent xs → Absent (x ∷ xs)
  absent_later x xs t a = record {
    first = rw t a.first;
    any = rw t a.any;
    removed = rw t (ap (λ rest. x ∷ rest) a.removed);
  }

  absent_by : (x : E) (xs : List E) → (position test xs ≡ None → Absent xs) → (t : Bool) (o : Option ℕ)
      → test x ≡ t → position test xs ≡ o → cond t (Some 0) (option_map suc o) ≡ None → Absent (x ∷ xs)
  absent_by x xs rest true o t p e = absurd (none-some 0 (sym e))
  absent_by x xs rest false None t p e = absent_later x xs t (rest p)
  absent_by x xs rest false (Some j) t p e = absurd (none-some (suc j) (sym e))

  pub absent : (xs : List E) → position test xs ≡ None → Absent xs
  absent [] h = record { first = refl; any = refl; removed = refl }
  absent (x ∷ xs) h =
      absent_by x xs (absent xs) (test x) (position test xs) refl refl (sym (position-cons x xs) ∙ h)

  -- ---- what edits at a place leave

  pub set_there : (xs : List E) (i : ℕ) (y : E) → position test xs ≡ Some i → slice_set xs i y ≡ members_set test xs y
  set_there xs i y h = let p = (placed xs i h).1 in rw p.any (p.replaced y)

  pub set_more : (xs : List E) (y : E) → position test xs ≡ None → xs ++ y ∷ [] ≡ members_set test xs y
  set_more xs y h = rw (absent xs h).any refl

  pub removed_there : (xs : List E) (i : ℕ) → position test xs ≡ Some i → remove xs i ≡ members_without test xs
  removed_there xs i h = (placed xs i h).1.removed

  pub removed_none : (xs : List E) → position test xs ≡ None → xs ≡ members_without test xs
  removed_none xs h = sym (absent xs h).removed

  pub first_there : (xs : List E) (i : ℕ) (x : E) → position test xs ≡ Some i → x ≡ get_or xs i x
      → find test xs ≡ Some x
  first_there xs i x h at = let p = placed xs i h in p.1.first ∙ ap Some (read_at xs i p.0 x p.1.there at)
    where
      read_at : (xs : List E) (i : ℕ) (y x : E) → slice_get xs i ≡ Some y → x ≡ get_or xs i x → y ≡ x
      read_at [] i y x g at = absurd (none-some y g)
      read_at (z ∷ zs) zero y x g at = sym (same_Some z y g) ∙ sym at
      read_at (z ∷ zs) (suc i) y x g at = read_at zs i y x g at

  pub first_none : (xs : List E) → position test xs ≡ None → find test xs ≡ None
  first_none xs h = (absent xs h).first

module _ {E V : Type 0} (test : E → Bool) where
  row_read : (rows : List (E × V)) (i : ℕ) (y x : E × V) → slice_get rows i ≡ Some y → x ≡ get_or rows i x → y ≡ x
  row_read [] i y x g at = absurd (none-some y g)
  row_read (z ∷ zs) zero y x g at = sym (same_Some z y g) ∙ sym at
  row_read (z ∷ zs) (suc i) y x g at = row_read zs i y x g at

  -- the row at the place that was found is the first one whose key passes
  pub entry_there : (rows : List (E × V)) (i : ℕ) (x : E × V) → place_of test rows ≡ Some i → x ≡ get_or rows i x
      → lookup_entry test rows ≡ Some x
  entry_there rows i x h at =
      let p = found test rows i h in p.1.entry ∙ ap Some (row_read rows i p.0 x p.1.there at)

  pub value_there : (rows : List (E × V)) (i : ℕ) (x : E × V) → place_of test rows ≡ Some i → x ≡ get_or rows i x
      → lookup test rows ≡ Some x.1
  value_there rows i x h at =
      let p = found test rows i h in p.1.value ∙ ap (λ (r : E × V). Some r.1) (row_read rows i p.0 x p.1.there at)

  key_entry : (rows : List (E × V)) → lookup_key test rows ≡ option_map (λ row. row.0) (lookup_entry test rows)
  key_entry [] = refl
  key_entry (row ∷ rows) = by (test row.0) (key_entry rows)
    where
      by : (t : Bool) → lookup_key test rows ≡ option_map (λ r. r.0) (lookup_entry test rows) →
          cond t (Some row.0) (lookup_key test rows) ≡ option_map (λ r. r.0) (cond t (Some row) (lookup_entry test rows))
      by true rest = refl
      by false rest = rest

  pub key_there : (rows : List (E × V)) (i : ℕ) (x : E × V) → place_of test rows ≡ Some i → x ≡ get_or rows i x
      → lookup_key test rows ≡ Some x.0
  key_there rows i x h at = key_entry rows ∙ ap (option_map (λ (r : E × V). r.0)) (entry_there rows i x h at)

  pub entry_none : (rows : List (E × V)) → place_of test rows ≡ None → lookup_entry test rows ≡ None
  entry_none rows h = (missing test rows h).entry

  pub value_none : (rows : List (E × V)) → place_of test rows ≡ None → lookup test rows ≡ None
  value_none rows h = (missing test rows h).value

  pub key_none : (rows : List (E × V)) → place_of test rows ≡ None → lookup_key test rows ≡ None
  key_none rows h = key_entry rows ∙ ap (option_map (λ (r : E × V). r.0)) (entry_none rows h)

  pub entry_removed : (rows : List (E × V)) (i : ℕ) → place_of test rows ≡ Some i
      → remove rows i ≡ remove_entry test rows
  entry_removed rows i h = (found test rows i h).1.removed

  pub none_removed : (rows : List (E × V)) → place_of test rows ≡ None → rows ≡ remove_entry test rows
  none_removed rows h = sym (missing test rows h).removed

  -- a row with another value, or with another key
  pub revalued : (rows : List (E × V)) (i : ℕ) (x : E × V) (v : V) → place_of test rows ≡ Some i → x ≡ get_or rows i x
      → slice_set rows i (x.0, v) ≡ set_value test rows v
  revalued rows i x v h at =
      let p = found test rows i h in
      ap (λ (r : E × V). slice_set rows i (r.0, v)) (sym (row_read rows i p.0 x p.1.there at)) ∙ p.1.revalued v

  pub rekeyed : (rows : List (E × V)) (i : ℕ) (x : E × V) (k : E) → place_of test rows ≡ Some i → x ≡ get_or rows i x
      → slice_set rows i (k, x.1) ≡ set_key test rows k
  rekeyed rows i x k h at =
      let p = found test rows i h in
      ap (λ (r : E × V). slice_set rows i (k, r.1)) (sym (row_read rows i p.0 x p.1.there at)) ∙ p.1.rekeyed k

  pub pair_there : (rows : List (E × V)) (i : ℕ) (x : E × V) (k : E) (v : V) → place_of test rows ≡ Some i
      → x ≡ get_or rows i x → slice_set rows i (x.0, v) ≡ pairs_with test rows k v
  pair_there rows i x k v h at = rw (value_there rows i x h at) (revalued rows i x v h at)

  pub pair_more : (rows : List (E × V)) (k : E) (v : V) → place_of test rows ≡ None
      → rows ++ (k, v) ∷ [] ≡ pairs_with test rows k v
  pair_more rows k v h = rw (value_none rows h) refl

  pub some_value : (rows : List (E × V)) (o : Option ℕ) → place_of test rows ≡ o
      → is_some (lookup test rows) ≡ is_some o
  some_value rows None h = ap is_some (value_none rows h)
  some_value rows (Some i) h = ap is_some (found test rows i h).1.value

-- a pair that is found, as its key and its value
pub pair_flat : (test : Cell → Bool) (rows : List (Cell × ℕ)) (k v : Option ℕ)
    → k ≡ option_map (λ (p : Cell × ℕ). p.0.id) (lookup_entry test rows) → v ≡ lookup test rows
    → present (k ∷ v ∷ []) ≡ flat (option_to_list (lookup_entry test rows))
pair_flat test [] k v is at = rw (is, at) refl
pair_flat test (row ∷ rows) k v is at = by (test row.0) (pair_flat test rows k v) is at
  where
    by : (t : Bool)
        → (k ≡ option_map (λ (p : Cell × ℕ). p.0.id) (lookup_entry test rows) → v ≡ lookup test rows
        → present (k ∷ v ∷ []) ≡ flat (option_to_list (lookup_entry test rows)))
        → k ≡ option_map (λ (p : Cell × ℕ). p.0.id) (cond t (Some row) (lookup_entry test rows))
        → v ≡ cond t (Some row.1) (lookup test rows)
        → present (k ∷ v ∷ []) ≡ flat (option_to_list (cond t (Some row) (lookup_entry test rows)))
    by true rest is at = rw (is, at) refl
    by false rest is at = rest is at

pub one_more_there : (test : Cell → Bool) (rows : List (Cell × ℕ)) (i : ℕ) (x : Cell × ℕ) (k : Cell)
    → place_of test rows ≡ Some i → x ≡ get_or rows i x
    → slice_set rows i (x.0, x.1 + 1) ≡ rows_with_one_more test rows k (lookup test rows)
one_more_there test rows i x k h at =
    rw (value_there test rows i x h at) (revalued test rows i x (x.1 + 1) h at)

pub one_more_none : (test : Cell → Bool) (rows : List (Cell × ℕ)) (k : Cell) → place_of test rows ≡ None
    → rows ++ (k, 1) ∷ [] ≡ rows_with_one_more test rows k (lookup test rows)
one_more_none test rows k h = rw (value_none test rows h) refl

module _ {E : Type 0} (test : E → Bool) where
  pub row_set_there : (rows : List (E × ℕ)) (i : ℕ) (x : E × ℕ) (k : E) → place_of test rows ≡ Some i
      → x ≡ get_or rows i x → slice_set rows i (k, x.1) ≡ rows_set test rows k
  row_set_there rows i x k h at = rw (value_there test rows i x h at) (rekeyed test rows i x k h at)

  pub row_set_none : (rows : List (E × ℕ)) (k : E) → place_of test rows ≡ None
      → rows ++ (k, 1) ∷ [] ≡ rows_set test rows k
  row_set_none rows k h = rw (value_none test rows h) refl

  -- one less of a member, by the row that was read and the row that is written
  pub less_last : (rows : List (E × ℕ)) (i : ℕ) (x : E × ℕ) → place_of test rows ≡ Some i → x ≡ get_or rows i x
      → x.1 ≡ 1 → remove rows i ≡ rows_without test rows
  less_last rows i x h at one = rw (value_there test rows i x h at) (rw one (entry_removed test rows i h))

  pub less_other : (rows : List (E × ℕ)) (i : ℕ) (x y : E × ℕ) → place_of test rows ≡ Some i → x ≡ get_or rows i x
      → y ≡ get_or rows i y → (x.1 == 1) ≡ false → slice_set rows i (y.0, x.1 - 1) ≡ rows_without test rows
  less_other rows i x y h at there more =
      rw (value_there test rows i x h at) (rw more (revalued test rows i y (x.1 - 1) h there))

  pub less_none : (rows : List (E × ℕ)) → place_of test rows ≡ None → rows ≡ rows_without test rows
  less_none rows h = rw (value_none test rows h) refl
