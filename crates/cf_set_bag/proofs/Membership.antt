-- The members of rows are edited as the rows are, and all that is found of a member stands in its row.
use Rattle.std.proofs.Common.{◌≡◌, ℕ, Bool, true, false, cond, List, [], ◌∷◌, ◌++◌, Option, Some, None, is_some, IsNone, ◌↔◌, refl, ap}
use Rattle.std.specs.List.{list_any, find}
use Rattle.std.specs.Map.{keys_of, lookup, lookup_entry, lookup_key, remove_entry, set_key}
use Rattle.std.specs.Option.{option_map}
use Rattle.std.specs.Prelude.{◌||◌, if◌then◌else◌}
use Rattle.std.proofs.lemmas.List.{map_push}
use Rattle.cf_basichash.proofs.TablesLemmas.{found, missing}
use Rattle.cf_basichash.specs.Tables.{place_of}
use Rattle.cf_basichash.specs.Members.{members_replaced, members_set, members_without}

module _ {E V : Type 0} (test : E → Bool) where
  -- the member, its number and whether it is there are read off its row
  pub lookup_key-entry : (rows : List (E × V)) →
      lookup_key test rows ≡ option_map (λ row. row.0) (lookup_entry test rows)
  lookup_key-entry [] = refl
  lookup_key-entry (row ∷ rows) = by (test row.0) (lookup_key-entry rows)
    where
      by : (t : Bool) → lookup_key test rows ≡ option_map (λ r. r.0) (lookup_entry test rows) →
          cond t (Some row.0) (lookup_key test rows) ≡ option_map (λ r. r.0)
          (cond t (Some row) (lookup_entry test rows))
      by true rest = refl
      by false rest = rest

  pub lookup-entry : (rows : List (E × V)) → lookup test rows ≡ option_map (λ row. row.1) (lookup_entry test rows)
  lookup-entry [] = refl
  lookup-entry (row ∷ rows) = by (test row.0) (lookup-entry rows)
    where
      by : (t : Bool) → lookup test rows ≡ option_map (λ r. r.1) (lookup_entry test rows) →
          cond t (Some row.1) (lookup test rows) ≡ option_map (λ r. r.1) (cond t (Some row) (lookup_entry test rows))
      by true rest = refl
      by false rest = rest

  pub find-keys_of : (rows : List (E × V)) → find test (keys_of rows) ≡ lookup_key test rows
  find-keys_of [] = refl
  find-keys_of (row ∷ rows) = ap (cond (test row.0) (Some row.0)) (find-keys_of rows)

  pub list_any-keys_of : (rows : List (E × V)) → list_any test (keys_of rows) ≡ is_some (lookup_key test rows)
  list_any-keys_of [] = refl
  list_any-keys_of (row ∷ rows) = by (test row.0) (list_any-keys_of rows)
    where
      by : (t : Bool) → list_any test (keys_of rows) ≡ is_some (lookup_key test rows) →
          t || list_any test (keys_of rows) ≡ is_some (cond t (Some row.0) (lookup_key test rows))
      by true rest = refl
      by false rest = rest

  -- a number is there exactly if its member is
  pub is_some-lookup : (rows : List (E × V)) → is_some (lookup test rows) ≡ is_some (lookup_key test rows)
  is_some-lookup rows = rw (lookup-entry rows, lookup_key-entry rows) (by (lookup_entry test rows))
    where
      by : (o : Option (E × V)) → is_some (option_map (λ row. row.1) o) ≡ is_some (option_map (λ row. row.0) o)
      by None = refl
      by (Some row) = refl

  -- edits
  pub members_replaced-keys_of : (rows : List (E × V)) (x : E) →
      members_replaced test (keys_of rows) x ≡ keys_of (set_key test rows x)
  members_replaced-keys_of [] x = refl
  members_replaced-keys_of (row ∷ rows) x = by (test row.0) (members_replaced-keys_of rows x)
    where
      by : (t : Bool) → members_replaced test (keys_of rows) x ≡ keys_of (set_key test rows x) →
          cond t (x ∷ keys_of rows) (row.0 ∷ members_replaced test (keys_of rows) x) ≡ keys_of
          (cond t ((x, row.1) ∷ rows) (row ∷ set_key test rows x))
      by true rest = refl
      by false rest = ap (λ ms. row.0 ∷ ms) rest

  pub members_without-keys_of : (rows : List (E × V)) →
      members_without test (keys_of rows) ≡ keys_of (remove_entry test rows)
  members_without-keys_of [] = refl
  members_without-keys_of (row ∷ rows) = by (test row.0) (members_without-keys_of rows)
    where
      by : (t : Bool) → members_without test (keys_of rows) ≡ keys_of (remove_entry test rows) →
          cond t (keys_of rows) (row.0 ∷ members_without test (keys_of rows)) ≡ keys_of
          (cond t rows (row ∷ remove_entry test rows))
      by true rest = refl
      by false rest = ap (λ ms. row.0 ∷ ms) rest

  -- a member is missing exactly if its row is
  pub none_found : (rows : List (E × V)) → IsNone (place_of test rows) ↔ IsNone (find test (keys_of rows))
  none_found rows = by (place_of test rows) refl
    where
      by : (o : Option ℕ) → place_of test rows ≡ o → IsNone o ↔ IsNone (find test (keys_of rows))
      by None p = rw (find-keys_of rows, lookup_key-entry rows, (missing test rows p).entry) (λ h. h, λ h. h)
      by (Some i) p = rw (find-keys_of rows, lookup_key-entry rows, (found test rows i p).1.entry) (λ h. h, λ h. h)

  -- the members after one is set, by the rows after
  pub members_set-keys_of : (rows after : List (E × V)) (x : E) (v : V) →
      after ≡ (if is_some (lookup test rows) then set_key test rows x else rows ++ (x, v) ∷ []) →
      keys_of after ≡ members_set test (keys_of rows) x
  members_set-keys_of rows after x v e =
      rw (e, list_any-keys_of rows, ← is_some-lookup rows, members_replaced-keys_of rows x)
      (by (is_some (lookup test rows)))
    where
      by : (t : Bool) →
          keys_of (if t then set_key test rows x else rows ++ (x, v) ∷ []) ≡
          (if t then keys_of (set_key test rows x) else keys_of rows ++ x ∷ [])
      by true = refl
      by false = map_push (λ (row : E × V). row.0) rows (x, v)
