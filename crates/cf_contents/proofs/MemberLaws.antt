-- Members, rows of a bag and rows of a heap, of which one is added, put in place of its equal or removed: what becomes
-- of their objects, and by how much they grow.
use Rattle.std.proofs.Common.{arith, ◌≡◌, ℕ, suc, ◌+◌, ◌-◌, ◌≤◌, Bool, true, false, cond, eqb, List, [], ◌∷◌, ◌++◌, length, Option, Some, None, refl, ap, length-append}
use Rattle.std.specs.Prelude.{max, ◌||◌, find, is_some}
use Rattle.std.specs.List.{list_any}
use Rattle.std.specs.Map.{lookup, lookup_entry, lookup_key, remove_entry, set_key, set_value}
use Rattle.std.specs.Option.{option_map, option_to_list}
use Rattle.std.specs.Ordering.{is_gt}
use Rattle.std.specs.declared.cmp.Ordering.{Ordering}
use Rattle.cf_basichash.specs.Members.{members_replaced, members_set, members_without, rows_set, rows_with_less, rows_without}
use Rattle.cf_callbacks.specs.Ranking.{by_rank, least, none_less, insert_by, without_least}
use Rattle.cf_types.specs.declared.cells.Cell.{Cell}
use Rattle.cf_contents.specs.Contents.{times, ids_of, row_ids, greatest}
use Rattle.cf_contents.specs.Deeds.{rows_with_one_more, unless_found, if_last}

abbrev Row : Type 0
Row = Cell × ℕ

-- ---- their objects

module _ (n : ℕ) where
  times-ids : (xs ys : List Cell) → times n (ids_of (xs ++ ys)) ≡ times n (ids_of xs) + times n (ids_of ys)
  times-ids [] ys = omega arith
  times-ids (x ∷ xs) ys = omega (arith, times-ids xs ys)

  pub times-rows : (xs ys : List Row) → times n (row_ids (xs ++ ys)) ≡ times n (row_ids xs) + times n (row_ids ys)
  times-rows [] ys = omega arith
  times-rows (x ∷ xs) ys = omega (arith, times-rows xs ys)

  module _ (test : Cell → Bool) where
    -- a member that is put in place of its equal, or after the last
    pub put_members : (x : Cell) (ms : List Cell)
        → times n (ids_of (members_set test ms x)) + times n (ids_of (option_to_list (find test ms)))
        ≡ times n (ids_of ms) + times n (x.id ∷ [])
    put_members x [] = omega arith
    put_members x (m ∷ ms) = by (test m) (list_any test ms) (put_members x ms)
      where
        by : (t any : Bool)
            → times n (ids_of (cond any (members_replaced test ms x) (ms ++ x ∷ [])))
            + times n (ids_of (option_to_list (find test ms))) ≡ times n (ids_of ms) + times n (x.id ∷ [])
            → times n
            (ids_of (cond (t || any) (cond t (x ∷ ms) (m ∷ members_replaced test ms x)) (m ∷ (ms ++ x ∷ [])))) + times n
            (ids_of (option_to_list (cond t (Some m) (find test ms)))) ≡ times n (ids_of (m ∷ ms)) + times n
            (x.id ∷ [])
        by true any rest = omega arith
        by false true rest = omega (arith, rest)
        by false false rest = omega (arith, rest)

    pub put_rows : (x : Cell) (rows : List Row)
        → times n (row_ids (rows_set test rows x)) + times n (ids_of (option_to_list (lookup_key test rows)))
        ≡ times n (row_ids rows) + times n (x.id ∷ [])
    put_rows x [] = omega arith
    put_rows x (r ∷ rs) = by (test r.0) (lookup test rs) (put_rows x rs)
      where
        by : (t : Bool) (found : Option ℕ)
            → times n (row_ids (cond (is_some found) (set_key test rs x) (rs ++ (x, 1) ∷ [])))
            + times n (ids_of (option_to_list (lookup_key test rs))) ≡ times n (row_ids rs) + times n (x.id ∷ [])
            → times n
            (row_ids (cond (is_some (cond t (Some r.1) found)) (cond t ((x, r.1) ∷ rs) (r ∷ set_key test rs x)) (r ∷ (rs ++ (x, 1) ∷ [])))) + times n
            (ids_of (option_to_list (cond t (Some r.0) (lookup_key test rs)))) ≡ times n
            (row_ids (r ∷ rs)) + times n (x.id ∷ [])
        by true found rest = omega arith
        by false None rest = omega (arith, rest)
        by false (Some k) rest = omega (arith, rest)

    -- the member that gives way is one of the objects
    pub key_most : (rows : List Row)
        → times n (ids_of (option_to_list (lookup_key test rows))) ≤ times n (row_ids rows)
    key_most [] = omega arith
    key_most (r ∷ rs) = by (test r.0) (key_most rs)
      where
        by : (t : Bool) → times n (ids_of (option_to_list (lookup_key test rs))) ≤ times n (row_ids rs)
            → times n (ids_of (option_to_list (cond t (Some r.0) (lookup_key test rs)))) ≤ times n (row_ids (r ∷ rs))
        by true rest = omega arith
        by false rest = omega (arith, rest)

    -- a member that is removed
    pub removed_members : (ms : List Cell)
        → times n (ids_of (members_without test ms)) + times n (ids_of (option_to_list (find test ms)))
        ≡ times n (ids_of ms)
    removed_members [] = refl
    removed_members (m ∷ ms) = by (test m) (removed_members ms)
      where
        by : (t : Bool)
            → times n (ids_of (members_without test ms)) + times n (ids_of (option_to_list (find test ms)))
            ≡ times n (ids_of ms)
            → times n (ids_of (cond t ms (m ∷ members_without test ms)))
            + times n (ids_of (option_to_list (cond t (Some m) (find test ms)))) ≡ times n (ids_of (m ∷ ms))
        by true rest = omega arith
        by false rest = omega (arith, rest)

    removed_entry : (rows : List Row)
        → times n (row_ids (remove_entry test rows)) + times n (row_ids (option_to_list (lookup_entry test rows)))
        ≡ times n (row_ids rows)
    removed_entry [] = refl
    removed_entry (r ∷ rs) = by (test r.0) (removed_entry rs)
      where
        by : (t : Bool)
            → times n (row_ids (remove_entry test rs)) + times n (row_ids (option_to_list (lookup_entry test rs)))
            ≡ times n (row_ids rs)
            → times n (row_ids (cond t rs (r ∷ remove_entry test rs)))
            + times n (row_ids (option_to_list (cond t (Some r) (lookup_entry test rs))))
            ≡ times n (row_ids (r ∷ rs))
        by true rest = omega arith
        by false rest = omega (arith, rest)

    -- another number leaves the members
    ids-set_value : (k : ℕ) (rows : List Row) → row_ids (set_value test rows k) ≡ row_ids rows
    ids-set_value k [] = refl
    ids-set_value k (r ∷ rs) = by (test r.0) (ids-set_value k rs)
      where
        by : (t : Bool) → row_ids (set_value test rs k) ≡ row_ids rs
            → row_ids (cond t ((r.0, k) ∷ rs) (r ∷ set_value test rs k)) ≡ row_ids (r ∷ rs)
        by true rest = refl
        by false rest = ap (λ (os : List ℕ). r.0.id ∷ os) rest

    -- an element that is added, by whether it is there
    pub added_members : (x : Cell) (ms : List Cell) (found : Bool)
        → times n (ids_of (cond found ms (ms ++ x ∷ []))) ≡ times n (ids_of ms) + times n (unless_found found x)
    added_members x ms true = omega arith
    added_members x ms false = omega (arith, times-ids ms (x ∷ []))

    pub added_rows : (x : Cell) (rows : List Row) (found : Option ℕ)
        → times n (row_ids (rows_with_one_more test rows x found))
        ≡ times n (row_ids rows) + times n (unless_found (is_some found) x)
    added_rows x rows None = times-rows rows ((x, 1) ∷ [])
    added_rows x rows (Some k) = omega (arith, ap (times n) (ids-set_value (k + 1) rows))

    -- one less of a member
    less_rows : (rows : List Row) (found : Option Row) → lookup_entry test rows ≡ found
        → times n (row_ids (rows_with_less test rows (option_map (λ (r : Row). r.1) found))) + times n (if_last found)
        ≡ times n (row_ids rows)
    less_rows rows None is = omega arith
    less_rows rows (Some r) is = by (eqb r.1 1)
      where
        by : (last : Bool)
            → times n (row_ids (cond last (remove_entry test rows) (set_value test rows (r.1 - 1))))
            + times n (cond last (r.0.id ∷ []) []) ≡ times n (row_ids rows)
        by true = omega (arith, removed_entry rows, ap (λ (o : Option Row). times n (row_ids (option_to_list o))) is)
        by false = omega (arith, ap (times n) (ids-set_value (r.1 - 1) rows))

    number_found : (rows : List Row) → lookup test rows ≡ option_map (λ (r : Row). r.1) (lookup_entry test rows)
    number_found [] = refl
    number_found (r ∷ rs) = by (test r.0) (number_found rs)
      where
        by : (t : Bool) → lookup test rs ≡ option_map (λ (s : Row). s.1) (lookup_entry test rs)
            → cond t (Some r.1) (lookup test rs)
            ≡ option_map (λ (s : Row). s.1) (cond t (Some r) (lookup_entry test rs))
        by true rest = refl
        by false rest = rest

    pub removed_rows : (rows : List Row)
        → times n (row_ids (rows_without test rows)) + times n (if_last (lookup_entry test rows))
        ≡ times n (row_ids rows)
    removed_rows rows = rw (number_found rows) (less_rows rows (lookup_entry test rows) refl)

  -- rows by rising value have the same objects, and so have the least and the others
  module _ (rank : Row → Row → Ordering) where
    placed_rows : (x : Row) (ys : List Row) → times n (row_ids (insert_by rank x ys)) ≡ times n (row_ids (x ∷ ys))
    placed_rows x [] = refl
    placed_rows x (y ∷ ys) = by (is_gt (rank x y)) (placed_rows x ys)
      where
        by : (t : Bool) → times n (row_ids (insert_by rank x ys)) ≡ times n (row_ids (x ∷ ys))
            → times n (row_ids (cond t (y ∷ insert_by rank x ys) (x ∷ y ∷ ys))) ≡ times n (row_ids (x ∷ y ∷ ys))
        by true rest = omega (arith, rest)
        by false rest = refl

    pub sorted_rows : (rows : List Row) → times n (row_ids (by_rank rank rows)) ≡ times n (row_ids rows)
    sorted_rows [] = refl
    sorted_rows (x ∷ xs) = omega (arith, placed_rows x (by_rank rank xs), sorted_rows xs)

    pub least_rows : (rows : List Row)
        → times n (row_ids (without_least rank rows)) + times n (row_ids (option_to_list (least rank rows)))
        ≡ times n (row_ids rows)
    least_rows [] = refl
    least_rows (x ∷ xs) = by (none_less rank x xs) (least_rows xs)
      where
        by : (t : Bool)
            → times n (row_ids (without_least rank xs)) + times n (row_ids (option_to_list (least rank xs)))
            ≡ times n (row_ids xs)
            → times n (row_ids (cond t xs (x ∷ without_least rank xs)))
            + times n (row_ids (option_to_list (cond t (Some x) (least rank xs)))) ≡ times n (row_ids (x ∷ xs))
        by true rest = omega arith
        by false rest = omega (arith, rest)

-- ---- how many there are, and the greatest number of a bag

module _ (test : Cell → Bool) where
  pub length-members_with : (x : Cell) (ms : List Cell) (found : Bool)
      → length (cond found ms (ms ++ x ∷ [])) ≤ length ms + 1
  length-members_with x ms true = omega arith
  length-members_with x ms false = omega (arith, length-append ms (x ∷ []))

  length-replaced : (x : Cell) (ms : List Cell) → length (members_replaced test ms x) ≡ length ms
  length-replaced x [] = refl
  length-replaced x (m ∷ ms) = by (test m) (length-replaced x ms)
    where
      by : (t : Bool) → length (members_replaced test ms x) ≡ length ms
          → length (cond t (x ∷ ms) (m ∷ members_replaced test ms x)) ≡ length (m ∷ ms)
      by true rest = refl
      by false rest = ap suc rest

  pub length-members_set : (x : Cell) (ms : List Cell) (found : Bool)
      → length (cond found (members_replaced test ms x) (ms ++ x ∷ [])) ≤ length ms + 1
  length-members_set x ms true = omega (arith, length-replaced x ms)
  length-members_set x ms false = omega (arith, length-append ms (x ∷ []))

  pub length-members_without : (ms : List Cell) → length (members_without test ms) ≤ length ms
  length-members_without [] = omega arith
  length-members_without (m ∷ ms) = by (test m) (length-members_without ms)
    where
      by : (t : Bool) → length (members_without test ms) ≤ length ms
          → length (cond t ms (m ∷ members_without test ms)) ≤ length (m ∷ ms)
      by true rest = omega arith
      by false rest = omega (arith, rest)

  -- rows with another number for a member
  value_size : (k : ℕ) (rows : List Row)
      → (length (set_value test rows k) ≡ length rows) × (greatest (set_value test rows k) ≤ max k (greatest rows))
  value_size k [] = (refl, omega arith)
  value_size k (r ∷ rs) = by (test r.0) (value_size k rs)
    where
      by : (t : Bool)
          → (length (set_value test rs k) ≡ length rs) × (greatest (set_value test rs k) ≤ max k (greatest rs))
          → (length (cond t ((r.0, k) ∷ rs) (r ∷ set_value test rs k)) ≡ length (r ∷ rs))
          × (greatest (cond t ((r.0, k) ∷ rs) (r ∷ set_value test rs k)) ≤ max k (greatest (r ∷ rs)))
      by true rest = (refl, omega arith)
      by false rest = (ap suc rest.0, omega (arith, rest.1))

  -- with another member in place of its equal
  key_size : (x : Cell) (rows : List Row)
      → (length (set_key test rows x) ≡ length rows) × (greatest (set_key test rows x) ≡ greatest rows)
  key_size x [] = (refl, refl)
  key_size x (r ∷ rs) = by (test r.0) (key_size x rs)
    where
      by : (t : Bool) → (length (set_key test rs x) ≡ length rs) × (greatest (set_key test rs x) ≡ greatest rs)
          → (length (cond t ((x, r.1) ∷ rs) (r ∷ set_key test rs x)) ≡ length (r ∷ rs))
          × (greatest (cond t ((x, r.1) ∷ rs) (r ∷ set_key test rs x)) ≡ greatest (r ∷ rs))
      by true rest = (refl, refl)
      by false rest = (ap suc rest.0, ap (max r.1) rest.1)

  -- without one, and with one more after the last
  entry_size : (rows : List Row)
      → (length (remove_entry test rows) ≤ length rows) × (greatest (remove_entry test rows) ≤ greatest rows)
  entry_size [] = (omega arith, omega arith)
  entry_size (r ∷ rs) = by (test r.0) (entry_size rs)
    where
      by : (t : Bool) → (length (remove_entry test rs) ≤ length rs) × (greatest (remove_entry test rs) ≤ greatest rs)
          → (length (cond t rs (r ∷ remove_entry test rs)) ≤ length (r ∷ rs))
          × (greatest (cond t rs (r ∷ remove_entry test rs)) ≤ greatest (r ∷ rs))
      by true rest = (omega arith, omega arith)
      by false rest = (omega (arith, rest.0), omega (arith, rest.1))

  greatest-push : (x : Cell) (rows : List Row) → greatest (rows ++ (x, 1) ∷ []) ≤ greatest rows + 1
  greatest-push x [] = omega arith
  greatest-push x (r ∷ rs) = omega (arith, greatest-push x rs)

  pub greatest-found : (k : ℕ) (rows : List Row) → lookup test rows ≡ Some k → k ≤ greatest rows
  greatest-found k [] is = absurd cc
  greatest-found k (r ∷ rs) is = by (test r.0) is (greatest-found k rs)
    where
      by : (t : Bool) → cond t (Some r.1) (lookup test rs) ≡ Some k → (lookup test rs ≡ Some k → k ≤ greatest rs)
          → k ≤ greatest (r ∷ rs)
      by true is rest = let same : r.1 ≡ k = cc in omega (arith, same)
      by false is rest = omega (arith, rest is)

  pub size-added_rows : (x : Cell) (rows : List Row) (found : Option ℕ) → lookup test rows ≡ found
      → max (length (rows_with_one_more test rows x found)) (greatest (rows_with_one_more test rows x found)) ≤ max
      (length rows) (greatest rows) + 1
  size-added_rows x rows None is = omega (arith, length-append rows ((x, 1) ∷ []), greatest-push x rows)
  size-added_rows x rows (Some k) is = let size = value_size (k + 1) rows in omega (arith, size.0, size.1, greatest-found k rows is)

  pub size-put_rows : (x : Cell) (rows : List Row) (found : Bool)
      → max (length (cond found (set_key test rows x) (rows ++ (x, 1) ∷ [])))
      (greatest (cond found (set_key test rows x) (rows ++ (x, 1) ∷ []))) ≤ max (length rows) (greatest rows) + 1
  size-put_rows x rows true = let size = key_size x rows in omega (arith, size.0, size.1)
  size-put_rows x rows false = omega (arith, length-append rows ((x, 1) ∷ []), greatest-push x rows)

  pub size-less_rows : (rows : List Row) (found : Option ℕ) → lookup test rows ≡ found
      → max (length (rows_with_less test rows found)) (greatest (rows_with_less test rows found)) ≤ max (length rows)
      (greatest rows)
  size-less_rows rows None is = omega arith
  size-less_rows rows (Some k) is = by (eqb k 1)
    where
      by : (last : Bool)
          → max (length (cond last (remove_entry test rows) (set_value test rows (k - 1))))
          (greatest (cond last (remove_entry test rows) (set_value test rows (k - 1)))) ≤ max (length rows)
          (greatest rows)
      by true = let size = entry_size rows in omega (arith, size.0, size.1)
      by false = let size = value_size (k - 1) rows in omega (arith, size.0, size.1, greatest-found k rows is)

pub length-without_least : (rank : Row → Row → Ordering) (rows : List Row)
    → length (without_least rank rows) ≤ length rows
length-without_least rank [] = omega arith
length-without_least rank (x ∷ xs) = by (none_less rank x xs) (length-without_least rank xs)
  where
    by : (t : Bool) → length (without_least rank xs) ≤ length xs
        → length (cond t xs (x ∷ without_least rank xs)) ≤ length (x ∷ xs)
    by true rest = omega arith
    by false rest = omega (arith, rest)
