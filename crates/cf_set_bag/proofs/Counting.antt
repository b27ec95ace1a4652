-- What the place and the number of a row tell of a bag's rows, and that edits of members keep what holds of numbers.
use Rattle.std.proofs.Common.{◌≡◌, ℕ, ◌<◌, ◌≤◌, Bool, true, false, cond, List, [], ◌∷◌, ◌++◌, slice_get, remove, Some, zero, suc, arith, ◌∙◌}
use Rattle.std.proofs.lemmas.List.Elements.{All-append, All-cons, All-drop, All-head, All-push, All-tail, All-take}
use Rattle.std.proofs.lemmas.Option.{none-some, same_Some}
use Rattle.std.specs.Map.{lookup, set_key}
use Rattle.std.specs.Prelude.{if◌then◌else◌}
use Rattle.std.specs.Option.{option_map}
use Rattle.cf_basichash.proofs.TablesLemmas.{found}
use Rattle.cf_basichash.specs.Members.{most_of_one}
use Rattle.cf_basichash.specs.Tables.{place_of}
use Rattle.cf_set_bag.specs.Bags.{AllCounted}

-- the number at the place that was found
pub number_found : {E V : Type 0} (test : E → Bool) (rows : List (E × V)) (i : ℕ) (n : V) →
    place_of test rows ≡ Some i → option_map (λ row. row.1) (slice_get rows i) ≡ Some n → lookup test rows ≡ Some n
number_found test rows i n p h =
    let row = found test rows i p in
    row.1.value ∙ (rw row.1.there at h)

IsCounted : {E : Type 0} → E × ℕ → Type 0
IsCounted row = (0 < row.1) × (row.1 ≤ most_of_one)

pub counted_removed : {E : Type 0} (rows : List (E × ℕ)) (i : ℕ) → AllCounted rows → AllCounted (remove rows i)
unfolding IsCounted
counted_removed {E = E} rows i h = All-append (IsCounted {E = E}) _ _ (All-take (IsCounted {E = E}) i rows h)
    (All-drop (IsCounted {E = E}) (suc i) rows h)

-- and each row counts one at least
pub counted_at : {E : Type 0} (rows : List (E × ℕ)) (i n : ℕ) → AllCounted rows →
    option_map (λ row. row.1) (slice_get rows i) ≡ Some n → 0 < n
counted_at [] i n h at = absurd (none-some n at)
counted_at (row ∷ rows) zero n h at = let same : row.1 ≡ n = same_Some row.1 n at in let some : 0 < row.1 =
    (h 0 row (omega arith)).0 in omega arith
counted_at (row ∷ rows) (suc i) n h at = counted_at rows i n (λ k d less. h (suc k) d (omega arith)) at

-- a row whose member gives way keeps its number
module _ {E : Type 0} (test : E → Bool) where
  pub counted_rekeyed : (rows : List (E × ℕ)) (x : E) → AllCounted rows → AllCounted (set_key test rows x)
  unfolding IsCounted
  counted_rekeyed [] x h = h
  counted_rekeyed (row ∷ rows) x h = by (test row.0) (counted_rekeyed rows x (All-tail IsCounted row rows h))
    where
      by : (t : Bool) → AllCounted (set_key test rows x) →
          AllCounted (cond t ((x, row.1) ∷ rows) (row ∷ set_key test rows x))
      by true rest = All-cons IsCounted (x, row.1) rows (All-head IsCounted row rows h) (All-tail IsCounted row rows h)
      by false rest = All-cons IsCounted row (set_key test rows x) (All-head IsCounted row rows h) rest

  pub counted_set : (rows : List (E × ℕ)) (x : E) (there : Bool) → AllCounted rows →
      AllCounted (if there then set_key test rows x else rows ++ (x, 1) ∷ [])
  unfolding IsCounted
  counted_set rows x true h = counted_rekeyed rows x h
  counted_set rows x false h = All-push IsCounted rows (x, 1) h (omega arith, omega arith)
