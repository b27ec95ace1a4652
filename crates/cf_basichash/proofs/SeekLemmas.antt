-- What a search by places tells of a table's rows, and that calls keep the table's rule.
use Rattle.std.proofs.Common.{◌≡◌, ◌≢◌, ℕ, zero, suc, ◌+◌, ◌-◌, ◌%◌, ◌<◌, ◌≤◌, Bool, true, false, List, [], ◌∷◌, ◌++◌, length, get_or, map, slice_get, slice_set, remove, Option, Some, None, IfSome, refl, sym, ap, ◌∙◌, subst, arith, length-append, length-set}
use Rattle.std.proofs.lemmas.List.{map-append, length-map}
use Rattle.std.proofs.lemmas.List.Edits.{length-remove}
use Rattle.std.proofs.lemmas.Map.Keys.{IsDistinct-head, IsDistinct-tail}
use Rattle.std.proofs.lemmas.Option.{same_Some, none-some}
use Rattle.std.specs.Cmp.{IsEquivalence}
use Rattle.std.specs.List.{IsDistinct, AllByRecursion}
use Rattle.std.specs.Map.{keys_of}
use Rattle.cf_basichash.specs.Places.{Places, IsIndex}
use Rattle.cf_basichash.specs.Tables.{place_of, IsOfKeys, IsTable}
use Rattle.cf_basichash.proofs.PlacesLemmas.{none_left, IsPassed}
use Rattle.cf_basichash.proofs.TablesLemmas.{place_of-cons, distinct_added, distinct_removed, distinct_rekeyed}

-- no row passes, so none is the first
none_found : {K V : Type 0} (test : K → Bool) (rows : List (K × V))
    → ((i : ℕ) (row : K × V) → slice_get rows i ≡ Some row → test row.0 ≡ false) → place_of test rows ≡ None
none_found test [] each = refl
none_found test (row ∷ rows) each =
    place_of-cons test row rows ∙ rw (each zero row refl, none_found test rows (λ i. each (suc i))) refl

all_at : {K V : Type 0} (P : K → Type 0) (rows : List (K × V)) (i : ℕ) (row : K × V) → slice_get rows i ≡ Some row
    → AllByRecursion P (keys_of rows) → P row.0
all_at P [] i row at h = absurd (none-some row at)
all_at {K = K} {V = V} P (first ∷ rows) zero row at h = subst (λ (r : K × V). P r.0) (same_Some first row at) h.0
all_at P (first ∷ rows) (suc i) row at h = all_at P rows i row at h.1

false_by : (t : Bool) → (t ≡ true → ⊥) → t ≡ false
false_by true f = absurd (f refl)
false_by false f = refl

-- where keys are distinct, a row with an equal key is the first
pub place_is : {K V : Type 0} (e : K → K → Bool) → IsEquivalence e → (k : K) (rows : List (K × V)) (i : ℕ)
    (row : K × V)
    → slice_get rows i ≡ Some row → e k row.0 ≡ true → IsDistinct e (keys_of rows) → place_of (e k) rows ≡ Some i
place_is e laws k [] i row at same h = absurd (none-some row at)
place_is {K = K} {V = V} e laws k (first ∷ rows) zero row at same h =
    let equal : e k first.0 ≡ true = ap (λ (r : K × V). e k r.0) (same_Some first row at) ∙ same in
    place_of-cons (e k) first rows ∙ rw equal refl
place_is e laws k (first ∷ rows) (suc i) row at same h =
    let apart : e first.0 row.0 ≡ false =
    all_at (λ y. e first.0 y ≡ false) rows i row at (IsDistinct-head e first.0 (keys_of rows) h) in
    let other : e k first.0 ≡ false =
    false_by (e k first.0) (λ t. (let both : true ≡ false = sym same ∙ laws.congr k first.0 row.0 t ∙ apart in cc)) in
    place_of-cons (e k) first rows
    ∙ rw (other, place_is e laws k rows i row at same (IsDistinct-tail e first.0 (keys_of rows) h)) refl

hash_in : {K V : Type 0} (hash : K → ℕ) (row : K × V) (rows : List (K × V)) (i : ℕ) → slice_get rows i ≡ Some row
    → (i < length (map (λ (r : K × V). hash r.0) rows)) × (get_or (map (λ (r : K × V). hash r.0) rows) i 0 ≡ hash
    row.0)
hash_in hash row [] i at = absurd (none-some row at)
hash_in {K = K} {V = V} hash row (first ∷ rows) zero at =
    (omega arith, ap (λ (r : K × V). hash r.0) (same_Some first row at))
hash_in hash row (first ∷ rows) (suc i) at = let rest = hash_in hash row rows i at in (omega (arith, rest.0), rest.1)

-- the hash of a row
pub hash_at : {K V : Type 0} (hash : K → ℕ) (rows : List (K × V)) (hashes : List ℕ) → IsOfKeys hash rows hashes →
    (i : ℕ)
    (row : K × V) → slice_get rows i ≡ Some row → (i < length hashes) × (get_or hashes i 0 ≡ hash row.0)
hash_at hash rows hashes e i row at =
    subst (λ (l : List ℕ). (i < length l) × (get_or l i 0 ≡ hash row.0)) (sym e) (hash_in hash row rows i at)

unequal_by : {K V : Type 0} (same : K → K → Bool) (k : K) (o : Option (K × V))
    → ((row : K × V) → o ≡ Some row → same k row.0 ≡ true → ⊥) → IfSome o (λ row. false ≡ same k row.0)
unequal_by same k None f = tt
unequal_by same k (Some row) f = sym (false_by (same k row.0) (f row refl))

-- where the hashes differ, the keys do
pub unequal : {K V : Type 0} (same : K → K → Bool) (hash : K → ℕ)
    → ((a b : K) → same a b ≡ true → hash a ≡ hash b) → (k : K) (rows : List (K × V)) (hashes : List ℕ)
    → IsOfKeys hash rows hashes → (i : ℕ) → get_or hashes i 0 ≢ hash k
    → IfSome (slice_get rows i) (λ row. false ≡ same k row.0)
unequal same hash equal_hashes k rows hashes e i differ =
    unequal_by same k (slice_get rows i)
    (λ row at t. differ ((hash_at hash rows hashes e i row at).1 ∙ sym (equal_hashes k row.0 t)))

-- the row with this number does not pass
abbrev pub Fails : {K V : Type 0} → (K → Bool) → List (K × V) → ℕ → Type 0
Fails {K = K} {V = V} test rows number = (row : K × V) → slice_get rows (number - 1) ≡ Some row → test row.0 ≡ false

-- where an empty place is met, no key is equal
pub seek_none : {K V : Type 0} (same : K → K → Bool) (hash : K → ℕ)
    → ((a b : K) → same a b ≡ true → hash a ≡ hash b) → (k : K) (rows : List (K × V)) (hashes places : List ℕ)
    (home place : ℕ) → IsOfKeys hash rows hashes → IsIndex hashes places → home ≡ hash k % length places
    → IsPassed places (Fails (same k) rows) home place → get_or places place 0 ≡ 0 → place_of (same k) rows ≡ None
seek_none same hash equal_hashes k rows hashes places home place e index at_home s empty =
    let passed = subst (λ (h : ℕ). IsPassed places (Fails (same k) rows) h place) at_home s in
    none_found (same k) rows (λ i row at. false_by (same k row.0) (λ t.
    (let there = hash_at hash rows hashes e i row at in
    let fails : Fails (same k) rows (i + 1) =
    none_left hashes places (hash k) place i (Fails (same k) rows) index s.place_in
    (λ x x_in lt. (passed.before x x_in lt).1) empty there.0 (there.1 ∙ sym (equal_hashes k row.0 t)) in
    let one : i + 1 - 1 ≡ i = omega arith in
    let failed : same k row.0 ≡ false = fails row (ap (λ (j : ℕ). slice_get rows j) one ∙ at) in
    let both : true ≡ false = sym t ∙ failed in
    cc)))

if_some_is : {A : Type 0} (P : A → Type 0) (o : Option A) (x : A) → IfSome o P → o ≡ Some x → P x
if_some_is P None x h e = absurd (none-some x e)
if_some_is {A = A} P (Some y) x h e = subst P (same_Some y x e) h

-- what was answered of the row at a place
pub fails_at : {K V : Type 0} (same : K → K → Bool) (k : K) (rows : List (K × V)) (row number : ℕ) (b : Bool)
    → number ≡ row + 1 → IfSome (slice_get rows row) (λ r. b ≡ same k r.0) → b ≡ false → Fails (same k) rows number
fails_at same k rows row number b e h failed r at =
    let one : number - 1 ≡ row = omega arith in
    sym (if_some_is (λ x. b ≡ same k x.0) (slice_get rows row) r h
    (ap (λ (j : ℕ). slice_get rows j) (sym one) ∙ at)) ∙ failed

some_below : {A : Type 0} (xs : List A) (i : ℕ) → i < length xs → (x : A) × (slice_get xs i ≡ Some x)
some_below [] i below = absurd (omega arith)
some_below (x ∷ xs) zero below = (x, refl)
some_below (x ∷ xs) (suc i) below = some_below xs i (omega arith)

pub seek_found : {K V : Type 0} (same : K → K → Bool) → IsEquivalence same → (k : K) (rows : List (K × V)) (row : ℕ)
    (b : Bool) → row < length rows → IsDistinct same (keys_of rows)
    → IfSome (slice_get rows row) (λ r. b ≡ same k r.0) → b ≡ true → place_of (same k) rows ≡ Some row
seek_found same laws k rows row b below distinct h passed =
    let at = some_below rows row below in
    place_is same laws k rows row at.0 at.1
    (sym (if_some_is (λ x. b ≡ same k x.0) (slice_get rows row) at.0 h at.1) ∙ passed) distinct

-- a table without rows
pub table_of_none : {K V : Type 0} (same : K → K → Bool) (hash : K → ℕ) (index : Places) (rows : List (K × V))
    (capacity : ℕ) → rows ≡ [] → index.hashes ≡ [] → index.room ≡ 0 → IsTable same hash rows index capacity
unfolding IsDistinct
table_of_none {K = K} {V = V} same hash index rows capacity none hashes room =
    subst (λ (l : List (K × V)). IsTable same hash l index capacity) (sym none) (record {
      distinct = tt;
      hashes = hashes;
      within = omega arith;
    })

remove_mapped : {A B : Type 0} (f : A → B) (xs : List A) (i : ℕ) → remove (map f xs) i ≡ map f (remove xs i)
remove_mapped f [] zero = refl
remove_mapped f [] (suc i) = refl
remove_mapped f (x ∷ xs) zero = refl
remove_mapped f (x ∷ xs) (suc i) = ap (λ rest. f x ∷ rest) (remove_mapped f xs i)

module _ {K V : Type 0} (same : K → K → Bool) (hash : K → ℕ) (rows new : List (K × V)) (index next : Places)
    (capacity more : ℕ) (t : IsTable same hash rows index capacity) where
  -- room is made
  pub table_with_room : new ≡ rows → next.hashes ≡ index.hashes → length rows + next.room ≤ more
      → IsTable same hash new next more
  table_with_room e hashes within =
      subst (λ (l : List (K × V)). IsTable same hash l next more) (sym e) (record {
        distinct = t.distinct;
        hashes = hashes ∙ t.hashes;
        within = within;
      })

  -- a row is added
  pub table_with : IsEquivalence same → (k : K) (v : V) (h : ℕ) → place_of (same k) rows ≡ None → h ≡ hash k
      → next.hashes ≡ index.hashes ++ h ∷ [] → next.room + 1 ≡ index.room → new ≡ rows ++ (k, v) ∷ []
      → more ≡ capacity → IsTable same hash new next more
  table_with laws k v h absent is_hash hashes room e cap =
      subst (λ (l : List (K × V)). IsTable same hash l next more) (sym e) (record {
        distinct = distinct_added laws rows k v absent t.distinct;
        hashes = hashes ∙ ap (λ (a : ℕ). index.hashes ++ a ∷ []) is_hash ∙ ap (λ (l : List ℕ). l ++ hash k ∷ [])
            t.hashes
            ∙ sym (map-append (λ (r : K × V). hash r.0) rows ((k, v) ∷ []));
        within = omega (arith, length-append rows ((k, v) ∷ []), t.within);
      })

  -- a row goes
  pub table_without : (i : ℕ) → i < length rows → next.hashes ≡ remove index.hashes i → next.room ≡ index.room + 1
      → new ≡ remove rows i → more ≡ capacity → IsTable same hash new next more
  table_without i below hashes room e cap =
      subst (λ (l : List (K × V)). IsTable same hash l next more) (sym e) (record {
        distinct = distinct_removed same rows i t.distinct;
        hashes = hashes ∙ ap (λ (l : List ℕ). remove l i) t.hashes ∙ remove_mapped (λ (r : K × V). hash r.0) rows i;
        within = omega (arith, length-remove rows i below, t.within);
      })

hashes_rekeyed : {K V : Type 0} (hash : K → ℕ) (rows : List (K × V)) (i : ℕ) (old new : K × V)
    → slice_get rows i ≡ Some old → hash new.0 ≡ hash old.0
    → map (λ (r : K × V). hash r.0) (slice_set rows i new) ≡ map (λ (r : K × V). hash r.0) rows
hashes_rekeyed hash [] i old new at e = refl
hashes_rekeyed {K = K} {V = V} hash (first ∷ rows) zero old new at e =
    ap (λ (a : ℕ). a ∷ map (λ (r : K × V). hash r.0) rows)
    (e ∙ sym (ap (λ (r : K × V). hash r.0) (same_Some first old at)))
hashes_rekeyed hash (first ∷ rows) (suc i) old new at e =
    ap (λ rest. hash first.0 ∷ rest) (hashes_rekeyed hash rows i old new at e)

-- a key gives way to an equal one, or a value to another
pub table_rekeyed : {K V : Type 0} (same : K → K → Bool) (hash : K → ℕ) (rows new : List (K × V)) (index : Places)
    (capacity more : ℕ) (i : ℕ) (old row : K × V) → IsEquivalence same
    → ((a b : K) → same a b ≡ true → hash a ≡ hash b) → IsTable same hash rows index capacity
    → slice_get rows i ≡ Some old → same row.0 old.0 ≡ true → new ≡ slice_set rows i row → more ≡ capacity
    → IsTable same hash new index more
table_rekeyed {K = K} {V = V} same hash rows new index capacity more i old row laws equal_hashes t at equal e cap =
    subst (λ (l : List (K × V)). IsTable same hash l index more) (sym e) (record {
      distinct = distinct_rekeyed same laws rows i old row at equal t.distinct;
      hashes = t.hashes ∙ sym (hashes_rekeyed hash rows i old row at (equal_hashes row.0 old.0 equal));
      within = omega (arith, length-set rows i row, t.within);
    })

-- as many hashes as rows
pub count_of_hashes : {K V : Type 0} (hash : K → ℕ) (rows : List (K × V)) (hashes : List ℕ) → IsOfKeys hash rows hashes
    → length hashes ≡ length rows
count_of_hashes {K = K} {V = V} hash rows hashes e = ap length e ∙ length-map rows (λ (r : K × V). hash r.0)
