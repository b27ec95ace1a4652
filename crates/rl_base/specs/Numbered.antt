-- Lists of what is kept by number, by rising number. They are this project's own.
use Rattle.std.specs.Prelude.{◌≡◌, ℕ, ◌<◌, ◌≤◌, ⊤, List, [], ◌∷◌, length, map, slice_get, slice_set, insert, Option, Some, None, find, Result, Ok, Err, nat_lt, ◌==◌, if◌then◌else◌}
use Rattle.std.specs.List.{AllByRecursion}

-- the one of number n, if there is one
abbrev pub kept_at : {X : Type 0} → (X → ℕ) → ℕ → List X → Option X
kept_at number n xs = find (λ x. number x == n) xs

-- the list with x in its place by number
abbrev pub kept_with : {X : Type 0} → (X → ℕ) → X → List X → List X
kept_with number x [] = x ∷ []
kept_with number x (y ∷ ys) = if nat_lt (number x) (number y) then x ∷ y ∷ ys else y ∷ kept_with number x ys

-- the list with a change of the one of number n
abbrev pub changed_at : {X : Type 0} → (X → ℕ) → ℕ → (X → X) → List X → List X
changed_at number n change xs = map (λ x. if number x == n then change x else x) xs

-- each number is above those before it
abbrev pub RisesBy : {X : Type 0} → (X → ℕ) → List X → Type 0
RisesBy number [] = ⊤
RisesBy number (x ∷ xs) = AllByRecursion (λ y. number x < number y) xs × RisesBy number xs

-- the one of number n is there, at place i
pub record IsPlaceAt {X : Type 0} (number : X → ℕ) (n : ℕ) (xs : List X) (i : ℕ) : Type 0 where
  pub below : i < length xs
  pub there : kept_at number n xs ≡ slice_get xs i
  pub changed : (change : X → X) (x : X) → slice_get xs i ≡ Some x →
      slice_set xs i (change x) ≡ changed_at number n change xs

-- none of number n is there, and place i is where it would stand
pub record IsGapAt {X : Type 0} (number : X → ℕ) (n : ℕ) (xs : List X) (i : ℕ) : Type 0 where
  pub within : i ≤ length xs
  pub missing : kept_at number n xs ≡ None
  pub put : (x : X) → number x ≡ n → insert xs i x ≡ kept_with number x xs

-- what a search for number n answers
abbrev pub IsPlaceOf : {X : Type 0} → (X → ℕ) → ℕ → List X → Result ℕ ℕ → Type 0
IsPlaceOf number n xs (Ok i) = IsPlaceAt number n xs i
IsPlaceOf number n xs (Err i) = IsGapAt number n xs i
