-- Where threads stand, as the program has it.
use Rattle.std.specs.Prelude.{◌≡◌, ℕ, ◌+◌, List, [], ◌∷◌, map}
use Rattle.cf_next.specs.Standing.{Standing}
use Rattle.cf_next.specs.Stands.{Stand}

-- the stands
abbrev pub stands_of : List Standing → List Stand
stands_of fs = map (λ (f : Standing). f.stand) fs

-- the stands are those of the threads from a number on, in order
abbrev pub IsPlaced : ℕ → List Standing → Type 0
IsPlaced n [] = Unit {0}
IsPlaced n (f ∷ fs) = (f.thread ≡ n) × IsPlaced (n + 1) fs
