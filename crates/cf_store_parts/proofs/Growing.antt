-- A store whose objects have no members may grow.
use Rattle.std.proofs.Common.{arith, ◌≡◌, zero, suc, List, [], ◌∷◌, ◌++◌}
use Rattle.cf_contents.specs.Contents.{size_of}
use Rattle.cf_contents.specs.Stores.{Held, MayGrow}

pub grown : (bodies : List Held) (h : Held) → size_of h.object.content ≡ 0 → MayGrow bodies → MayGrow (bodies ++ h ∷ [])
grown [] h small grows zero = omega (arith, small)
grown [] h small grows (suc o) = omega arith
grown (b ∷ bs) h small grows zero = grows 0
grown (b ∷ bs) h small grows (suc o) = grown bs h small (λ k. grows (suc k)) o
