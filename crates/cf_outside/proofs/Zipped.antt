-- A relation holds of two lists place by place, and goes on to hold if each gets one more place where it holds.
use Rattle.std.proofs.Common.{◌≡◌, List, [], ◌∷◌, ◌++◌, subst, sym}
use Rattle.std.specs.List.{AllZip}

zip-snoc : {A B : Type 0} (R : A → B → Type 0) (xs : List A) (ys : List B) (x : A) (y : B)
    → AllZip R xs ys → R x y → AllZip R (xs ++ x ∷ []) (ys ++ y ∷ [])
zip-snoc R [] [] x y all here = (here, tt)
zip-snoc R [] (b ∷ ys) x y all here = elim all [ ]
zip-snoc R (a ∷ xs) [] x y all here = elim all [ ]
zip-snoc R (a ∷ xs) (b ∷ ys) x y all here = (all.0, zip-snoc R xs ys x y all.1 here)

-- the same, of lists that are said to have one more place
pub zip_more : {A B : Type 0} (R : A → B → Type 0) (xs more_xs : List A) (ys more_ys : List B) (x : A) (y : B)
    → more_xs ≡ xs ++ x ∷ [] → more_ys ≡ ys ++ y ∷ [] → AllZip R xs ys → R x y → AllZip R more_xs more_ys
zip_more R xs more_xs ys more_ys x y is_xs is_ys all here =
    subst
    (λ zs. AllZip R zs more_ys)
    (sym is_xs)
    (subst (λ zs. AllZip R (xs ++ x ∷ []) zs) (sym is_ys) (zip-snoc R xs ys x y all here))
