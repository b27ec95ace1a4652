-- Bodies with one of them changed.
use Rattle.std.proofs.Common.{◌≡◌, ℕ, zero, suc, List, [], ◌∷◌, ◌++◌, length, Option, Some, None, refl, ap}
use Rattle.std.specs.Prelude.{slice_get}
use Rattle.std.specs.Option.{option_map}
use Rattle.cf_contents.specs.Contents.{Object}
use Rattle.cf_contents.specs.Deeds.{Change, objects_after, with_change}
use Rattle.cf_contents.specs.Stores.{Held, objects_of, with_body, body_changed, bodies_changed}

pub get-map : (bodies : List Held) (o : ℕ)
    → slice_get (objects_of bodies) o ≡ option_map (λ (h : Held). h.object) (slice_get bodies o)
get-map [] o = refl
get-map (h ∷ hs) zero = refl
get-map (h ∷ hs) (suc o) = get-map hs o

pub get-own : (f : Held → Held) (o : ℕ) (bodies : List Held)
    → slice_get (with_body f o bodies) o ≡ option_map f (slice_get bodies o)
get-own f o [] = refl
get-own f zero (h ∷ hs) = refl
get-own f (suc o) (h ∷ hs) = get-own f o hs

pub get-other : (f : Held → Held) (o p : ℕ) (bodies : List Held) → (o ≡ p → ⊥)
    → slice_get (with_body f o bodies) p ≡ slice_get bodies p
get-other f o p [] h = refl
get-other f zero zero (b ∷ bs) h = absurd (h refl)
get-other f zero (suc p) (b ∷ bs) h = refl
get-other f (suc o) zero (b ∷ bs) h = refl
get-other f (suc o) (suc p) (b ∷ bs) h = get-other f o p bs (λ q. h (ap suc q))

pub length-with_body : (f : Held → Held) (o : ℕ) (bodies : List Held) → length (with_body f o bodies) ≡ length bodies
length-with_body f o [] = refl
length-with_body f zero (h ∷ hs) = refl
length-with_body f (suc o) (h ∷ hs) = ap suc (length-with_body f o hs)

pub length-objects : (bodies : List Held) → length (objects_of bodies) ≡ length bodies
length-objects [] = refl
length-objects (h ∷ hs) = ap suc (length-objects hs)

-- the objects after a change, and after one that leaves them
objects-body : (o : ℕ) (change : Change) (bodies : List Held)
    → objects_of (with_body (body_changed change) o bodies) ≡ with_change o change (objects_of bodies)
objects-body o change [] = refl
objects-body zero change (h ∷ hs) = refl
objects-body (suc o) change (h ∷ hs) = ap (λ (os : List Object). h.object ∷ os) (objects-body o change hs)

pub objects-changed : (o : Option ℕ) (change : Change) (bodies : List Held)
    → objects_of (bodies_changed o change bodies) ≡ objects_after o change (objects_of bodies)
objects-changed None change bodies = refl
objects-changed (Some o) change bodies = objects-body o change bodies

pub objects-kept : (f : Held → Held) → ((h : Held) → (f h).object ≡ h.object) → (o : ℕ) (bodies : List Held)
    → objects_of (with_body f o bodies) ≡ objects_of bodies
objects-kept f same o [] = refl
objects-kept f same zero (h ∷ hs) = ap (λ (ob : Object). ob ∷ objects_of hs) (same h)
objects-kept f same (suc o) (h ∷ hs) = ap (λ (os : List Object). h.object ∷ os) (objects-kept f same o hs)

pub objects-append : (bodies more : List Held) → objects_of (bodies ++ more) ≡ objects_of bodies ++ objects_of more
objects-append [] more = refl
objects-append (h ∷ hs) more = ap (λ (os : List Object). h.object ∷ os) (objects-append hs more)
