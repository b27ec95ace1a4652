-- A change of contents makes and loses no object, and changes no type and nothing that an object is compared by. None
-- at all changes nothing.
use Rattle.std.proofs.Common.{◌≡◌, ℕ, zero, suc, Bool, true, List, [], ◌∷◌, length, Option, Some, None, refl, ap}
use Rattle.std.specs.Prelude.{slice_get}
use Rattle.std.specs.Option.{option_map}
use Rattle.cf_contents.specs.Contents.{Content, text_content, data_content, instance_content, array_content, dictionary_content, set_content, bag_content, heap_content, Object, item_content}
use Rattle.cf_contents.specs.Deeds.{Change, unchanged, in_text, in_data, in_places, put_pair, remove_pair, add_member, put_member, remove_member, remove_least, Splice, text_after, data_after, places_after, content_after, with_change, objects_after, in_item}
use Rattle.cf_contents.specs.Keys.{compared_by}

pub length-with_change : (o : ℕ) (change : Change) (objects : List Object)
    → length (with_change o change objects) ≡ length objects
length-with_change o change [] = refl
length-with_change zero change (ob ∷ obs) = refl
length-with_change (suc o) change (ob ∷ obs) = ap suc (length-with_change o change obs)

pub length-objects_after : (o : Option ℕ) (change : Change) (objects : List Object)
    → length (objects_after o change objects) ≡ length objects
length-objects_after None change objects = refl
length-objects_after (Some o) change objects = length-with_change o change objects

pub class-with_change : (o : ℕ) (change : Change) (objects : List Object) (p : ℕ)
    → option_map (λ (ob : Object). ob.class) (slice_get (with_change o change objects) p)
    ≡ option_map (λ (ob : Object). ob.class) (slice_get objects p)
class-with_change o change [] p = refl
class-with_change zero change (ob ∷ obs) zero = refl
class-with_change zero change (ob ∷ obs) (suc p) = refl
class-with_change (suc o) change (ob ∷ obs) zero = refl
class-with_change (suc o) change (ob ∷ obs) (suc p) = class-with_change o change obs p

pub class-objects_after : (o : Option ℕ) (change : Change) (objects : List Object) (p : ℕ)
    → option_map (λ (ob : Object). ob.class) (slice_get (objects_after o change objects) p)
    ≡ option_map (λ (ob : Object). ob.class) (slice_get objects p)
class-objects_after None change objects p = refl
class-objects_after (Some o) change objects p = class-with_change o change objects p

pub with_change-unchanged : (o : ℕ) (objects : List Object) → with_change o unchanged objects ≡ objects
with_change-unchanged o [] = refl
with_change-unchanged zero (ob ∷ obs) = refl
with_change-unchanged (suc o) (ob ∷ obs) = ap (λ (os : List Object). ob ∷ os) (with_change-unchanged o obs)

pub objects_after-unchanged : (o : Option ℕ) (objects : List Object) → objects_after o unchanged objects ≡ objects
objects_after-unchanged None objects = refl
objects_after-unchanged (Some o) objects = with_change-unchanged o objects

-- what an object is compared by stays
form-text : (keyed : Bool) (o : ℕ) (e : Splice ℕ) (c : Content)
    → compared_by keyed o (text_after e c) ≡ compared_by keyed o c
form-text keyed o e (text_content true units) = refl
form-text keyed o e _ = refl

form-data : (keyed : Bool) (o : ℕ) (e : Splice ℕ) (c : Content)
    → compared_by keyed o (data_after e c) ≡ compared_by keyed o c
form-data keyed o e (data_content true bytes) = refl
form-data keyed o e _ = refl

form-places : (keyed : Bool) (o : ℕ) (e : Splice (Option ℕ)) (c : Content)
    → compared_by keyed o (places_after e c) ≡ compared_by keyed o c
form-places keyed o e (instance_content key fields) = refl
form-places keyed o e (array_content plain os) = refl
form-places keyed o e _ = refl

pub form-after : (keyed : Bool) (o : ℕ) (change : Change) (c : Content)
    → compared_by keyed o (content_after change c) ≡ compared_by keyed o c
form-after keyed o unchanged c = refl
form-after keyed o (in_text e) c = form-text keyed o e c
form-after keyed o (in_data e) c = form-data keyed o e c
form-after keyed o (in_places e) c = form-places keyed o e c
form-after keyed o (put_pair key value) (dictionary_content plain pairs) = refl
form-after keyed o (put_pair key value) _ = refl
form-after keyed o (remove_pair key) (dictionary_content plain pairs) = refl
form-after keyed o (remove_pair key) _ = refl
form-after keyed o (add_member x) (set_content plain members) = refl
form-after keyed o (add_member x) (bag_content plain rows) = refl
form-after keyed o (add_member x) (heap_content plain adds rows) = refl
form-after keyed o (add_member x) _ = refl
form-after keyed o (put_member x) (set_content plain members) = refl
form-after keyed o (put_member x) (bag_content plain rows) = refl
form-after keyed o (put_member x) _ = refl
form-after keyed o (remove_member x) (set_content plain members) = refl
form-after keyed o (remove_member x) (bag_content plain rows) = refl
form-after keyed o (remove_member x) _ = refl
form-after keyed o remove_least (heap_content plain adds rows) = refl
form-after keyed o remove_least _ = refl
form-after keyed o (in_item valid item) (item_content handler info v i) = refl
form-after keyed o (in_item valid item) _ = refl
