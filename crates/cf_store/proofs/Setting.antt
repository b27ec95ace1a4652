-- What is done to one body is done among the bodies.
use Rattle.std.proofs.Common.{arith, ◌≡◌, ℕ, zero, suc, ◌+◌, ◌<◌, ◌≤◌, List, [], ◌∷◌, map, length, get_or, Option, Some, None, Result, Ok, Err, IfSome, OnOk, OnSome, true, refl, sym, ap, ◌∙◌, slice_get, slice_set}
use Rattle.std.specs.Option.{option_map}
use Rattle.std.proofs.lemmas.Option.{slice_get_read, slice_get_past, slice_get-map}
use Rattle.cf_contents.specs.Contents.{Object, size_of, member_limit}
use Rattle.cf_contents.specs.Keys.{numbered, with_number_of}
use Rattle.cf_contents.specs.Deeds as deeds
use Rattle.cf_body.specs.Bodies.{BodyView, object_in, held_of}
use Rattle.cf_contents.specs.Stores.{Held, MayGrow, objects_of, with_body, body_changed, body_dropped, bodies_changed, is_live_in, given_up_in, left_to, left_in}
use Rattle.cf_body.specs.Changes.{CanBe, HasRoom, done_of, members_for}
use Rattle.cf_store.specs.Applies.{IsReadyAt, body_at, IsReadyIn}
use Rattle.cf_store.specs.declared.plan.ReadyPlan.{ReadyPlan}
use Rattle.cf_body.specs.declared.change.BodyChange.{BodyChange}
use Rattle.cf_body.specs.declared.change.BodyChange.TheVariants.{Nothing, Text, Data, Insert, Replace, Remove, Fill, Clear, PutPair, RemovePair, AddMember, PutMember, RemoveMember, RemoveLeast}

-- the object of a body
pub object_at : (bodies : List BodyView) (o : ℕ)
    → slice_get (objects_of (map held_of bodies)) o ≡ option_map object_in (slice_get bodies o)
object_at [] o = refl
object_at (b ∷ bs) zero = refl
object_at (b ∷ bs) (suc o) = object_at bs o

pub seen_within : (bodies : List BodyView) (o : ℕ) (b : BodyView) → o < length bodies → b ≡ get_or bodies o b
    → Some (record { number = o; object = object_in b }) ≡ numbered (objects_of (map held_of bodies)) (Some o)
seen_within bodies o b within is =
    sym (ap (with_number_of o) (object_at bodies o ∙ ap (option_map object_in) (slice_get_read bodies (length bodies) o b refl within is)))

pub seen_past : (bodies : List BodyView) (o : ℕ) → length bodies ≤ o
    → None ≡ numbered (objects_of (map held_of bodies)) (Some o)
seen_past bodies o past = sym (ap (with_number_of o) (object_at bodies o ∙ ap (option_map object_in) (slice_get_past bodies o past)))

-- one body is another
set_body : (f : Held → Held) (bodies : List BodyView) (o : ℕ) (old new : BodyView) → slice_get bodies o ≡ Some old
    → held_of new ≡ f (held_of old)
    → map held_of (slice_set bodies o new) ≡ with_body f o (map held_of bodies)
set_body f [] o old new is held = refl
set_body f (b ∷ bs) zero old new is held =
    let same : old ≡ b = cc in
    ap (λ (h : Held). h ∷ map held_of bs) (held ∙ ap (λ (x : BodyView). f (held_of x)) same)
set_body f (b ∷ bs) (suc o) old new is held = ap (λ (hs : List Held). held_of b ∷ hs) (set_body f bs o old new is held)

pub set_at : (f : Held → Held) (bodies : List BodyView) (o : ℕ) (old new : BodyView) → o < length bodies
    → old ≡ get_or bodies o old → held_of new ≡ f (held_of old)
    → map held_of (slice_set bodies o new) ≡ with_body f o (map held_of bodies)
set_at f bodies o old new within is held = set_body f bodies o old new (slice_get_read bodies (length bodies) o old refl within is) held

with_same : (o : ℕ) (hs : List Held) → with_body (λ h. h) o hs ≡ hs
with_same o [] = refl
with_same zero (h ∷ hs) = refl
with_same (suc o) (h ∷ hs) = ap (λ (rest : List Held). h ∷ rest) (with_same o hs)

pub held_at : (bodies : List BodyView) (o : ℕ) (old new : BodyView) → o < length bodies → old ≡ get_or bodies o old
    → held_of new ≡ held_of old
    → map held_of (slice_set bodies o new) ≡ map held_of bodies
held_at bodies o old new within is held = set_at (λ h. h) bodies o old new within is held ∙ with_same o (map held_of bodies)

-- a body in its own place
pub same_set : (bodies : List BodyView) (o : ℕ) (old new : BodyView) → o < length bodies → old ≡ get_or bodies o old
    → new ≡ old
    → slice_set bodies o new ≡ bodies
same_set [] o old new within is same = refl
same_set (b ∷ bs) zero old new within is same = ap (λ (x : BodyView). x ∷ bs) (same ∙ is)
same_set (b ∷ bs) (suc o) old new within is same = ap (λ (xs : List BodyView). b ∷ xs) (same_set bs o old new (omega arith) is same)

got_set : (bodies : List BodyView) (o : ℕ) (new : BodyView) → o < length bodies
    → slice_get (slice_set bodies o new) o ≡ Some new
got_set [] o new within = absurd (omega arith)
got_set (b ∷ bs) zero new within = refl
got_set (b ∷ bs) (suc o) new within = got_set bs o new (omega arith)

-- room is made in the body that is changed
pub ready_at : {T E : Type 0} (change : BodyChange) (bodies : List BodyView) (object : Option ℕ) (o : ℕ)
    (old new : BodyView) (result : Result T E)
    → (object ≡ Some o) × (o < length bodies) → old ≡ get_or bodies o old
    → IfSome (body_at bodies object) (λ (b : BodyView). CanBe change b.content)
    → held_of new ≡ held_of old → OnOk result (HasRoom change new)
    → OnOk result (IsReadyAt change (body_at (slice_set bodies o new) object))
ready_at change bodies object o old new (Ok x) made is can held room =
    let found : body_at bodies object ≡ Some old = ap (body_at bodies) made.0 ∙ slice_get_read bodies (length bodies) o old refl made.1 is in
    let able : CanBe change old.content = rw found at can in
    let same : old.content ≡ new.content = sym (ap (λ (h : Held). h.object.content) held) in
    rw (made.0, got_set bodies o new made.1) (rw same at able, room)
ready_at change bodies object o old new (Err e) made is can held room = tt

-- the change of one body
pub done_at : (change : BodyChange) (bodies : List BodyView) (object : Option ℕ) (o : ℕ) (old new : BodyView)
    → (object ≡ Some o) × (o < length bodies) → old ≡ get_or bodies o old
    → held_of new ≡ body_changed (done_of change) (held_of old)
    → map held_of (slice_set bodies o new) ≡ bodies_changed object (done_of change) (map held_of bodies)
done_at change bodies object o old new made is held = rw made.0 (set_at (body_changed (done_of change)) bodies o old new made.1 is held)

found_at : (bodies : List BodyView) (object : Option ℕ) (o : ℕ) (old : BodyView)
    → (object ≡ Some o) × (o < length bodies) → old ≡ get_or bodies o old
    → deeds.object_of (objects_of (map held_of bodies)) object ≡ Some (object_in old)
found_at bodies object o old made is =
    ap (deeds.object_of (objects_of (map held_of bodies))) made.0 ∙ object_at bodies o
    ∙ ap (option_map object_in) (slice_get_read bodies (length bodies) o old refl made.1 is)

pub took_at : (change : BodyChange) (bodies : List BodyView) (object : Option ℕ) (o : ℕ) (old : BodyView)
    (took : List ℕ)
    → (object ≡ Some o) × (o < length bodies) → old ≡ get_or bodies o old
    → took ≡ deeds.coming_in (done_of change) old.content
    → took ≡ deeds.taken_in (deeds.object_of (objects_of (map held_of bodies)) object) (done_of change)
took_at change bodies object o old took made is h = h ∙ sym (ap (λ (ob : Option Object). deeds.taken_in ob (done_of change)) (found_at bodies object o old made is))

pub gave_at : (change : BodyChange) (bodies : List BodyView) (object : Option ℕ) (o : ℕ) (old : BodyView)
    (gave : List ℕ)
    → (object ≡ Some o) × (o < length bodies) → old ≡ get_or bodies o old
    → gave ≡ deeds.going_out (done_of change) old.content
    → gave ≡ deeds.given_out (deeds.object_of (objects_of (map held_of bodies)) object) (done_of change)
gave_at change bodies object o old gave made is h = h ∙ sym (ap (λ (ob : Option Object). deeds.given_out ob (done_of change)) (found_at bodies object o old made is))

-- nothing is done where there is no body
no_body : (f : Held → Held) (bodies : List BodyView) (o : ℕ) → slice_get bodies o ≡ None
    → map held_of bodies ≡ with_body f o (map held_of bodies)
no_body f [] o none = refl
no_body f (b ∷ bs) zero none = absurd cc
no_body f (b ∷ bs) (suc o) none = ap (λ (hs : List Held). held_of b ∷ hs) (no_body f bs o none)

pub none_done : (change : BodyChange) (bodies : List BodyView) (object : Option ℕ) → body_at bodies object ≡ None
    → map held_of bodies ≡ bodies_changed object (done_of change) (map held_of bodies)
none_done change bodies None none = refl
none_done change bodies (Some o) none = no_body (body_changed (done_of change)) bodies o none

none_found : (bodies : List BodyView) (object : Option ℕ) → body_at bodies object ≡ None
    → deeds.object_of (objects_of (map held_of bodies)) object ≡ None
none_found bodies None none = refl
none_found bodies (Some o) none = object_at bodies o ∙ ap (option_map object_in) none

pub none_taken : (change : BodyChange) (bodies : List BodyView) (object : Option ℕ) → body_at bodies object ≡ None
    → [] ≡ deeds.taken_in (deeds.object_of (objects_of (map held_of bodies)) object) (done_of change)
none_taken change bodies object none = sym (ap (λ (ob : Option Object). deeds.taken_in ob (done_of change)) (none_found bodies object none))

pub none_given : (change : BodyChange) (bodies : List BodyView) (object : Option ℕ) → body_at bodies object ≡ None
    → [] ≡ deeds.given_out (deeds.object_of (objects_of (map held_of bodies)) object) (done_of change)
none_given change bodies object none = sym (ap (λ (ob : Option Object). deeds.given_out ob (done_of change)) (none_found bodies object none))

-- what is ready stays so where one body keeps its content and its room
stays_at : (change : BodyChange) (old new : BodyView) → new.content ≡ old.content → new.room ≡ old.room
    → IsReadyAt change (Some old) → IsReadyAt change (Some new)
stays_at change old new content room h = (rw content h.0, record { memory = rw room h.1.memory; members = rw content h.1.members })

stays_in : (change : BodyChange) (bodies : List BodyView) (o p : ℕ) (old new : BodyView) → slice_get bodies o ≡ Some old
    → (IsReadyAt change (Some old) → IsReadyAt change (Some new))
    → IsReadyAt change (slice_get bodies p) → IsReadyAt change (slice_get (slice_set bodies o new) p)
stays_in change [] o p old new is step h = h
stays_in change (b ∷ bs) zero zero old new is step h = let same : b ≡ old = cc in step (rw same at h)
stays_in change (b ∷ bs) zero (suc p) old new is step h = h
stays_in change (b ∷ bs) (suc o) zero old new is step h = h
stays_in change (b ∷ bs) (suc o) (suc p) old new is step h = stays_in change bs o p old new is step h

stays_ready : (change : BodyChange) (bodies : List BodyView) (object : Option ℕ) (o : ℕ) (old new : BodyView)
    → slice_get bodies o ≡ Some old → (IsReadyAt change (Some old) → IsReadyAt change (Some new))
    → IsReadyAt change (body_at bodies object)
    → IsReadyAt change (body_at (slice_set bodies o new) object)
stays_ready change bodies None o old new is step h = h
stays_ready change bodies (Some p) o old new is step h = stays_in change bodies o p old new is step h

-- what is ready stays so if it does where one body is another
pub ready_set : (ready : Option ReadyPlan) (bodies : List BodyView) (o : ℕ) (old new : BodyView) → o < length bodies
    → old ≡ get_or bodies o old
    → ((change : BodyChange) → IsReadyAt change (Some old) → IsReadyAt change (Some new)) → IsReadyIn bodies ready
    → IsReadyIn (slice_set bodies o new) ready
ready_set None bodies o old new within is step h = tt
ready_set (Some r) bodies o old new within is step h =
    (h.0, stays_ready r.deed.change bodies r.object o old new (slice_get_read bodies (length bodies) o old refl within is) (step r.deed.change) h.1)

pub ready_stays : (ready : Option ReadyPlan) (bodies : List BodyView) (o : ℕ) (old new : BodyView) → o < length bodies
    → old ≡ get_or bodies o old
    → new.content ≡ old.content → new.room ≡ old.room → IsReadyIn bodies ready
    → IsReadyIn (slice_set bodies o new) ready
ready_stays ready bodies o old new within is content room h =
    ready_set ready bodies o old new within is (λ change. stays_at change old new content room) h

-- a live object has a body
pub live_within : (bodies : List BodyView) (o : ℕ) → is_live_in (map held_of bodies) o ≡ true → o < length bodies
live_within [] o live = absurd cc
live_within (b ∷ bs) zero live = omega arith
live_within (b ∷ bs) (suc o) live = omega (arith, live_within bs o live)

held_found : (bodies : List BodyView) (o : ℕ) (old : BodyView) → o < length bodies → old ≡ get_or bodies o old
    → slice_get (map held_of bodies) o ≡ Some (held_of old)
held_found bodies o old within is = slice_get-map held_of bodies o ∙ ap (option_map held_of) (slice_get_read bodies (length bodies) o old refl within is)

-- a slot that is given up
pub slot_at : (bodies : List BodyView) (o : ℕ) (old : BodyView) (result : Option (ℕ × ℕ)) → o < length bodies
    → old ≡ get_or bodies o old
    → result ≡ option_map (λ (s : ℕ). (old.given_up, s)) (slice_get (left_to (Some (held_of old))) 0)
    → result ≡ option_map (λ (s : ℕ). (given_up_in (map held_of bodies) o, s))
    (slice_get (left_in (map held_of bodies) o) 0)
slot_at bodies o old result within is h = rw (held_found bodies o old within is) h

pub dropped_at : (bodies : List BodyView) (o : ℕ) (old new : BodyView) (result : Option (ℕ × ℕ)) → o < length bodies
    → old ≡ get_or bodies o old
    → OnSome result (held_of new ≡ body_dropped (held_of old))
    → OnSome result (map held_of (slice_set bodies o new) ≡ with_body body_dropped o (map held_of bodies))
dropped_at bodies o old new None within is h = tt
dropped_at bodies o old new (Some slot) within is h = set_at body_dropped bodies o old new within is h

-- a change has room for its members
grows_one : (change : BodyChange) → members_for change ≤ 1
grows_one Nothing = omega arith
grows_one (Text at len text) = omega arith
grows_one (Data at len bytes) = omega arith
grows_one (Insert at element) = omega arith
grows_one (Replace at element) = omega arith
grows_one (Remove at) = omega arith
grows_one (Fill at element) = omega arith
grows_one (Clear at) = omega arith
grows_one (PutPair key value) = omega arith
grows_one (RemovePair key) = omega arith
grows_one (AddMember element) = omega arith
grows_one (PutMember element) = omega arith
grows_one (RemoveMember element) = omega arith
grows_one RemoveLeast = omega arith

pub few_at : (change : BodyChange) (bodies : List BodyView) (object : Option ℕ) (o : ℕ) (old : BodyView)
    → (object ≡ Some o) × (o < length bodies)
    → old ≡ get_or bodies o old → MayGrow (map held_of bodies)
    → size_of old.content + members_for change < member_limit
few_at change bodies object o old made is grows =
    let few = rw (object_at bodies o ∙ ap (option_map object_in) (slice_get_read bodies (length bodies) o old refl made.1 is)) at (grows o) in
    omega (arith, few, grows_one change)
