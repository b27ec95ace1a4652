-- What a store is to its callers: the bodies by the numbers of their objects, the deed for which room was made, and
-- for how many more bodies there is room.
use Rattle.std.specs.Prelude.{ℕ, zero, suc, ◌+◌, ◌<◌, Bool, true, false, not, List, [], ◌∷◌, Option, None, Some, map, drop, slice_get}
use Rattle.cf_syntax.specs.declared.script.ClassLine.{ClassLine}
use Rattle.cf_syntax.specs.declared.statement.Statement.{Statement}
use Rattle.cf_contents.specs.Contents.{Object, slots_in, size_at, member_limit}
use Rattle.cf_contents.specs.Deeds.{Deed, Change, deed_at, first_of, object_after}

-- a body: its object, whether that is finalised, and how many of its slots it has given up
pub record Held : Type 0 where
  pub object : Object
  pub is_finalised : Bool
  pub given_up : ℕ

-- a deed that can be done, on the first object that its statement uses
pub record Ready : Type 0 where
  pub object : Option ℕ
  pub deed : Deed

-- what a store is to its callers: its bodies, the deed that is ready, and for how many more bodies there is room
pub record StoreView : Type 0 where
  pub bodies : List Held
  pub ready : Option Ready
  pub room : ℕ

-- a new body
abbrev pub live : Object → Held
live ob = record { object = ob; is_finalised = false; given_up = 0 }

-- the objects of bodies
abbrev pub objects_of : List Held → List Object
objects_of bodies = map (λ (h : Held). h.object) bodies

-- the deed of a statement among bodies
abbrev pub ready_deed : List ClassLine → List Held → Statement → List (Option ℕ) → Ready
ready_deed classes bodies s used =
    record { object = first_of used; deed = deed_at classes (objects_of bodies) s used }

-- bodies with one of them changed
abbrev pub with_body : (Held → Held) → ℕ → List Held → List Held
with_body f o [] = []
with_body f zero (h ∷ hs) = f h ∷ hs
with_body f (suc o) (h ∷ hs) = h ∷ with_body f o hs

-- a body whose content is changed
abbrev pub body_changed : Change → Held → Held
body_changed change h =
    record { object = object_after change h.object; is_finalised = h.is_finalised; given_up = h.given_up }

-- a body that is finalised
abbrev pub body_finalised : Held → Held
body_finalised h = record { object = h.object; is_finalised = true; given_up = h.given_up }

-- a body that has given up one slot more
abbrev pub body_dropped : Held → Held
body_dropped h = record { object = h.object; is_finalised = h.is_finalised; given_up = h.given_up + 1 }

-- bodies with one of them changed in its content, if there is a number
abbrev pub bodies_changed : Option ℕ → Change → List Held → List Held
bodies_changed None change bodies = bodies
bodies_changed (Some o) change bodies = with_body (body_changed change) o bodies

-- a body is there and not finalised
abbrev pub is_live_body : Option Held → Bool
is_live_body None = false
is_live_body (Some h) = not h.is_finalised

-- an object was made and is not finalised
abbrev pub is_live_in : List Held → ℕ → Bool
is_live_in bodies o = is_live_body (slice_get bodies o)

-- how many slots a body has given up; none if there is no body
abbrev pub given_up_by : Option Held → ℕ
given_up_by None = 0
given_up_by (Some h) = h.given_up

-- how many slots the body of an object has given up
abbrev pub given_up_in : List Held → ℕ → ℕ
given_up_in bodies o = given_up_by (slice_get bodies o)

-- each collection may have one more member
abbrev pub MayGrow : List Held → Type 0
MayGrow bodies = (o : ℕ) → size_at (slice_get (objects_of bodies) o) + 1 < member_limit

-- the slots that are left to a body
abbrev pub left_to : Option Held → List ℕ
left_to None = []
left_to (Some h) = drop h.given_up (slots_in h.object.content)

-- the slots that are left to the body of an object
abbrev pub left_in : List Held → ℕ → List ℕ
left_in bodies o = left_to (slice_get bodies o)
