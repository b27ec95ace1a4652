-- Deeds as the store keeps them, and what it tells of one that was done.
use Rattle.std.specs.Prelude.{◌≡◌, ℕ, List, slice_get, Option, None, Some}
use Rattle.cf_contents.specs.Keys.{Numbered}
use Rattle.cf_contents.specs.Deeds as deeds
use Rattle.cf_body.specs.Bodies.{BodyView, object_in}
use Rattle.cf_body.specs.Changes.{done_of, CanBe, HasRoom}
use Rattle.cf_contents.specs.Stores.{Ready}
use Rattle.cf_body.specs.declared.change.BodyChange.{BodyChange}
use Rattle.cf_body.specs.declared.change.BodyChange.TheVariants.{Nothing}
use Rattle.cf_store.specs.Sources.{IsNewBody}
use Rattle.cf_store.specs.declared.plan.Origin.{Origin}
use Rattle.cf_store.specs.declared.plan.Origin.TheVariants.{Nowhere, Fresh, There}
use Rattle.cf_store.specs.declared.plan.Plan.{Plan}
use Rattle.cf_store.specs.declared.plan.ReadyPlan.{ReadyPlan}
use Rattle.cf_store.specs.declared.store.Edited.{Edited}

-- the object, where it was made, can be changed so
abbrev pub CanBeAt : BodyChange → Option Numbered → Type 0
CanBeAt change None = Unit {0}
CanBeAt change (Some u) = CanBe change u.object.content

-- a change can be done on the body of an object without memory
abbrev pub IsReadyAt : BodyChange → Option BodyView → Type 0
IsReadyAt change None = Unit {0}
IsReadyAt change (Some b) = CanBe change b.content × HasRoom change b

-- where the object comes from that a deed binds
abbrev pub origin_of : Origin → deeds.Origin
origin_of Nowhere = deeds.nowhere
origin_of (Fresh b) = deeds.fresh (object_in b.value)
origin_of (There o) = deeds.there o

-- a body that a deed makes is a new one
abbrev pub IsNew : Origin → Type 0
IsNew Nowhere = Unit {0}
IsNew (Fresh b) = IsNewBody b.value
IsNew (There o) = Unit {0}

-- a deed of the program, as the definitions have it
abbrev pub deed_by : Plan → deeds.Deed
deed_by d = record { answer = d.answer; origin = origin_of d.origin; change = done_of d.change }

-- a deed that is ready, as the definitions have it
abbrev pub ready_by : ReadyPlan → Ready
ready_by r = record { object = r.object; deed = deed_by r.deed }

-- what the code made is the deed, and can be done to the first object that is used
pub record Does (deed : deeds.Deed) (a : Option Numbered) (d : Plan) : Type 0 where
  pub is : deed_by d ≡ deed
  pub new : IsNew d.origin
  pub can : CanBeAt d.change a

-- what the code made is the deed, and it changes nothing
pub record IsAlone (deed : deeds.Deed) (d : Plan) : Type 0 where
  pub is : deed_by d ≡ deed
  pub new : IsNew d.origin
  pub change : d.change ≡ Nothing

-- the body of a number, if there is a number and a body
abbrev pub body_at : List BodyView → Option ℕ → Option BodyView
body_at bodies None = None
body_at bodies (Some o) = slice_get bodies o

-- what is ready can be done
abbrev pub IsReadyIn : List BodyView → Option ReadyPlan → Type 0
IsReadyIn bodies None = Unit {0}
IsReadyIn bodies (Some r) = IsNew r.deed.origin × IsReadyAt r.deed.change (body_at bodies r.object)

-- what is told has the answer of the deed and the object that it binds
pub record IsDeed (deed : deeds.Deed) (e : Edited) : Type 0 where
  pub answer : e.answer ≡ deed.answer
  pub origin : origin_of e.origin ≡ deed.origin
  pub new : IsNew e.origin
