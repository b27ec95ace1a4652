-- What is found of an element in a set or a bag.
use Rattle.std.specs.Prelude.{◌≡◌, ℕ, Bool, List, Option, Some, None, IfSome}
use Rattle.cf_types.specs.declared.cells.Cell.{Cell}
use Rattle.cf_syntax.specs.declared.script.ClassLine.{ClassLine}
use Rattle.cf_contents.specs.Keys.{Numbered}
use Rattle.cf_contents.specs.Deeds as deeds
use Rattle.cf_body.specs.declared.change.BodyChange.TheVariants.{AddMember, PutMember, RemoveMember}
use Rattle.cf_store.specs.Applies.{CanBeAt}
use Rattle.cf_store.specs.declared.member_plans.Member.{Member}

-- a deed by what is found
abbrev pub deed_by_member : Option Member → (Bool → Cell → Option (ℕ × ℕ) → deeds.Deed) → deeds.Deed
deed_by_member None deed = deeds.skipping
deed_by_member (Some m) deed = deed m.counts m.element m.row

-- the first object can be changed by an element
pub record TakesMembers (a : Option Numbered) : Type 0 where
  pub adds : (element : Cell) → CanBeAt (AddMember element) a
  pub puts : (element : Cell) → CanBeAt (PutMember element) a
  pub removes : (element : Cell) → CanBeAt (RemoveMember element) a

-- what is found decides each deed on a member
pub record IsMember (classes : List ClassLine) (a b : Option Numbered) (found : Option Member) : Type 0 where
  pub is : (deed : Bool → Cell → Option (ℕ × ℕ) → deeds.Deed)
      → deeds.with_member classes a b deed ≡ deed_by_member found deed
  pub takes : IfSome found (λ (m : Member). TakesMembers a)
