-- What is found in a dictionary by a key.
use Rattle.std.specs.Prelude.{◌≡◌, ℕ, List, Option, Some, None, IfSome}
use Rattle.cf_types.specs.declared.cells.Cell.{Cell}
use Rattle.cf_syntax.specs.declared.script.ClassLine.{ClassLine}
use Rattle.cf_contents.specs.Keys.{Numbered, number_of}
use Rattle.cf_contents.specs.Deeds as deeds
use Rattle.cf_store.specs.Applies.{CanBeAt}
use Rattle.cf_body.specs.declared.change.BodyChange.TheVariants.{PutPair, RemovePair}
use Rattle.cf_store.specs.declared.pair_plans.FoundPair.{FoundPair}

-- a deed by what is found
abbrev pub deed_with : Option FoundPair → (Cell → Option ℕ → deeds.Deed) → deeds.Deed
deed_with None deed = deeds.skipping
deed_with (Some e) deed = deed e.key e.value

-- the key is that of the second object, and the first one can be changed by it
pub record IsFoundPair (a b : Option Numbered) (e : FoundPair) : Type 0 where
  pub named : number_of b ≡ Some e.key.id
  pub puts : (key : Cell) (value : ℕ) → CanBeAt (PutPair key value) a
  pub removes : (key : Cell) → CanBeAt (RemovePair key) a

-- what is found decides each deed on a pair
pub record IsFound (classes : List ClassLine) (a b : Option Numbered) (found : Option FoundPair) : Type 0 where
  pub is : (deed : Cell → Option ℕ → deeds.Deed) → deeds.with_pair classes a b deed ≡ deed_with found deed
  pub entry : IfSome found (IsFoundPair a b)
