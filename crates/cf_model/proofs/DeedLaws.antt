-- The deed of a statement leaves each item of a run loop as it is, and makes none.
use Rattle.std.proofs.Common.{◌≡◌, ℕ, zero, suc, true, false, List, [], ◌∷◌, Option, None, refl, subst}
use Rattle.std.specs.Prelude.{slice_get}
use Rattle.cf_syntax.specs.declared.script.ClassLine.{ClassLine}
use Rattle.cf_syntax.specs.declared.statement.Statement.{Statement}
use Rattle.cf_contents.specs.Contents.{Content, text_content, data_content, number_content, instance_content, array_content, dictionary_content, set_content, bag_content, heap_content, item_content, Object}
use Rattle.cf_contents.specs.Keys.{numbered}
use Rattle.cf_contents.specs.Deeds.{fresh, Change, in_text, in_data, in_item, used_at, deed_at, content_after, with_change}
use Rattle.cf_contents.proofs.FormLaws.{IsNoItem, MakesNoItem, ChangesNoItem, form_fits}
use Rattle.cf_model.specs.Things.{thing_in, thing_of}

-- ---- what a change does to items

text_keeps : (change : Change) (c : Content) → ChangesNoItem change → thing_in (content_after change c) ≡ thing_in c
text_keeps (in_item valid item) c h = absurd h
text_keeps (in_text e) (text_content true units) h = refl
text_keeps (in_text e) (text_content false units) h = refl
text_keeps (in_data e) (data_content true units) h = refl
text_keeps (in_data e) (data_content false units) h = refl
text_keeps change (text_content mutable units) h = refl
text_keeps change (data_content mutable bytes) h = refl
text_keeps change (number_content n) h = refl
text_keeps change (instance_content key fields) h = refl
text_keeps change (array_content plain os) h = refl
text_keeps change (dictionary_content plain pairs) h = refl
text_keeps change (set_content plain members) h = refl
text_keeps change (bag_content plain rows) h = refl
text_keeps change (heap_content plain adds rows) h = refl
text_keeps change (item_content handler info valid item) h = refl

pub keeps_things : (b : ℕ) (change : Change) (objects : List Object) (i : ℕ) → ChangesNoItem change
    → thing_of (slice_get (with_change b change objects) i) ≡ thing_of (slice_get objects i)
keeps_things b change [] i h = refl
keeps_things zero change (ob ∷ obs) zero h = text_keeps change ob.content h
keeps_things zero change (ob ∷ obs) (suc i) h = refl
keeps_things (suc b) change (ob ∷ obs) zero h = refl
keeps_things (suc b) change (ob ∷ obs) (suc i) h = keeps_things b change obs i h

-- what is new is no item
pub no_item : (c : Content) → IsNoItem c → thing_in c ≡ None
no_item (item_content handler info v i) h = absurd h
no_item _ h = refl

-- ---- the deed of a statement

module _ (classes : List ClassLine) (objects : List Object) (x : Statement) (used : List (Option ℕ)) where
  pub deed_edits : ChangesNoItem (deed_at classes objects x used).change
  deed_edits = (form_fits classes x (numbered objects (used_at used 0)) (numbered objects (used_at used 1)) (numbered objects (used_at used 2))).apart

  pub deed_makes : MakesNoItem (deed_at classes objects x used).origin
  deed_makes = (form_fits classes x (numbered objects (used_at used 0)) (numbered objects (used_at used 1)) (numbered objects (used_at used 2))).items

  pub deed_keeps : (b i : ℕ)
      → thing_of (slice_get (with_change b (deed_at classes objects x used).change objects) i) ≡ thing_of (slice_get objects i)
  deed_keeps b i = keeps_things b (deed_at classes objects x used).change objects i deed_edits

  pub deed_makes_none : (new : Object) → (deed_at classes objects x used).origin ≡ fresh new → thing_in new.content ≡ None
  deed_makes_none new e = no_item new.content (subst MakesNoItem e deed_makes)
