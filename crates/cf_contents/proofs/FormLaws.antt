-- What each form keeps: a new object has no slots, a statement that takes or binds a reference changes nothing, no
-- deed answers an object by itself, and what comes in is among the objects that are used.
use Rattle.std.proofs.Common.{◌≡◌, ℕ, ℤ, ◌<◌, ◌≤◌, ◌⊎◌, Bool, true, false, cond, List, [], ◌∷◌, Option, Some, None, eqb, refl, ap, ◌∙◌, inl, inr, arith}
use Rattle.std.proofs.lemmas.Bool.Decides.{eqb_tells}
use Rattle.std.specs.Prelude.{nat_lt, nat_le, length, ◌+◌}
use Rattle.cf_ids.specs.declared.answer.Answer.{Answer}
use Rattle.cf_ids.specs.declared.answer.Answer.TheVariants as words
use Rattle.cf_number.specs.declared.kinds.NumKind.{NumKind}
use Rattle.cf_number.specs.Numbers.{Number}
use Rattle.cf_number.specs.Kinds.{fits_kind}
use Rattle.cf_string.specs.declared.faults.StrFault.{StrFault}
use Rattle.cf_string.specs.declared.faults.StrFault.TheVariants.{Range, SplitsPair}
use Rattle.cf_string.specs.Faults.{split_fault}
use Rattle.cf_types.specs.declared.cells.Cell.{Cell}
use Rattle.cf_syntax.specs.declared.script.ClassLine.{ClassLine}
use Rattle.cf_syntax.specs.declared.statement.Statement.{Statement}
use Rattle.cf_syntax.specs.declared.statement.Statement.TheVariants as forms
use Rattle.cf_contents.specs.Contents.{Content, text_content, data_content, number_content, instance_content, array_content, dictionary_content, set_content, bag_content, heap_content, item_content, times, present, slots_in, size_of, instance_of}
use Rattle.cf_syntax.specs.declared.mention.Ownership.{Ownership}
use Rattle.cf_syntax.specs.declared.mention.Ownership.TheVariants.{Keeps, Binds, Retains, Releases}
use Rattle.cf_syntax.specs.Mentions.{ownership_of, makes_object}
use Rattle.cf_contents.specs.Keys.{Numbered, number_of, class_line}
use Rattle.cf_contents.specs.Deeds.{Origin, nowhere, fresh, there, Change, unchanged, Deed, answering, creating, changing, binding, with_object, with_key, text_in, mutable_text_in, mutable_data_in, number_in, fields_in, elements_in, pairs_in, heap_in, members_in, with_text, with_mutable_text, with_mutable_data, with_number, with_fields, with_elements, with_pair, with_member, with_heap, unless_split, within, text_edit, data_edit, places_edit, as_kind, fresh_if, putting, adding_pair, setting_pair, replacing_pair, removing_pair, adding_member, setting_member, replacing_member, removing_member, counting_member, object_in_row, removing_least, add_member, put_member, in_item, deed_of}
use Rattle.cf_contents.proofs.Sizes.{AddsOne}
use Rattle.cf_contents.proofs.SlotLaws.{present-empty, MakesEmpty, named_in}

abbrev pub ChangesFor : Ownership → Change → Type 0
ChangesFor Keeps change = Unit {0}
ChangesFor (Binds v) change = change ≡ unchanged
ChangesFor (Retains v) change = change ≡ unchanged
ChangesFor (Releases v) change = change ≡ unchanged

-- an answer that names no object
abbrev pub NamesNone : Answer → Type 0
NamesNone (words.Object o) = ⊥
NamesNone _ = Unit {0}

-- an answer of a statement that changes an object: it is not skipped
abbrev pub Acts : Answer → Type 0
Acts (words.Object o) = ⊥
Acts words.Skip = ⊥
Acts _ = Unit {0}

acts_names : (a : Answer) → Acts a → NamesNone a
acts_names (words.Object o) h = absurd h
acts_names _ h = tt

-- a statement that is skipped changes nothing
abbrev pub SkipsAll : Answer → Change → Type 0
SkipsAll words.Skip change = change ≡ unchanged
SkipsAll _ change = Unit {0}

acts_skips : (a : Answer) (change : Change) → Acts a → SkipsAll a change
acts_skips words.Skip change h = absurd h
acts_skips _ change h = tt

nothing_skipped : (a : Answer) → SkipsAll a unchanged
nothing_skipped words.Skip = refl
nothing_skipped _ = tt

-- no item of a run loop
abbrev pub IsNoItem : Content → Type 0
IsNoItem (item_content handler info valid item) = ⊥
IsNoItem _ = Unit {0}

-- what is new is no item of a run loop
abbrev pub MakesNoItem : Origin → Type 0
MakesNoItem nowhere = Unit {0}
MakesNoItem (fresh ob) = IsNoItem ob.content
MakesNoItem (there o) = Unit {0}

-- no item of a run loop is changed
abbrev pub ChangesNoItem : Change → Type 0
ChangesNoItem (in_item valid item) = ⊥
ChangesNoItem _ = Unit {0}

-- only a form that makes objects gives a new one
abbrev pub MakesOnly : Bool → Origin → Type 0
MakesOnly true origin = Unit {0}
MakesOnly false nowhere = Unit {0}
MakesOnly false (fresh ob) = ⊥
MakesOnly false (there o) = Unit {0}

-- a new collection has no members
abbrev pub MakesSmall : Origin → Type 0
MakesSmall nowhere = Unit {0}
MakesSmall (fresh ob) = size_of ob.content ≡ 0
MakesSmall (there o) = Unit {0}

-- these are the second or the third object that is used, and no more than two
pub record AreUsed (b c : Option Numbered) (ns : List ℕ) : Type 0 where
  pub among : (o : ℕ) → 0 < times o ns → (number_of b ≡ Some o) ⊎ (number_of c ≡ Some o)
  pub few : length ns ≤ 2

-- a deed that a statement with this ownership may have, which makes an object or not, and uses these besides its first
-- object
pub record Fits (ownership : Ownership) (making : Bool) (b c : Option Numbered) (d : Deed) : Type 0 where
  pub makes : MakesEmpty d.origin
  pub small : MakesSmall d.origin
  pub only : MakesOnly making d.origin
  pub changes : ChangesFor ownership d.change
  pub names : NamesNone d.answer
  pub skips : SkipsAll d.answer d.change
  pub items : MakesNoItem d.origin
  pub used : AreUsed b c (named_in d.change)
  pub one : AddsOne d.change
  pub apart : ChangesNoItem d.change

no_change : (ownership : Ownership) → ChangesFor ownership unchanged
no_change Keeps = tt
no_change (Binds v) = refl
no_change (Retains v) = refl
no_change (Releases v) = refl

no_making : (making : Bool) → MakesOnly making nowhere
no_making true = tt
no_making false = tt

-- none, one object that is the second, and a pair of them that is the second and the third
other_number : (n o : ℕ) → eqb n o ≡ false → cond {A = ℕ} (eqb n o) 1 0 ≡ 0
other_number n o e = ap (λ (t : Bool). cond {A = ℕ} t 1 0) e

none : (b c : Option Numbered) → AreUsed b c []
none b c = record { among = λ o some. absurd (omega arith); few = omega arith }

second_among : (b c : Option Numbered) (n : ℕ) → number_of b ≡ Some n
    → (o : ℕ) → 0 < times o (n ∷ []) → (number_of b ≡ Some o) ⊎ (number_of c ≡ Some o)
second_among b c n e o some = elim (eqb_tells n o) [
  | inl here ↦ inl (e ∙ ap Some here.1)
  | inr other ↦ absurd (omega (arith, some, other_number n o other.0))
]

third_among : (b c : Option Numbered) (n : ℕ) → number_of c ≡ Some n
    → (o : ℕ) → 0 < times o (n ∷ []) → (number_of b ≡ Some o) ⊎ (number_of c ≡ Some o)
third_among b c n e o some = elim (eqb_tells n o) [
  | inl here ↦ inr (e ∙ ap Some here.1)
  | inr other ↦ absurd (omega (arith, some, other_number n o other.0))
]

pair_among : (b c : Option Numbered) (k v : ℕ) → number_of b ≡ Some k → number_of c ≡ Some v
    → (o : ℕ) → 0 < times o (k ∷ v ∷ []) → (number_of b ≡ Some o) ⊎ (number_of c ≡ Some o)
pair_among b c k v first second o some = elim (eqb_tells k o) [
  | inl here ↦ inl (first ∙ ap Some here.1)
  | inr other ↦ third_among b c v second o (omega (arith, some, other_number k o other.0))
]

second_used : (b c : Option Numbered) (n : ℕ) → number_of b ≡ Some n → AreUsed b c (n ∷ [])
second_used b c n e = record { among = second_among b c n e; few = omega arith }

pair_used : (b c : Option Numbered) (k v : ℕ) → number_of b ≡ Some k → number_of c ≡ Some v → AreUsed b c (k ∷ v ∷ [])
pair_used b c k v first second = record { among = pair_among b c k v first second; few = omega arith }

-- ---- by what a deed is made of: one that fits whatever it finds

module _ (ownership : Ownership) (making : Bool) (b c : Option Numbered) where
  answers : (a : Answer) → NamesNone a → Fits ownership making b c (answering a)
  answers a names = record { makes = tt; small = tt; only = no_making making; changes = no_change ownership; names = names; skips = nothing_skipped a; items = tt; used = none b c; one = tt; apart = tt }

  by_object : (o : Option Numbered) (f : Numbered → Deed)
      → ((u : Numbered) → number_of o ≡ Some u.number → Fits ownership making b c (f u))
      → Fits ownership making b c (with_object o f)
  by_object None f h = answers _ tt
  by_object (Some u) f h = h u refl

  by_key : (classes : List ClassLine) (o : Option Numbered) (f : Cell → Deed)
      → ((key : Cell) → number_of o ≡ Some key.id → Fits ownership making b c (f key))
      → Fits ownership making b c (with_key classes o f)
  by_key classes None f h = answers _ tt
  by_key classes (Some u) f h = h _ refl

  in_text : (t : Content) (f : List ℕ → Deed) → ((xs : List ℕ) → Fits ownership making b c (f xs))
      → Fits ownership making b c (text_in t f)
  in_text (text_content mutable units) f h = h units
  in_text _ f h = answers _ tt

  in_mutable_text : (t : Content) (f : List ℕ → Deed) → ((xs : List ℕ) → Fits ownership making b c (f xs))
      → Fits ownership making b c (mutable_text_in t f)
  in_mutable_text (text_content true units) f h = h units
  in_mutable_text _ f h = answers _ tt

  in_mutable_data : (t : Content) (f : List ℕ → Deed) → ((xs : List ℕ) → Fits ownership making b c (f xs))
      → Fits ownership making b c (mutable_data_in t f)
  in_mutable_data (data_content true bytes) f h = h bytes
  in_mutable_data _ f h = answers _ tt

  in_number : (t : Content) (f : Number → Deed) → ((n : Number) → Fits ownership making b c (f n))
      → Fits ownership making b c (number_in t f)
  in_number (number_content n) f h = h n
  in_number _ f h = answers _ tt

  in_fields : (t : Content) (f : List (Option ℕ) → Deed)
      → ((fields : List (Option ℕ)) → Fits ownership making b c (f fields))
      → Fits ownership making b c (fields_in t f)
  in_fields (instance_content key fields) f h = h fields
  in_fields _ f h = answers _ tt

  in_elements : (t : Content) (f : List ℕ → Deed) → ((os : List ℕ) → Fits ownership making b c (f os))
      → Fits ownership making b c (elements_in t f)
  in_elements (array_content plain os) f h = h os
  in_elements _ f h = answers _ tt

  in_pairs : (t : Content) (f : Bool → List (Cell × ℕ) → Deed)
      → ((plain : Bool) (pairs : List (Cell × ℕ)) → Fits ownership making b c (f plain pairs))
      → Fits ownership making b c (pairs_in t f)
  in_pairs (dictionary_content plain pairs) f h = h plain pairs
  in_pairs _ f h = answers _ tt

  by_text : (o : Option Numbered) (f : List ℕ → Deed) → ((xs : List ℕ) → Fits ownership making b c (f xs))
      → Fits ownership making b c (with_text o f)
  by_text o f h = by_object o _ (λ u e. in_text u.object.content f h)

  by_mutable_text : (o : Option Numbered) (f : List ℕ → Deed) → ((xs : List ℕ) → Fits ownership making b c (f xs))
      → Fits ownership making b c (with_mutable_text o f)
  by_mutable_text o f h = by_object o _ (λ u e. in_mutable_text u.object.content f h)

  by_mutable_data : (o : Option Numbered) (f : List ℕ → Deed) → ((xs : List ℕ) → Fits ownership making b c (f xs))
      → Fits ownership making b c (with_mutable_data o f)
  by_mutable_data o f h = by_object o _ (λ u e. in_mutable_data u.object.content f h)

  by_number : (o : Option Numbered) (f : Number → Deed) → ((n : Number) → Fits ownership making b c (f n))
      → Fits ownership making b c (with_number o f)
  by_number o f h = by_object o _ (λ u e. in_number u.object.content f h)

  by_fields : (o : Option Numbered) (f : List (Option ℕ) → Deed)
      → ((fields : List (Option ℕ)) → Fits ownership making b c (f fields))
      → Fits ownership making b c (with_fields o f)
  by_fields o f h = by_object o _ (λ u e. in_fields u.object.content f h)

  by_elements : (o : Option Numbered) (f : List ℕ → Deed) → ((os : List ℕ) → Fits ownership making b c (f os))
      → Fits ownership making b c (with_elements o f)
  by_elements o f h = by_object o _ (λ u e. in_elements u.object.content f h)

  by_pair : (classes : List ClassLine) (dictionary key : Option Numbered) (f : Cell → Option ℕ → Deed)
      → ((k : Cell) (old : Option ℕ) → number_of key ≡ Some k.id → Fits ownership making b c (f k old))
      → Fits ownership making b c (with_pair classes dictionary key f)
  by_pair classes dictionary key f h =
      by_object dictionary _ (λ u e. in_pairs u.object.content _ (λ plain pairs. by_key classes key _ (λ k named. h k _ named)))

  in_members : (t : Content) (f : Bool → (Cell → Option (ℕ × ℕ)) → Deed)
      → ((counts : Bool) (row_of : Cell → Option (ℕ × ℕ)) → Fits ownership making b c (f counts row_of))
      → Fits ownership making b c (members_in t f)
  in_members (set_content plain members) f h = h _ _
  in_members (bag_content plain rows) f h = h _ _
  in_members _ f h = answers _ tt

  in_heap : (t : Content) (f : Bool → List (Cell × ℕ) → Deed)
      → ((plain : Bool) (rows : List (Cell × ℕ)) → Fits ownership making b c (f plain rows))
      → Fits ownership making b c (heap_in t f)
  in_heap (heap_content plain adds rows) f h = h plain rows
  in_heap _ f h = answers _ tt

  by_member : (classes : List ClassLine) (collection element : Option Numbered)
      (f : Bool → Cell → Option (ℕ × ℕ) → Deed)
      → ((counts : Bool) (x : Cell) (row : Option (ℕ × ℕ)) → number_of element ≡ Some x.id → Fits ownership making b c (f counts x row))
      → Fits ownership making b c (with_member classes collection element f)
  by_member classes collection element f h =
      by_object collection _ (λ u e. in_members u.object.content _ (λ counts row_of. by_key classes element _ (λ x named. h counts x _ named)))

  by_heap : (o : Option Numbered) (f : Bool → List (Cell × ℕ) → Deed)
      → ((plain : Bool) (rows : List (Cell × ℕ)) → Fits ownership making b c (f plain rows))
      → Fits ownership making b c (with_heap o f)
  by_heap o f h = by_object o _ (λ u e. in_heap u.object.content f h)

  by_cut : (fault : Option StrFault) (d : Deed) → Fits ownership making b c d
      → Fits ownership making b c (unless_split fault d)
  by_cut None d h = h
  by_cut (Some Range) d h = answers _ tt
  by_cut (Some SplitsPair) d h = answers _ tt
  by_cut (Some _) d h = answers _ tt

  by_test : (t : Bool) (d e : Deed) → Fits ownership making b c d → Fits ownership making b c e
      → Fits ownership making b c (cond t d e)
  by_test true d e p q = p
  by_test false d e p q = q

-- a statement that makes an object, and one that binds what is there
module _ (ownership : Ownership) (b c : Option Numbered) where
  makes : (class : ℕ) (content : Content) → slots_in content ≡ [] → size_of content ≡ 0 → IsNoItem content
      → Fits ownership true b c (creating class content)
  makes class content empty small items =
      record { makes = empty; small = small; only = tt; changes = no_change ownership; names = tt; skips = refl; items = items; used = none b c; one = tt; apart = tt }

  takes : (o : Option ℕ) → Fits ownership false b c (binding o)
  takes None = answers ownership false b c _ tt
  takes (Some o) = record { makes = tt; small = tt; only = tt; changes = no_change ownership; names = tt; skips = tt; items = tt; used = none b c; one = tt; apart = tt }

  makes_instance : (class : ℕ) (key : ℤ) (line : Option ClassLine)
      → Fits ownership true b c (fresh_if (instance_of class key line))
  makes_instance class key None = answers ownership true b c _ tt
  makes_instance class key (Some line) =
      record { makes = present-empty line.fields; small = refl; only = tt; changes = no_change ownership; names = tt; skips = refl; items = tt; used = none b c; one = tt; apart = tt }

-- a statement that changes an object
module _ (b c : Option Numbered) where
  changes : (a : Answer) (change : Change) → Acts a → AreUsed b c (named_in change) → AddsOne change
      → ChangesNoItem change → Fits Keeps false b c (changing a change)
  changes a change acts used one apart = record { makes = tt; small = tt; only = tt; changes = tt; names = acts_names a acts; skips = acts_skips a change acts; items = tt; used = used; one = one; apart = apart }

  changes_text : (at len : ℕ) (other units : List ℕ) → Fits Keeps false b c (text_edit units at len other)
  changes_text at len other units = by_cut Keeps false b c (split_fault units at len) _ (changes _ _ tt (none b c) tt tt)

  changes_data : (at len : ℕ) (other bytes : List ℕ) → Fits Keeps false b c (data_edit bytes at len other)
  changes_data at len other bytes =
      by_test Keeps false b c (nat_le (at + len) (length bytes)) _ _ (changes _ _ tt (none b c) tt tt) (answers Keeps false b c _ tt)

  changes_within : (t : Bool) (at out : ℕ) (enter : List (Option ℕ))
      → AreUsed b c (present enter) → length (present enter) ≤ 1
      → Fits Keeps false b c (within t (places_edit at out enter))
  changes_within t at out enter used one =
      by_test Keeps false b c t _ _ (changes _ _ tt used one tt) (answers Keeps false b c _ tt)

  reads_as : (kind : NumKind) (n : Number) → Fits Keeps false b c (as_kind kind n)
  reads_as kind n = by_test Keeps false b c (fits_kind kind n.value) _ _ (answers Keeps false b c _ tt) (answers Keeps false b c _ tt)

  -- by a key that is the second object, and a value that is the third
  module _ (key : Cell) (value : ℕ) (first : number_of b ≡ Some key.id) (second : number_of c ≡ Some value) where
    puts : (a : Answer) → Acts a → Fits Keeps false b c (putting a key value)
    puts a acts = changes a _ acts (pair_used b c key.id value first second) tt tt

    adds_pair : (old : Option ℕ) → Fits Keeps false b c (adding_pair key value old)
    adds_pair None = puts _ tt
    adds_pair (Some old) = answers Keeps false b c _ tt

    sets_pair : (old : Option ℕ) → Fits Keeps false b c (setting_pair key value old)
    sets_pair None = puts _ tt
    sets_pair (Some old) = puts _ tt

    replaces_pair : (old : Option ℕ) → Fits Keeps false b c (replacing_pair key value old)
    replaces_pair None = answers Keeps false b c _ tt
    replaces_pair (Some old) = puts _ tt

  removes_pair : (key : Cell) (old : Option ℕ) → Fits Keeps false b c (removing_pair key old)
  removes_pair key None = answers Keeps false b c _ tt
  removes_pair key (Some old) = changes _ _ tt (none b c) tt tt

  -- by an element that is the second object
  module _ (x : Cell) (named : number_of b ≡ Some x.id) where
    adds_member : (counts : Bool) (row : Option (ℕ × ℕ)) → Fits Keeps false b c (adding_member counts x row)
    adds_member counts None = changes _ (add_member x) tt (second_used b c x.id named) tt tt
    adds_member counts (Some row) =
        by_test Keeps false b c counts _ _ (changes _ (add_member x) tt (second_used b c x.id named) tt tt) (answers Keeps false b c _ tt)

    sets_member : (row : Option (ℕ × ℕ)) → Fits Keeps false b c (setting_member x row)
    sets_member None = changes _ (put_member x) tt (second_used b c x.id named) tt tt
    sets_member (Some row) = changes _ (put_member x) tt (second_used b c x.id named) tt tt

    replaces_member : (row : Option (ℕ × ℕ)) → Fits Keeps false b c (replacing_member x row)
    replaces_member None = answers Keeps false b c _ tt
    replaces_member (Some row) = changes _ (put_member x) tt (second_used b c x.id named) tt tt

  removes_member : (x : Cell) (row : Option (ℕ × ℕ)) → Fits Keeps false b c (removing_member x row)
  removes_member x None = answers Keeps false b c _ tt
  removes_member x (Some row) = changes _ _ tt (none b c) tt tt

  counts_member : (row : Option (ℕ × ℕ)) → Fits Keeps false b c (counting_member row)
  counts_member None = answers Keeps false b c _ tt
  counts_member (Some row) = answers Keeps false b c _ tt

  removes_least : (row : Option ℕ) → Fits Keeps false b c (removing_least row)
  removes_least None = answers Keeps false b c _ tt
  removes_least (Some row) = changes _ _ tt (none b c) tt tt

-- ---- by forms

pub form_fits : (classes : List ClassLine) (s : Statement) (a b c : Option Numbered)
    → Fits (ownership_of s) (makes_object s) b c (deed_of classes s a b c)
form_fits classes (forms.MakeString v text) a b c = makes (Binds v) b c _ _ refl refl tt
form_fits classes (forms.MakeMstring v text) a b c = makes (Binds v) b c _ _ refl refl tt
form_fits classes (forms.MakeData v bytes) a b c = makes (Binds v) b c _ _ refl refl tt
form_fits classes (forms.MakeMdata v bytes) a b c = makes (Binds v) b c _ _ refl refl tt
form_fits classes (forms.MakeNumber v n) a b c = makes (Binds v) b c _ _ refl refl tt
form_fits classes (forms.MakeArray v true) a b c = makes (Binds v) b c _ _ refl refl tt
form_fits classes (forms.MakeArray v false) a b c = makes (Binds v) b c _ _ refl refl tt
form_fits classes (forms.MakeDict v true) a b c = makes (Binds v) b c _ _ refl refl tt
form_fits classes (forms.MakeDict v false) a b c = makes (Binds v) b c _ _ refl refl tt
form_fits classes (forms.MakeSet v true) a b c = makes (Binds v) b c _ _ refl refl tt
form_fits classes (forms.MakeSet v false) a b c = makes (Binds v) b c _ _ refl refl tt
form_fits classes (forms.MakeBag v true) a b c = makes (Binds v) b c _ _ refl refl tt
form_fits classes (forms.MakeBag v false) a b c = makes (Binds v) b c _ _ refl refl tt
form_fits classes (forms.MakeHeap v true) a b c = makes (Binds v) b c _ _ refl refl tt
form_fits classes (forms.MakeHeap v false) a b c = makes (Binds v) b c _ _ refl refl tt
form_fits classes (forms.New v None key) a b c = answers (Binds v) true b c _ tt
form_fits classes (forms.New v (Some class) key) a b c = makes_instance (Binds v) b c class key (class_line classes class)
form_fits classes (forms.Retain v) a b c = answers (Retains v) false b c _ tt
form_fits classes (forms.Release v) a b c = answers (Releases v) false b c _ tt
form_fits classes (forms.Show v) a b c = by_object Keeps false b c a _ (λ u e. answers Keeps false b c _ tt)
form_fits classes (forms.StrAppend v other) a b c =
    by_mutable_text Keeps false b c a _ (λ units. by_text Keeps false b c b _ (λ more. changes_text b c (length units) 0 more units))
form_fits classes (forms.StrInsert v at text) a b c = by_mutable_text Keeps false b c a _ (changes_text b c at 0 text)
form_fits classes (forms.StrDelete v at len) a b c = by_mutable_text Keeps false b c a _ (changes_text b c at len [])
form_fits classes (forms.StrReplace v at len text) a b c = by_mutable_text Keeps false b c a _ (changes_text b c at len text)
form_fits classes (forms.StrSub v text at len) a b c =
    by_text (Binds v) true b c a _ (λ units. by_cut (Binds v) true b c (split_fault units at len) _ (makes (Binds v) b c _ _ refl refl tt))
form_fits classes (forms.DataAppend v bytes) a b c = by_mutable_data Keeps false b c a _ (λ old. changes_data b c (length old) 0 bytes old)
form_fits classes (forms.DataReplace v at len bytes) a b c = by_mutable_data Keeps false b c a _ (changes_data b c at len bytes)
form_fits classes (forms.DataDelete v at len) a b c = by_mutable_data Keeps false b c a _ (changes_data b c at len [])
form_fits classes (forms.NumAs v kind) a b c = by_number Keeps false b c a _ (reads_as b c kind)
form_fits classes (forms.ArrAppend v x) a b c =
    by_elements Keeps false b c a _ (λ os. by_object Keeps false b c b _ (λ u e. changes b c _ _ tt (second_used b c u.number e) (omega arith) tt))
form_fits classes (forms.ArrInsert v at x) a b c =
    by_elements Keeps false b c a _
    (λ os. by_object Keeps false b c b _ (λ u e. changes_within b c (nat_le at (length os)) at 0 _ (second_used b c u.number e) (omega arith)))
form_fits classes (forms.ArrSet v at x) a b c =
    by_elements Keeps false b c a _
    (λ os. by_object Keeps false b c b _ (λ u e. changes_within b c (nat_le at (length os)) at 1 _ (second_used b c u.number e) (omega arith)))
form_fits classes (forms.ArrRemove v at) a b c =
    by_elements Keeps false b c a _ (λ os. changes_within b c (nat_lt at (length os)) at 1 _ (none b c) (omega arith))
form_fits classes (forms.ArrTake v array at) a b c = by_elements (Binds v) false b c a _ (λ os. takes (Binds v) b c _)
form_fits classes (forms.DictAdd v k x) a b c =
    by_pair Keeps false b c classes a b _ (λ key old named. by_object Keeps false b c c _ (λ u e. adds_pair b c key u.number named e old))
form_fits classes (forms.DictSet v k x) a b c =
    by_pair Keeps false b c classes a b _ (λ key old named. by_object Keeps false b c c _ (λ u e. sets_pair b c key u.number named e old))
form_fits classes (forms.DictReplace v k x) a b c =
    by_pair Keeps false b c classes a b _ (λ key old named. by_object Keeps false b c c _ (λ u e. replaces_pair b c key u.number named e old))
form_fits classes (forms.DictRemove v k) a b c = by_pair Keeps false b c classes a b _ (λ key old named. removes_pair b c key old)
form_fits classes (forms.DictTake v dictionary k) a b c =
    by_pair (Binds v) false b c classes a b _ (λ key old named. takes (Binds v) b c old)
form_fits classes (forms.SetAdd v x) a b c =
    by_member Keeps false b c classes a b _ (λ counts element row named. adds_member b c element named counts row)
form_fits classes (forms.SetSet v x) a b c =
    by_member Keeps false b c classes a b _ (λ counts element row named. sets_member b c element named row)
form_fits classes (forms.SetReplace v x) a b c =
    by_member Keeps false b c classes a b _ (λ counts element row named. replaces_member b c element named row)
form_fits classes (forms.SetRemove v x) a b c =
    by_member Keeps false b c classes a b _ (λ counts element row named. removes_member b c element row)
form_fits classes (forms.SetCount v x) a b c =
    by_member Keeps false b c classes a b _ (λ counts element row named. counts_member b c row)
form_fits classes (forms.SetTake v set x) a b c =
    by_member (Binds v) false b c classes a b _ (λ counts element row named. takes (Binds v) b c (object_in_row row))
form_fits classes (forms.HeapAdd v x) a b c =
    by_heap Keeps false b c a _
    (λ plain rows. by_key Keeps false b c classes b _ (λ element named. changes b c _ _ tt (second_used b c element.id named) tt tt))
form_fits classes (forms.HeapTake v heap) a b c = by_heap (Binds v) false b c a _ (λ plain rows. takes (Binds v) b c _)
form_fits classes (forms.HeapRemove v) a b c = by_heap Keeps false b c a _ (λ plain rows. removes_least b c _)
form_fits classes (forms.FieldSet v at x) a b c =
    by_fields Keeps false b c a _
    (λ fields. by_object Keeps false b c b _ (λ u e. changes_within b c (nat_lt at (length fields)) at 1 _ (second_used b c u.number e) (omega arith)))
form_fits classes (forms.FieldClear v at) a b c =
    by_fields Keeps false b c a _ (λ fields. changes_within b c (nat_lt at (length fields)) at 1 _ (none b c) (omega arith))
form_fits classes (forms.FieldTake v instance at) a b c = by_fields (Binds v) false b c a _ (λ fields. takes (Binds v) b c _)
form_fits classes (forms.MakeSource v order handler info) a b c = answers (Binds v) true b c _ tt
form_fits classes (forms.MakeTimer v first interval handler info) a b c = answers (Binds v) true b c _ tt
form_fits classes (forms.MakeObserver v mask repeats order handler info) a b c = answers (Binds v) true b c _ tt
form_fits classes (forms.Add item thread mode) a b c = answers Keeps false b c _ tt
form_fits classes (forms.Drop item thread mode) a b c = answers Keeps false b c _ tt
form_fits classes (forms.Common thread mode) a b c = answers Keeps false b c _ tt
form_fits classes (forms.Signal source) a b c = answers Keeps false b c _ tt
form_fits classes (forms.Invalidate item) a b c = answers Keeps false b c _ tt
form_fits classes (forms.Wake thread) a b c = answers Keeps false b c _ tt
form_fits classes (forms.Stop thread) a b c = answers Keeps false b c _ tt
form_fits classes (forms.Run mode limit once) a b c = answers Keeps false b c _ tt
form_fits classes (forms.Observe observer handler name filter) a b c = answers Keeps false b c _ tt
form_fits classes (forms.Forget observer name filter) a b c = answers Keeps false b c _ tt
form_fits classes (forms.Post name info) a b c = answers Keeps false b c _ tt
