-- Deeds on the objects that are used.
use Rattle.std.proofs.Common.{arith, ◌≡◌, ℕ, true, false, List, [], ◌∷◌, map, length, Option, Some, None, IfSome, refl, sym, ap, ◌∙◌, slice_get, get_or}
use Rattle.std.specs.Option.{option_map}
use Rattle.cf_ids.specs.declared.answer.Answer.{Answer}
use Rattle.cf_ids.specs.declared.answer.Answer.TheVariants as answers
use Rattle.cf_types.specs.declared.cells.Cell.{Cell}
use Rattle.cf_contents.specs.Contents.{Content, text_content, data_content, number_content, instance_content, array_content, dictionary_content, set_content, bag_content, heap_content, item_content}
use Rattle.cf_contents.specs.Keys.{Numbered, number_of, numbered, with_number_of}
use Rattle.cf_contents.specs.Deeds as deeds
use Rattle.cf_body.specs.Bodies.{BodyView, object_in, held_of}
use Rattle.cf_contents.specs.Seen.{read_in, units_in, mutable_units_in}
use Rattle.cf_contents.specs.Stores.{objects_of}
use Rattle.cf_body.specs.Changes.{CanBe, done_of}
use Rattle.cf_store.specs.Applies.{CanBeAt, Does, body_at}
use Rattle.cf_body.specs.declared.change.BodyChange.{BodyChange}
use Rattle.cf_body.specs.declared.change.BodyChange.TheVariants.{PutPair, RemovePair}
use Rattle.cf_store.specs.declared.plan.Origin.TheVariants.{Nowhere}
use Rattle.cf_store.specs.declared.plan.Plan.{Plan}
use Rattle.cf_store.proofs.Setting.{object_at}

-- ---- a text after another

more_in : (content : Content) (more : List ℕ) (deed : List ℕ → deeds.Deed) → Some more ≡ units_in content
    → deeds.text_in content deed ≡ deed more
more_in (text_content mutable old) more deed is = let same : more ≡ old = cc in sym (ap deed same)
more_in (data_content mutable bytes) more deed is = absurd cc
more_in (number_content n) more deed is = absurd cc
more_in (instance_content key fields) more deed is = absurd cc
more_in (array_content plain os) more deed is = absurd cc
more_in (dictionary_content plain pairs) more deed is = absurd cc
more_in (set_content plain members) more deed is = absurd cc
more_in (bag_content plain rows) more deed is = absurd cc
more_in (heap_content plain adds rows) more deed is = absurd cc
more_in (item_content handler info valid item) more deed is = absurd cc

more_of : (b : Option Numbered) (more : List ℕ) (deed : List ℕ → deeds.Deed) → Some more ≡ read_in units_in b
    → deeds.with_text b deed ≡ deed more
more_of None more deed is = absurd cc
more_of (Some u) more deed is = more_in u.object.content more deed is

units_of : (content : Content) (units : List ℕ) (deed other : List ℕ → deeds.Deed)
    → Some units ≡ mutable_units_in content → deed units ≡ other units
    → deeds.mutable_text_in content deed ≡ deeds.mutable_text_in content other
units_of (text_content true old) units deed other is same = let e : units ≡ old = cc in rw e at same
units_of (text_content false old) units deed other is same = absurd cc
units_of (data_content mutable bytes) units deed other is same = absurd cc
units_of (number_content n) units deed other is same = absurd cc
units_of (instance_content key fields) units deed other is same = absurd cc
units_of (array_content plain os) units deed other is same = absurd cc
units_of (dictionary_content plain pairs) units deed other is same = absurd cc
units_of (set_content plain members) units deed other is same = absurd cc
units_of (bag_content plain rows) units deed other is same = absurd cc
units_of (heap_content plain adds rows) units deed other is same = absurd cc
units_of (item_content handler info valid item) units deed other is same = absurd cc

text_of : (a : Option Numbered) (units : List ℕ) (deed other : List ℕ → deeds.Deed)
    → Some units ≡ read_in mutable_units_in a → deed units ≡ other units
    → deeds.with_mutable_text a deed ≡ deeds.with_mutable_text a other
text_of None units deed other is same = absurd cc
text_of (Some u) units deed other is same = units_of u.object.content units deed other is same

pub appended : (a b : Option Numbered) (d : Plan) (units more other : List ℕ) (at : ℕ)
    → Some units ≡ read_in mutable_units_in a
    → Some more ≡ read_in units_in b → other ≡ more → at ≡ length units
    → Does (deeds.with_mutable_text a (λ us. deeds.text_edit us at 0 other)) a d
    → Does (deeds.with_mutable_text a (λ us. deeds.with_text b (λ m. deeds.text_edit us (length us) 0 m))) a d
appended a b d units more other at first second copied end does =
    let deed = λ (us : List ℕ). deeds.with_text b (λ m. deeds.text_edit us (length us) 0 m) in
    let given = λ (us : List ℕ). deeds.text_edit us at 0 other in
    let same : deed units ≡ given units = more_of b more (λ m. deeds.text_edit units (length units) 0 m) second
    ∙ ap (λ (m : List ℕ). deeds.text_edit units (length units) 0 m) (sym copied) ∙ ap (λ (n : ℕ). deeds.text_edit units n 0 other) (sym end) in
    let whole : deeds.with_mutable_text a deed ≡ deeds.with_mutable_text a given = text_of a units deed given first same in
    record { is = does.is ∙ sym whole; new = does.new; can = does.can }

-- ---- pairs

pub put_does : (a c : Option Numbered) (key : Cell) (value : ℕ) (answer : Answer) (d : Plan)
    → ((k : Cell) (v : ℕ) → CanBeAt (PutPair k v) a) → Some value ≡ number_of c
    → d ≡ record { answer = answer; origin = Nowhere; change = PutPair key value }
    → Does (deeds.with_object c (λ u. deeds.putting answer key u.number)) a d
put_does a None key value answer d puts is same = absurd cc
put_does a (Some u) key value answer d puts is same =
    let named : value ≡ u.number = cc in
    rw same (record { is = ap (λ (n : ℕ). deeds.putting answer key n) named; new = tt; can = puts key value })

pub remove_does : (a : Option Numbered) (key : Cell) (d : Plan) → ((k : Cell) → CanBeAt (RemovePair k) a)
    → d ≡ record { answer = answers.Ok; origin = Nowhere; change = RemovePair key }
    → Does (deeds.changing answers.Ok (deeds.remove_pair key)) a d
remove_does a key d removes same = rw same (record { is = refl; new = tt; can = removes key })

-- ---- members

pub changes_does : (a : Option Numbered) (d : Plan) (answer : Answer) (change : BodyChange) → CanBeAt change a
    → d ≡ record { answer = answer; origin = Nowhere; change = change }
    → Does (deeds.changing answer (done_of change)) a d
changes_does a d answer change can same = rw same (record { is = refl; new = tt; can = can })

-- ---- what can be done to an object can be done to its body

can_in : (change : BodyChange) (o : ℕ) (b : Option BodyView)
    → CanBeAt change (with_number_of o (option_map object_in b)) → IfSome b (λ (x : BodyView). CanBe change x.content)
can_in change o None can = tt
can_in change o (Some x) can = can

pub can_at : (change : BodyChange) (bodies : List BodyView) (o : Option ℕ)
    → CanBeAt change (numbered (objects_of (map held_of bodies)) o)
    → IfSome (body_at bodies o) (λ (b : BodyView). CanBe change b.content)
can_at change bodies None can = tt
can_at change bodies (Some o) can = can_in change o (slice_get bodies o) (rw object_at at can)

-- the first of three places
first_read : (used : List (Option ℕ)) (d e : Option ℕ) → length used ≡ 3 → get_or used 0 d ≡ get_or used 0 e
first_read [] d e three = absurd (omega (arith, three))
first_read (o ∷ os) d e three = refl

pub can_first : (change : BodyChange) (bodies : List BodyView) (used : List (Option ℕ)) (d e : Option ℕ)
    (a : Option Numbered)
    → length used ≡ 3
    → a ≡ numbered (objects_of (map held_of bodies)) (get_or used 0 d) → CanBeAt change a
    → IfSome (body_at bodies (get_or used 0 e)) (λ (b : BodyView). CanBe change b.content)
can_first change bodies used d e a three is can =
    rw (first_read used e d three) (can_at change bodies (get_or used 0 d) (rw is at can))
