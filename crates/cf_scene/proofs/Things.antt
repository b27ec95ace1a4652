-- Items as a state has them, told by the bodies that mirror it.
use Rattle.std.proofs.Common.{◌≡◌, ℕ, zero, suc, ◌∙◌, Bool, true, false, ◌&&◌, List, [], ◌∷◌, Option, Some, None, refl, sym, ap, subst}
use Rattle.std.specs.Prelude.{is_some, slice_get}
use Rattle.std.specs.Option.{option_map}
use Rattle.cf_contents.specs.Items.{Item, source_item, is_signalled_item}
use Rattle.cf_contents.specs.Contents.{Content, item_content, Object}
use Rattle.cf_contents.specs.Deeds.{in_item, item_after, objects_after}
use Rattle.cf_contents.specs.Stores.{Held, objects_of, bodies_changed}
use Rattle.cf_body.specs.declared.item.ItemState.{ItemState}
use Rattle.cf_body.specs.declared.item.ItemState.TheVariants.{Source}
use Rattle.cf_body.specs.declared.item.LoopItem.{LoopItem}
use Rattle.cf_body.specs.Items.{ItemView, item_in, item_of, seen_of}
use Rattle.cf_store.specs.Sources.{calling_out, item_at, is_source, is_valid_source, signalling as signalled, with_signal}
use Rattle.cf_model.specs.State.{Parts}
use Rattle.cf_ids.specs.declared.answer.Answer.{Answer}
use Rattle.cf_ids.specs.declared.answer.Answer.TheVariants as answers
use Rattle.cf_model.specs.Things.{Thing, is_valid_thing, thing_in, thing_of, thing_at}
use Rattle.cf_model.specs.Deals.{Deal, answering, okay, signal_deal, thing_deal, with_item}
use Rattle.cf_model.specs.Steps.{fire, fired}
use Rattle.cf_scene.specs.Scenes.{Mirrors}
use Rattle.cf_scene.specs.Dealing.{IsSignalled, signalling}
use Rattle.cf_scene.proofs.Mirroring.{AreMirrored, mirrored, mirrors_by, mirrored_changed}

-- an item as the state has it
abbrev pub thing_of_view : ItemView → Thing
thing_of_view x = record { handler = x.handler; info = x.info; valid = x.valid; item = x.item }

-- a content is the same item to the state and to the bodies
in_content : (c : Content) → thing_in c ≡ option_map thing_of_view (item_in c)
in_content (item_content handler info valid item) = refl
in_content _ = refl

-- so is an object among bodies
among_bodies : (bodies : List Held) (i : ℕ)
    → thing_of (slice_get (objects_of bodies) i) ≡ option_map thing_of_view (item_at bodies i)
among_bodies [] i = refl
among_bodies (h ∷ hs) zero = in_content h.object.content
among_bodies (h ∷ hs) (suc i) = among_bodies hs i

-- the item of a number is that of the bodies
pub thing_told : (p : Parts) (bodies : List Held) → Mirrors p bodies → (i : ℕ)
    → thing_at p i ≡ option_map thing_of_view (item_at bodies i)
thing_told p bodies h i =
    ap (λ (obs : List Object). thing_of (slice_get obs i)) (sym h.objects_are) ∙ among_bodies bodies i

-- what the store finds is the item of the state
pub item_told : (p : Parts) (bodies : List Held) → Mirrors p bodies → (i : ℕ) (x : LoopItem)
    → option_map seen_of (Some x) ≡ item_at bodies i → thing_at p i ≡ Some (thing_of_view (seen_of x))
item_told p bodies h i x e = thing_told p bodies h i ∙ ap (option_map thing_of_view) (sym e)

-- where the store finds none the state has none
pub no_item_told : (p : Parts) (bodies : List Held) → Mirrors p bodies → (i : ℕ)
    → ◌≡◌ {A = Option ItemView} None (item_at bodies i) → thing_at p i ≡ None
no_item_told p bodies h i e = thing_told p bodies h i ∙ ap (option_map thing_of_view) (sym e)

-- ---- a valid source

-- what is a valid source is an item that is valid
pub valid_view : (o : Option ItemView) → is_valid_source o ≡ true
    → (x : ItemView) × (o ≡ Some x) × (x.valid ≡ true)
valid_view None h = absurd cc
valid_view (Some x) h = (x, refl, left x.valid (is_source x.item) h)
  where
    left : (a b : Bool) → (a && b) ≡ true → a ≡ true
    left true b e = refl
    left false b e = absurd cc

-- a valid item of the store is a valid source
pub valid_found : (bodies : List Held) (i : ℕ) (x : LoopItem) → option_map seen_of (Some x) ≡ item_at bodies i
    → x.valid ≡ true → is_valid_source (item_at bodies i) ≡ true
valid_found bodies i x e valid = ap is_valid_source (sym e) ∙ both x.valid x.state valid
  where
    both : (b : Bool) (s : ItemState) → b ≡ true → (b && is_source (item_of s)) ≡ true
    both true (Source order signalled) h = refl
    both false (Source order signalled) h = absurd cc

-- ---- an item that is put in

-- bodies with an item put in mirror the parts with it
pub item_mirrored : (p : Parts) (bodies after : List Held) (i : ℕ) (valid : Bool) (item : Item) → Mirrors p bodies
    → after ≡ bodies_changed (Some i) (in_item valid item) bodies → Mirrors (with_item p i valid item) after
item_mirrored p bodies after i valid item h is =
    rw is (mirrors_by (with_item p i valid item) (bodies_changed (Some i) (in_item valid item) bodies)
    (mirrored_changed p.objects p.finalised p.dropped bodies (Some i) (in_item valid item) (mirrored p bodies h)))

-- a content with its own item put in is the same
same_content : (c : Content) (x : Thing) → thing_in c ≡ Some x → item_after x.valid x.item c ≡ c
same_content (item_content handler info valid item) x e = put valid item x e
  where
    put : (v : Bool) (i : Item) (y : Thing) → ◌≡◌ {A = Option Thing} (Some (record { handler = handler; info = info; valid = v; item = i })) (Some y)
        → item_content handler info y.valid y.item ≡ item_content handler info v i
    put v i y e = cc
same_content _ x e = refl

-- an object with another content
abbrev with_content : Object → Content → Object
with_content ob c = record { class = ob.class; content = c }

-- objects with an item put in again are the same
pub same_objects : (objects : List Object) (i : ℕ) (x : Thing) → thing_of (slice_get objects i) ≡ Some x
    → objects_after (Some i) (in_item x.valid x.item) objects ≡ objects
same_objects [] i x e = refl
same_objects (ob ∷ obs) zero x e =
    ap (λ (o : Object). o ∷ obs) (ap (λ (c : Content). with_content ob c) (same_content ob.content x e))
same_objects (ob ∷ obs) (suc i) x e = ap (λ (rest : List Object). ob ∷ rest) (same_objects obs i x e)

-- bodies mirror the parts with an item put in again
pub again_mirrored : (p : Parts) (bodies : List Held) (i : ℕ) (x : Thing) → thing_at p i ≡ Some x → Mirrors p bodies
    → Mirrors (with_item p i x.valid x.item) bodies
again_mirrored p bodies i x is h =
    mirrors_by (with_item p i x.valid x.item) bodies
    (subst (λ (obs : List Object). AreMirrored obs p.finalised p.dropped bodies) (sym (same_objects p.objects i x is)) (mirrored p bodies h))

-- ---- what may be found

-- what is found, if something is
pub some_found : (o : Option LoopItem) (v : Option ItemView) → option_map seen_of o ≡ v → is_some o ≡ true
    → (x : LoopItem) × (option_map seen_of (Some x) ≡ v)
some_found None v e h = absurd cc
some_found (Some x) v e h = (x, e)

-- nothing is
pub none_found : (o : Option LoopItem) (v : Option ItemView) → option_map seen_of o ≡ v → is_some o ≡ false
    → ◌≡◌ {A = Option ItemView} None v
none_found None v e h = e
none_found (Some x) v e h = absurd cc

-- ---- sources

-- a valid source that is signalled
signal_valid : (p : Parts) (i : ℕ) (s : ItemState)
    → signal_deal p i true (item_of s) ≡ okay (with_item p i true (with_signal true (item_of s)))
signal_valid p i (Source order signal) = refl

-- one that is not valid
signal_invalid : (p : Parts) (i : ℕ) (s : ItemState) → signal_deal p i false (item_of s) ≡ answering p answers.Invalid
signal_invalid p i (Source order signal) = refl

-- a callout of a source takes its signal
fired_is : (time : ℕ) (s : ItemState) → fired time (item_of s) ≡ with_signal false (item_of s)
fired_is time (Source order signal) = refl

-- of a source that is not signalled it changes nothing
unfired : (time : ℕ) (s : ItemState) → is_signalled_item (item_of s) ≡ false → fired time (item_of s) ≡ item_of s
unfired time (Source order signal) e = ap (source_item order) (sym e)

module _ (p : Parts) (bodies : List Held) (i : ℕ) (h : Mirrors p bodies) where
  -- a deal of a signal by what it is
  by_deal : (deal : Deal) (answer : Answer) (after : List Held) → signalling p i ≡ deal → answer ≡ deal.answer
      → Mirrors deal.parts after
      → IsSignalled p i answer after
  by_deal deal answer after is a m = record {
    answer_is = a ∙ ap (λ (d : Deal). d.answer) (sym is);
    mirrors = subst (λ (d : Deal). Mirrors d.parts after) (sym is) m;
  }

  -- a signal of what is no source
  pub none_signalled : ◌≡◌ {A = Option ItemView} None (item_at bodies i) → IsSignalled p i answers.Skip bodies
  none_signalled e = by_deal (answering p answers.Skip) answers.Skip bodies
      (ap (thing_deal p i (λ o x. signal_deal p o x.valid x.item)) (no_item_told p bodies h i e)) refl h

  module _ (x : LoopItem) (e : option_map seen_of (Some x) ≡ item_at bodies i) where
    told : thing_at p i ≡ Some (thing_of_view (seen_of x))
    told = item_told p bodies h i x e

    signal_told : (valid : Bool) → x.valid ≡ valid → signalling p i ≡ signal_deal p i valid (item_of x.state)
    signal_told valid is =
        ap (thing_deal p i (λ o y. signal_deal p o y.valid y.item)) told ∙ ap (λ (v : Bool). signal_deal p i v (item_of x.state)) is

    -- a signal of a source that is not valid
    pub invalid_signalled : x.valid ≡ false → IsSignalled p i answers.Invalid bodies
    invalid_signalled is =
        by_deal (answering p answers.Invalid) answers.Invalid bodies (signal_told false is ∙ signal_invalid p i x.state) refl h

    -- a signal of a source
    pub valid_signalled : (after : List Held) → x.valid ≡ true
        → after ≡ bodies_changed (Some i) (signalled (item_at bodies i)) bodies → IsSignalled p i answers.Ok after
    valid_signalled after is new =
        let set = new ∙ ap (λ (o : Option ItemView). bodies_changed (Some i) (signalled o) bodies) (sym e)
        ∙ ap (λ (v : Bool). bodies_changed (Some i) (in_item v (with_signal true (item_of x.state))) bodies) is in
        by_deal (okay (with_item p i true (with_signal true (item_of x.state)))) answers.Ok after (signal_told true is ∙ signal_valid p i x.state) refl
        (item_mirrored p bodies after i true (with_signal true (item_of x.state)) h set)

    -- a callout by what it makes of the item
    by_fired : (after : List Held) (item : Item) → fired p.time (item_of x.state) ≡ item
        → Mirrors (with_item p i x.valid item) after → Mirrors (fire p i (thing_at p i)) after
    by_fired after item is m =
        subst (λ (o : Option Thing). Mirrors (fire p i o) after) (sym told)
        (subst (λ (k : Item). Mirrors (with_item p i x.valid k) after) (sym is) m)

    -- a callout of a source that is signalled
    pub signal_taken : (after : List Held) → after ≡ bodies_changed (Some i) (calling_out (item_at bodies i)) bodies
        → Mirrors (fire p i (thing_at p i)) after
    signal_taken after new =
        let set = new ∙ ap (λ (o : Option ItemView). bodies_changed (Some i) (calling_out o) bodies) (sym e) in
        by_fired after (with_signal false (item_of x.state)) (fired_is p.time x.state)
        (item_mirrored p bodies after i x.valid (with_signal false (item_of x.state)) h set)

    -- a callout of one that is not
    pub no_signal_taken : is_signalled_item (item_of x.state) ≡ false → Mirrors (fire p i (thing_at p i)) bodies
    no_signal_taken none =
        by_fired bodies (item_of x.state) (unfired p.time x.state none)
        (again_mirrored p bodies i (thing_of_view (seen_of x)) told h)

    -- what is not valid is no valid item of the state
    pub not_valid : x.valid ≡ false → is_valid_thing (thing_at p i) ≡ true → ⊥
    not_valid is valid = let bad : true ≡ false = sym valid ∙ ap is_valid_thing told ∙ is in cc

  -- nor is what is no item
  pub none_valid : ◌≡◌ {A = Option ItemView} None (item_at bodies i) → is_valid_thing (thing_at p i) ≡ true → ⊥
  none_valid e valid = let bad : true ≡ false = sym valid ∙ ap is_valid_thing (no_item_told p bodies h i e) in cc
