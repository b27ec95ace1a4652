-- What a deal keeps: bodies hold what they contain, what leaves is there, and what enters leads to objects that are
-- live.
use Rattle.std.proofs.Common.{◌≡◌, ℕ, zero, suc, ◌+◌, ◌<◌, ◌≤◌, Bool, true, false, cond, List, [], ◌∷◌, length, drop, map, Option, Some, None, refl, sym, ap, ◌∙◌, subst, arith, inl, inr}
use Rattle.std.specs.Prelude.{slice_get, not, ◌&&◌}
use Rattle.std.proofs.lemmas.Bool.{ltb-true}
use Rattle.std.proofs.lemmas.Bool.Decides.{eqb_tells}
use Rattle.cf_ids.specs.declared.answer.Answer.{Answer}
use Rattle.cf_ids.specs.declared.answer.Answer.TheVariants as answers
use Rattle.rl_base.specs.declared.places.Place.{Place}
use Rattle.rl_base.specs.Modes.{items_gained}
use Rattle.cf_syntax.specs.declared.script.Script.{Script}
use Rattle.cf_contents.specs.Items.{Item, source_item, kind_of}
use Rattle.cf_contents.specs.Contents.{Object, Content, item_content, times, slots_in, slots_at}
use Rattle.cf_contents.specs.Deeds.{Change, in_item, item_after, with_change, taken_in, given_out}
use Rattle.cf_contents.proofs.ContentLaws.{length-with_change}
use Rattle.cf_contents.proofs.SlotLaws.{change_law, others_keep, given_most}
use Rattle.cf_graph.specs.Holders.{Holder, variable, callout, owed, parcel, slot, in_mode, in_common, code_of}
use Rattle.cf_graph.specs.Edges.{Reference, held_by, weigh, one, degree, has}
use Rattle.cf_graph.proofs.Flows.{one_own, other_weigh}
use Rattle.cf_next.specs.Stands.{has_run}
use Rattle.cf_model.specs.State.{Flags, Parts, State, stand_at, left_of, is_common, objects_of}
use Rattle.cf_model.specs.Things.{Thing, thing_at}
use Rattle.cf_model.specs.Own.{present_of}
use Rattle.cf_model.specs.Deals.{Deal, answering, okay, skipping, with_used, thing_deal, with_thing, change_deal, with_item, holds_at, held_at, stays_in_one, is_elsewhere, places_added, places_dropped, entering, leaving, add_deal, drop_deal, common_items, common_deal, signal_deal, every_place, invalidate_deal, wake_parts, stop_deal, with_filter}
use Rattle.cf_model.proofs.Balance.{IsBalanced, IsLive, live_there}
use Rattle.cf_model.proofs.OwnLaws.{present_there}
use Rattle.cf_model.proofs.Places.{AllPlaces, AllLoop, loops_are_places, loop_slots, held_loop, items_loop, every_loop, present_loop, kinds_apart, held_objects, AllLead, all_lead, held_lead, items_lead, filter_lead}

-- parts with as many objects, and the same ones finalised and given up
pub record Shape (st : State) (p : Parts) : Type 0 where
  pub finalised : p.finalised ≡ st.parts.finalised
  pub size : length p.objects ≡ length st.parts.objects
  pub dropped : p.dropped ≡ st.parts.dropped

-- parts whose bodies have the slots that they had
pub record SameBodies (st : State) (p : Parts) : Type 0 where
  pub shape : Shape st p
  pub left : (b : ℕ) → left_of p.objects p.dropped b ≡ left_of st.parts.objects st.parts.dropped b

pub same_bodies : (st : State) → SameBodies st st.parts
same_bodies st = record { shape = record { finalised = refl; size = refl; dropped = refl }; left = λ b. refl }

-- what a deal has to do
pub record FitsDeal (st : State) (deal : Deal) : Type 0 where
  pub shape : Shape st deal.parts
  pub left : (b : ℕ) → 0 < times b st.parts.finalised
      → left_of deal.parts.objects deal.parts.dropped b ≡ left_of st.parts.objects st.parts.dropped b
  pub ins : AllPlaces deal.enters
  pub outs : AllPlaces deal.leaves
  pub can : (r : Reference) → weigh (one r) deal.leaves ≤ weigh (one r) st.edges
  pub slots : (b o : ℕ)
      → times o (left_of deal.parts.objects deal.parts.dropped b) + weigh (one (held_by (slot b) o)) deal.leaves ≡ times o (left_of st.parts.objects st.parts.dropped b) + weigh (one (held_by (slot b) o)) deal.enters
  pub live : (o : ℕ) → 0 < degree o deal.enters → IsLive st o

-- ---- kinds of deals

pub quiet_fits : (st : State) (deal : Deal) → deal.enters ≡ [] → deal.leaves ≡ [] → SameBodies st deal.parts
    → FitsDeal st deal
quiet_fits st deal ins outs same = record {
  shape = same.shape;
  left = λ b f. same.left b;
  ins = rw ins tt;
  outs = rw outs tt;
  can = λ r. rw outs (omega arith);
  slots = λ b o. rw (ins, outs, same.left b) refl;
  live = λ o some. absurd (omega (arith, some, ap (degree o) ins));
}

enters_fits : (st : State) (deal : Deal) → deal.leaves ≡ [] → AllLoop deal.enters → SameBodies st deal.parts
    → AllLead (IsLive st) deal.enters → FitsDeal st deal
enters_fits st deal outs loops same lead = record {
  shape = same.shape;
  left = λ b f. same.left b;
  ins = loops_are_places deal.enters loops;
  outs = rw outs tt;
  can = λ r. rw outs (omega arith);
  slots = λ b o. rw (outs, same.left b) (omega (arith, loop_slots b o deal.enters loops));
  live = λ o some. all_lead (IsLive st) o deal.enters lead some;
}

leaves_fits : (st : State) (deal : Deal) (rs : List Reference) → deal.enters ≡ [] → deal.leaves ≡ present_of rs st.edges
    → AllLoop rs → SameBodies st deal.parts → FitsDeal st deal
leaves_fits st deal rs ins outs loops same = record {
  shape = same.shape;
  left = λ b f. same.left b;
  ins = rw ins tt;
  outs = rw outs (loops_are_places (present_of rs st.edges) (present_loop rs st.edges loops));
  can = λ r. rw outs (present_there rs st.edges r);
  slots = λ b o. rw (ins, outs, same.left b) (omega (arith, loop_slots b o (present_of rs st.edges) (present_loop rs st.edges loops)));
  live = λ o some. absurd (omega (arith, some, ap (degree o) ins));
}

either_fits : (st : State) (b : Bool) (x y : Deal) → FitsDeal st x → FitsDeal st y → FitsDeal st (cond b x y)
either_fits st true x y h k = h
either_fits st false x y h k = k

skip_fits : (st : State) → FitsDeal st (skipping st.parts)
skip_fits st = quiet_fits st (skipping st.parts) refl refl (same_bodies st)

answer_fits : (st : State) (a : Answer) → FitsDeal st (answering st.parts a)
answer_fits st a = quiet_fits st (answering st.parts a) refl refl (same_bodies st)

pub used_fits : (st : State) (used : Option ℕ) (deal : ℕ → Deal) → ((o : ℕ) → used ≡ Some o → FitsDeal st (deal o))
    → FitsDeal st (with_used st.parts used deal)
used_fits st None deal h = skip_fits st
used_fits st (Some o) deal h = h o refl

pub thing_fits : (st : State) (used : Option ℕ) (deal : ℕ → Thing → Deal)
    → ((i : ℕ) (x : Thing) → used ≡ Some i → FitsDeal st (deal i x)) → FitsDeal st (with_thing st.parts used deal)
thing_fits st None deal h = skip_fits st
thing_fits st (Some i) deal h = by (thing_at st.parts i)
  where
    by : (x : Option Thing) → FitsDeal st (thing_deal st.parts i deal x)
    by None = skip_fits st
    by (Some x) = h i x refl

pub filter_fits : (st : State) (v object : Option ℕ) (deal : Option ℕ → Deal) → ((o : Option ℕ) → FitsDeal st (deal o))
    → FitsDeal st (with_filter st.parts v object deal)
filter_fits st None object deal h = h None
filter_fits st (Some v) object deal h = used_fits st object (λ o. deal (Some o)) (λ o e. h (Some o))

-- ---- bodies

-- an item that is changed keeps its slot
item_content_slots : (valid : Bool) (item : Item) (c : Content) → slots_in (item_after valid item c) ≡ slots_in c
item_content_slots valid item (item_content h info v i) = refl
item_content_slots valid item _ = refl

item_slots : (i b : ℕ) (valid : Bool) (item : Item) (obs : List Object)
    → slots_at (slice_get (with_change i (in_item valid item) obs) b) ≡ slots_at (slice_get obs b)
item_slots i b valid item [] = refl
item_slots zero zero valid item (ob ∷ obs) = item_content_slots valid item ob.content
item_slots zero (suc b) valid item (ob ∷ obs) = refl
item_slots (suc i) zero valid item (ob ∷ obs) = refl
item_slots (suc i) (suc b) valid item (ob ∷ obs) = item_slots i b valid item obs

pub item_bodies : (st : State) (i : ℕ) (valid : Bool) (item : Item) → SameBodies st (with_item st.parts i valid item)
item_bodies st i valid item = record {
  shape = record { finalised = refl; size = length-with_change i (in_item valid item) st.parts.objects; dropped = refl };
  left = λ b. ap (drop (times b st.parts.dropped)) (item_slots i b valid item st.parts.objects);
}

all_slots : (b : ℕ) (os : List ℕ) → AllPlaces (map (held_by (slot b)) os)
all_slots b [] = tt
all_slots b (o ∷ os) = (tt, all_slots b os)

own_objects : (k : Holder) (o : ℕ) (xs : List ℕ) → weigh (one (held_by k o)) (map (held_by k) xs) ≡ times o xs
own_objects k o [] = refl
own_objects k o (x ∷ xs) = omega (arith, one_own k o x, own_objects k o xs)

-- the slots of all bodies are their contents, but for what they have given up
abbrev pub AreSlotted : State → Type 0
AreSlotted st = (b o : ℕ) → weigh (one (held_by (slot b) o)) st.edges ≡ times o (left_of st.parts.objects st.parts.dropped b)

-- a change of a body that is not finalised, and so has given up nothing
pub change_fits : (st : State) (answer : Answer) (used : Option ℕ) (change : Change) → AreSlotted st
    → ((b : ℕ) → used ≡ Some b → (times b st.parts.finalised ≡ 0) × (times b st.parts.dropped ≡ 0))
    → ((b o : ℕ) → used ≡ Some b → 0 < times o (taken_in (slice_get st.parts.objects b) change) → IsLive st o)
    → FitsDeal st (change_deal st.parts answer used change)
change_fits st answer None change held whole live = quiet_fits st (change_deal st.parts answer None change) refl refl (same_bodies st)
change_fits st answer (Some b) change held whole live =
    let ob = slice_get st.parts.objects b in
    let ts = taken_in ob change in
    let gs = given_out ob change in
    record {
      shape = record { finalised = refl; size = length-with_change b change st.parts.objects; dropped = refl };
      left = λ a f. ap (λ (ob : Option Object). drop (times a st.parts.dropped) (slots_at ob)) (others_keep b a change st.parts.objects (λ q. omega (arith, (whole b refl).0, f, ap (λ (n : ℕ). times n st.parts.finalised) q)));
      ins = all_slots b ts;
      outs = all_slots b gs;
      can = λ r. slots_can r.holder r.object gs;
      slots = λ a o. elim (eqb_tells b a) [
        | inl e ↦ subst (λ (d : ℕ). times o (left_of (with_change b change st.parts.objects) st.parts.dropped d) + weigh (one (held_by (slot d) o)) (map (held_by (slot b)) gs) ≡ times o (left_of st.parts.objects st.parts.dropped d) + weigh (one (held_by (slot d) o)) (map (held_by (slot b)) ts)) e.1
            (rw (whole b refl).1 (omega (arith, own_objects (slot b) o gs, own_objects (slot b) o ts, change_law o b change st.parts.objects)))
        | inr e ↦
            let other : slot a ≡ slot b → ⊥ = λ q. e.1 (sym (ap (λ k. (code_of k).first) q)) in
            rw (others_keep b a change st.parts.objects e.1) (omega (arith, other_weigh (held_by (slot a) o) (slot b) gs other, other_weigh (held_by (slot a) o) (slot b) ts other))
      ];
      live = λ o some. live b o refl (omega (arith, some, held_objects (slot b) o ts));
    }
  where
    other_can : (h : Holder) (o : ℕ) (gs : List ℕ) → (h ≡ slot b → ⊥)
        → weigh (one (held_by h o)) (map (held_by (slot b)) gs) ≤ weigh (one (held_by h o)) st.edges
    other_can h o gs apart = omega (arith, other_weigh (held_by h o) (slot b) gs apart)

    own_can : (o : ℕ)
        → weigh (one (held_by (slot b) o)) (map (held_by (slot b)) (given_out (slice_get st.parts.objects b) change)) ≤ weigh (one (held_by (slot b) o)) st.edges
    own_can o =
        let here : weigh (one (held_by (slot b) o)) st.edges ≡ times o (slots_at (slice_get st.parts.objects b)) = held b o ∙ ap (λ (n : ℕ). times o (drop n (slots_at (slice_get st.parts.objects b)))) (whole b refl).1 in
        omega (arith, own_objects (slot b) o (given_out (slice_get st.parts.objects b) change), given_most o change (slice_get st.parts.objects b), here)

    slots_can : (h : Holder) (o : ℕ) (gs : List ℕ)
        → weigh (one (held_by h o)) (map (held_by (slot b)) (given_out (slice_get st.parts.objects b) change)) ≤ weigh (one (held_by h o)) st.edges
    slots_can (slot a) o gs = elim (eqb_tells a b) [
      | inl e ↦ subst (λ (d : ℕ). weigh (one (held_by (slot d) o)) (map (held_by (slot b)) (given_out (slice_get st.parts.objects b) change)) ≤ weigh (one (held_by (slot d) o)) st.edges) (sym e.1) (own_can o)
      | inr e ↦ other_can (slot a) o (given_out (slice_get st.parts.objects b) change) (λ q. e.1 (ap (λ k. (code_of k).first) q))
    ]
    slots_can (variable t d v) o gs = other_can (variable t d v) o _ (kinds_apart (variable t d v) (slot b) refl)
    slots_can (callout t d) o gs = other_can (callout t d) o _ (kinds_apart (callout t d) (slot b) refl)
    slots_can (owed t) o gs = other_can (owed t) o _ (kinds_apart (owed t) (slot b) refl)
    slots_can (parcel t d) o gs = other_can (parcel t d) o _ (kinds_apart (parcel t d) (slot b) refl)
    slots_can (in_mode t d) o gs = other_can (in_mode t d) o _ (kinds_apart (in_mode t d) (slot b) refl)
    slots_can (in_common t) o gs = other_can (in_common t) o _ (kinds_apart (in_common t) (slot b) refl)

-- ---- loops

added_lead : (s : Script) (st : State) (u i : ℕ) (p : Place) → IsLive st i
    → AllLead (IsLive st) (held_at u i (places_added s u i st p))
added_lead s st u i p h = held_lead (IsLive st) u i (places_added s u i st p) h

pub add_fits : (s : Script) (st : State) (u : ℕ) (p : Place) (i : ℕ) (x : Thing) → IsLive st i
    → FitsDeal st (add_deal s st u p i x)
add_fits s st u p i x live =
    either_fits st (not x.valid) (answering st.parts answers.Invalid) _ (answer_fits st answers.Invalid)
    (either_fits st (stays_in_one (kind_of x.item) && is_elsewhere s u i st.edges) (answering st.parts answers.Elsewhere) _ (answer_fits st answers.Elsewhere)
    (either_fits st (holds_at u i st.edges p) (answering st.parts answers.Present) _ (answer_fits st answers.Present)
    (enters_fits st (entering st.parts (held_at u i (places_added s u i st p))) refl (held_loop u i (places_added s u i st p)) (same_bodies st) (added_lead s st u i p live))))

pub drop_fits : (s : Script) (st : State) (u : ℕ) (p : Place) (i : ℕ) → FitsDeal st (drop_deal s st u p i)
drop_fits s st u p i =
    either_fits st (holds_at u i st.edges p) _ (answering st.parts answers.Absent)
    (leaves_fits st (leaving st.parts (present_of (held_at u i (places_dropped s u i st p)) st.edges)) (held_at u i (places_dropped s u i st p)) refl refl (held_loop u i (places_dropped s u i st p)) (same_bodies st))
    (answer_fits st answers.Absent)

-- common items are live: their loop holds them
common_lead : (st : State) (u m : ℕ) → IsBalanced st
    → AllLead (IsLive st) (map (held_by (in_mode u m)) (items_gained (λ i. has (in_mode u m) i st.edges) (common_items st u)))
common_lead st u m b =
    filter_lead (IsLive st) (in_mode u m) (λ i. not (has (in_mode u m) i st.edges)) (common_items st u)
    (items_lead (IsLive st) (in_mode u m) (λ i. has (in_common u) i st.edges) (objects_of st.parts)
    (λ i e. live_there st (held_by (in_common u) i) b (ltb-true 0 (weigh (one (held_by (in_common u) i)) st.edges) e)))

pub common_fits : (st : State) (u m : ℕ) → IsBalanced st → FitsDeal st (common_deal st u m)
common_fits st u m b =
    let gained = items_gained (λ i. has (in_mode u m) i st.edges) (common_items st u) in
    either_fits st (is_common u st.parts.commons m) (answering st.parts answers.Present) _ (answer_fits st answers.Present)
    (enters_fits st _ refl (items_loop u m gained) (record { shape = record { finalised = refl; size = refl; dropped = refl }; left = λ b. refl }) (common_lead st u m b))

pub signal_fits : (st : State) (i : ℕ) (valid : Bool) (item : Item) → FitsDeal st (signal_deal st.parts i valid item)
signal_fits st i true (source_item order on) = quiet_fits st _ refl refl (item_bodies st i true (source_item order true))
signal_fits st i false (source_item order on) = answer_fits st answers.Invalid
signal_fits st i valid _ = skip_fits st

pub invalidate_fits : (s : Script) (st : State) (i : ℕ) (x : Thing) → FitsDeal st (invalidate_deal s st i x)
invalidate_fits s st i x =
    either_fits st x.valid _ (answering st.parts answers.Invalid)
    (leaves_fits st (leaving (with_item st.parts i false x.item) (present_of (every_place s i st.edges) st.edges)) (every_place s i st.edges) refl refl (every_loop s i st.edges) (item_bodies st i false x.item))
    (answer_fits st answers.Invalid)

-- ---- threads

pub flags_bodies : (st : State) (flags : List Flags) → SameBodies st (record st.parts { flags = flags })
flags_bodies st flags = record { shape = record { finalised = refl; size = refl; dropped = refl }; left = λ b. refl }

pub wake_fits : (st : State) (u : ℕ) → FitsDeal st (okay (wake_parts st.parts u))
wake_fits st u = quiet_fits st (okay (wake_parts st.parts u)) refl refl (flags_bodies st (wake_parts st.parts u).flags)

pub stop_fits : (st : State) (u : ℕ) → FitsDeal st (stop_deal st u)
stop_fits st u =
    either_fits st (has_run (stand_at u st.stands).frames) _ (answering st.parts answers.Idle)
    (quiet_fits st _ refl refl (flags_bodies st (wake_parts st.parts u).flags)) (answer_fits st answers.Idle)
