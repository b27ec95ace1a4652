-- What the lead does next, and that a ground is one again after an entry of the lead.
use Rattle.std.proofs.Common.{◌≡◌, ℕ, suc, ◌+◌, ◌<◌, ◌∙◌, Bool, true, false, cond, ◌&&◌, ◌||◌, List, [], ◌∷◌, ◌++◌, length, map, Option, Some, None, refl, sym, ap, subst, arith, length-append}
use Rattle.std.specs.Prelude.{vec_capacity}
use Rattle.std.specs.List.{list_all, range_with_len}
use Rattle.std.proofs.lemmas.Bool.Decides.{nat_tests}
use Rattle.rl_base.specs.Dates.{has_come}
use Rattle.cf_syntax.specs.declared.script.Script.{Script}
use Rattle.cf_syntax.specs.Owned.{Owned}
use Rattle.cf_next.specs.declared.action.Action.{Action}
use Rattle.cf_next.specs.declared.action.Action.TheVariants as actions
use Rattle.cf_next.specs.Stands.{Stand}
use Rattle.cf_next.specs.Standing.{Standing}
use Rattle.cf_model.specs.declared.entry.Entry.{Entry}
use Rattle.cf_model.specs.State.{State, at_or, blank, stand_at}
use Rattle.cf_model.specs.Journals.{all_sleep, all_done, due_date, is_none, has_stalled, tick_flags, tick_or_stall, ticked, over, busy, lead_next, IsLegalEntry, IsLegal, After, lead, after_action}
use Rattle.cf_model.proofs.Growth.{grows_by}
use Rattle.cf_scene.specs.declared.flags.Flags.{Flags}
use Rattle.cf_world.specs.declared.ground.Ground.TheInside.{Inside}
use Rattle.cf_world.specs.declared.next.LeadNext.TheVariants as leads
use Rattle.cf_world.specs.Worlds.{lead_of, IsTick}
use Rattle.cf_loops.proofs.Telling.{kept}
use Rattle.cf_world.specs.Grounds.{Follows, MayRun, IsGround, flags_of, view_of}
use Rattle.cf_world.specs.Begun.{AreFrames}
use Rattle.cf_world.specs.Leads.{lead_entry, HasPlaceFor, HasLed}

-- ---- what the lead does next

tick_case : (ended asleep : Bool) (due : Option ℕ) (time : ℕ)
    → IsTick (lead_of (cond ended over (cond asleep (tick_or_stall due) busy))) time
    → (asleep && has_come due time) ≡ true
tick_case true asleep due time h = absurd h
tick_case false false due time h = absurd h
tick_case false true None time h = absurd h
tick_case false true (Some d) time h = grind (arith, nat_tests)

stall_case : (ended asleep : Bool) (due : Option ℕ)
    → lead_of (cond ended over (cond asleep (tick_or_stall due) busy)) ≡ leads.Stall → (asleep && is_none due) ≡ true
stall_case true asleep due h = absurd cc
stall_case false false due h = absurd cc
stall_case false true None h = refl
stall_case false true (Some d) h = absurd cc

-- the lead does something next only as long as there is no stall
tick_unstalled : (done stalled asleep : Bool) (due : Option ℕ) (time : ℕ)
    → IsTick (lead_of (cond (done || stalled) over (cond asleep (tick_or_stall due) busy))) time → stalled ≡ false
tick_unstalled true stalled asleep due time h = absurd h
tick_unstalled false true asleep due time h = absurd h
tick_unstalled false false asleep due time h = refl

stall_unstalled : (done stalled asleep : Bool) (due : Option ℕ)
    → lead_of (cond (done || stalled) over (cond asleep (tick_or_stall due) busy)) ≡ leads.Stall → stalled ≡ false
stall_unstalled true stalled asleep due h = absurd cc
stall_unstalled false true asleep due h = absurd cc
stall_unstalled false false asleep due h = refl

busy_case : (ended asleep : Bool) (due : Option ℕ) → ended ≡ false → asleep ≡ false
    → lead_of (cond ended over (cond asleep (tick_or_stall due) busy)) ≡ leads.Busy
busy_case true asleep due e h = absurd cc
busy_case false true due e h = absurd cc
busy_case false false due e h = refl

over_case : (ended asleep : Bool) (due : Option ℕ) → ended ≡ true
    → lead_of (cond ended over (cond asleep (tick_or_stall due) busy)) ≡ leads.Over
over_case true asleep due e = refl
over_case false asleep due e = absurd cc

is_false : (b : Bool) → (b ≡ true → ⊥) → b ≡ false
is_false true h = absurd (h refl)
is_false false h = refl

-- ---- all are done

stands_range : (q : ℕ → Bool) (a : ℕ) (ss : List Stand) → ((i : ℕ) → q (a + i) ≡ (at_or blank i ss).is_done)
    → list_all q (range_with_len a (length ss)) ≡ list_all (λ (x : Stand). x.is_done) ss
stands_range q a [] h = refl
stands_range q a (x ∷ ss) h =
    let here : q a ≡ x.is_done = subst (λ (n : ℕ). q n ≡ x.is_done) (omega arith) (h 0) in
    let rest = stands_range q (a + 1) ss (λ i. subst (λ (n : ℕ). q n ≡ (at_or blank i ss).is_done) (omega arith) (h (suc i))) in
    ap (λ (b : Bool). b && list_all q (range_with_len (a + 1) (length ss))) here ∙ ap (λ (b : Bool). x.is_done && b) rest

frames_range : (fs : List Standing)
    → list_all (λ (f : Standing). f.stand.is_done) fs ≡ list_all (λ (x : Stand). x.is_done) (map (λ (f : Standing). f.stand) fs)
frames_range [] = refl
frames_range (f ∷ fs) = ap (λ (b : Bool). f.stand.is_done && b) (frames_range fs)

length-stands : (fs : List Standing) → length (map (λ (f : Standing). f.stand) fs) ≡ length fs
length-stands [] = refl
length-stands (f ∷ fs) = ap suc (length-stands fs)

from_zero : (i : ℕ) → 0 + i ≡ i
from_zero i = omega arith

pub all_done_is : (s : Script) (st : State) (fs : List Standing) → AreFrames s st fs
    → list_all (λ (f : Standing). f.stand.is_done) fs ≡ all_done s st
all_done_is s st fs h =
    frames_range fs ∙ ap (list_all (λ (x : Stand). x.is_done)) h.stand
    ∙ sym (stands_range (λ t. (stand_at t st.stands).is_done) 0 st.stands (λ i. ap (λ (n : ℕ). (stand_at n st.stands).is_done) (from_zero i)))
    ∙ ap (λ (n : ℕ). list_all (λ t. (stand_at t st.stands).is_done) (range_with_len 0 n)) (sym (ap length h.stand) ∙ length-stands fs ∙ h.count)

-- ---- what is found of the threads

pub lead_over : (s : Script) (es : List Entry) → (all_done s (After s es) || has_stalled es) ≡ true
    → leads.Over ≡ lead_of (lead_next s es)
lead_over s es done = sym (over_case (all_done s (After s es) || has_stalled es) (all_sleep s (After s es)) (due_date s (After s es)) done)

or_true : (a b : Bool) → a ≡ true → (a || b) ≡ true
or_true true b e = refl
or_true false b e = absurd cc

or_rest : (a b : Bool) → a ≡ false → (a || b) ≡ b
or_rest true b e = absurd cc
or_rest false b e = refl

pub over_then : (s : Script) (st : State) (fs : List Standing) (r stalled : Bool) → AreFrames s st fs
    → r ≡ list_all (λ (f : Standing). f.stand.is_done) fs → r ≡ true → r ≡ (all_done s st || stalled)
over_then s st fs r stalled h e t = t ∙ sym (or_true (all_done s st) stalled (sym (all_done_is s st fs h) ∙ sym e ∙ t))

pub over_else : (s : Script) (st : State) (fs : List Standing) (r q stalled : Bool) → AreFrames s st fs
    → r ≡ list_all (λ (f : Standing). f.stand.is_done) fs → r ≡ false → q ≡ stalled → q ≡ (all_done s st || stalled)
over_else s st fs r q stalled h e t is = is ∙ sym (or_rest (all_done s st) stalled (sym (all_done_is s st fs h) ∙ sym e ∙ t))

-- ---- a ground after an entry of the lead

module _ (g : Inside) (inv : IsGround g) where
  abbrev s : Script
  s = g.script

  abbrev es : List Entry
  es = g.journal.items

  abbrev st : State
  st = After g.script g.journal.items

  legal_led : (a : Action) → has_stalled es ≡ false → IsLegalEntry s st (lead_entry a)
      → IsLegal s (es ++ lead_entry a ∷ [])
  legal_led a none legal = (grows_by s es (lead_entry a)).legal inv.legal none legal

  after_led : (a : Action) → After s (es ++ lead_entry a ∷ []) ≡ after_action s lead st a
  after_led a = (grows_by s es (lead_entry a)).after

  ground_led : (a : Action) (g' : Inside) → has_stalled es ≡ false → IsLegalEntry s st (lead_entry a) → length es < 4000000 → g'.script ≡ s
      → g'.journal.items ≡ es ++ lead_entry a ∷ []
      → Follows s (after_action s lead st a) g'.store.bodies g'.parcels g'.flags.items g'.time g'.loops → IsGround g'
  ground_led a g' none entry short same grown follows =
      let long : List Entry = es ++ lead_entry a ∷ [] in
      let here : Follows s (After s g'.journal.items) g'.store.bodies g'.parcels g'.flags.items g'.time g'.loops =
      subst (λ (fs : List Entry). Follows s (After s fs) g'.store.bodies g'.parcels g'.flags.items g'.time g'.loops) (sym grown)
      (subst (λ (x : State). Follows s x g'.store.bodies g'.parcels g'.flags.items g'.time g'.loops) (sym (after_led a)) follows) in
      record {
        script = subst MayRun (sym same) inv.script;
        legal = subst (λ (x : Script). IsLegal x g'.journal.items) (sym same) (subst (IsLegal s) (sym grown) (legal_led a none entry));
        short = omega (arith, ap length grown, length-append es (lead_entry a ∷ []), short);
        follows = subst (λ (x : Script). Follows x (After x g'.journal.items) g'.store.bodies g'.parcels g'.flags.items g'.time g'.loops) (sym same) here;
      }

  tick_legal : (time : ℕ) → IsTick (lead_of (lead_next s es)) time → IsLegalEntry s st (lead_entry (actions.Tick time))
  tick_legal time due = (refl, refl, tick_case (all_done s st || has_stalled es) (all_sleep s st) (due_date s st) time due)

  stall_legal : lead_of (lead_next s es) ≡ leads.Stall → IsLegalEntry s st (lead_entry actions.Stall)
  stall_legal due = (refl, refl, stall_case (all_done s st || has_stalled es) (all_sleep s st) (due_date s st) due)

  tick_follows : (time : ℕ) (flags : List Flags)
      → map flags_of flags ≡ map (tick_flags time) (map flags_of g.flags.items)
      → Follows s (ticked time st) g.store.bodies g.parcels flags time g.loops
  tick_follows time flags e = record {
    mirrors = record { objects_are = inv.follows.mirrors.objects_are; live = inv.follows.mirrors.live; given_up = inv.follows.mirrors.given_up };
    parcels_are = record { has = inv.follows.parcels_are.has; at = inv.follows.parcels_are.at };
    flags_are = e ∙ ap (map (tick_flags time)) inv.follows.flags_are;
    time_is = refl;
    has_loops = record {
      loops_are =
          kept s st.parts (ticked time st).parts st.edges st.edges g.loops inv.follows.has_loops.loops_are
          (record { commons = refl; kinds = λ i k e. e }) (λ r is. refl);
      unregistered = inv.follows.has_loops.unregistered;
    };
  }

  pub tick_ground : (time : ℕ) (g' : Inside) → IsTick (lead_of (lead_next s es)) time → length es < 4000000
      → g'.script ≡ s → g'.journal.items ≡ es ++ lead_entry (actions.Tick time) ∷ []
      → g'.store.bodies ≡ g.store.bodies → g'.parcels ≡ g.parcels → map flags_of g'.flags.items ≡ map (tick_flags time) (map flags_of g.flags.items) → g'.time ≡ time
      → g'.loops ≡ g.loops → IsGround g'
  tick_ground time g' due short same grown bodies parcels flags at loops =
      ground_led (actions.Tick time) g' (tick_unstalled (all_done s st) (has_stalled es) (all_sleep s st) (due_date s st) time due) (tick_legal time due) short same grown
      (rw (bodies, parcels, at, loops) (tick_follows time g'.flags.items flags))

  pub stall_ground : (g' : Inside) → lead_of (lead_next s es) ≡ leads.Stall → length es < 4000000 → g'.script ≡ s
      → g'.journal.items ≡ es ++ lead_entry actions.Stall ∷ []
      → g'.store.bodies ≡ g.store.bodies → g'.parcels ≡ g.parcels → g'.flags.items ≡ g.flags.items → g'.time ≡ g.time
      → g'.loops ≡ g.loops → IsGround g'
  stall_ground g' due short same grown bodies parcels flags at loops =
      ground_led actions.Stall g' (stall_unstalled (all_done s st) (has_stalled es) (all_sleep s st) (due_date s st) due) (stall_legal due) short same grown (rw (bodies, parcels, flags, at, loops) inv.follows)

  led_view : (a : Action) (g' : Inside) → has_stalled es ≡ false → IsLegalEntry s st (lead_entry a)
      → (after_action s lead st a).stands ≡ st.stands → g'.script ≡ s → g'.journal.items ≡ es ++ lead_entry a ∷ []
      → vec_capacity g'.journal ≡ vec_capacity g.journal → HasPlaceFor (view_of g) → HasLed a (view_of g) (view_of g')
  led_view a g' none entry stands same grown capacity place = record {
    script = same;
    journal = grown;
    room = omega (arith, ap length grown, length-append es (lead_entry a ∷ []), place.room, capacity);
    stands = ap (λ (x : Script). (After x g'.journal.items).stands) same ∙ ap (λ (fs : List Entry). (After s fs).stands) grown ∙ ap (λ (x : State). x.stands) (after_led a) ∙ stands;
    legal = subst (λ (x : Script). IsLegal x g'.journal.items) (sym same) (subst (IsLegal s) (sym grown) (legal_led a none entry));
    owned = subst (λ (x : Script). Owned x) (sym same) inv.script.owned;
  }

  pub tick_view : (time : ℕ) (g' : Inside) → IsTick (lead_of (lead_next s es)) time → g'.script ≡ s
      → g'.journal.items ≡ es ++ lead_entry (actions.Tick time) ∷ []
      → vec_capacity g'.journal ≡ vec_capacity g.journal → HasPlaceFor (view_of g) → HasLed (actions.Tick time) (view_of g) (view_of g')
  tick_view time g' due same grown capacity place = led_view (actions.Tick time) g' (tick_unstalled (all_done s st) (has_stalled es) (all_sleep s st) (due_date s st) time due) (tick_legal time due) refl same grown capacity place

  pub stall_view : (g' : Inside) → lead_of (lead_next s es) ≡ leads.Stall → g'.script ≡ s
      → g'.journal.items ≡ es ++ lead_entry actions.Stall ∷ []
      → vec_capacity g'.journal ≡ vec_capacity g.journal → HasPlaceFor (view_of g) → HasLed actions.Stall (view_of g) (view_of g')
  stall_view g' due same grown capacity place = led_view actions.Stall g' (stall_unstalled (all_done s st) (has_stalled es) (all_sleep s st) (due_date s st) due) (stall_legal due) refl same grown capacity place
