-- No statement changes the time, and but for `stop` none stops a run.
use Rattle.std.proofs.Common.{◌≡◌, ℕ, Bool, true, false, ◌&&◌, not, cond, List, ◌∷◌, map, Option, Some, None, refl}
use Rattle.rl_base.specs.declared.places.Place.{Place}
use Rattle.rl_base.specs.Modes.{items_gained}
use Rattle.cf_ids.specs.declared.answer.Answer.{Answer}
use Rattle.cf_ids.specs.declared.answer.Answer.TheVariants as answers
use Rattle.cf_syntax.specs.declared.script.Script.{Script}
use Rattle.cf_syntax.specs.declared.statement.Statement.{Statement}
use Rattle.cf_syntax.specs.declared.statement.Statement.TheVariants as forms
use Rattle.cf_syntax.specs.declared.mention.Ownership.{Ownership}
use Rattle.cf_syntax.specs.declared.mention.Ownership.TheVariants.{Keeps, Binds, Retains, Releases}
use Rattle.cf_syntax.specs.Mentions.{ownership_of, first_of, used_at}
use Rattle.cf_syntax.specs.BlockLines.{says}
use Rattle.cf_graph.specs.Holders.{variable, in_mode}
use Rattle.cf_graph.specs.Edges.{held_by, has}
use Rattle.cf_contents.specs.Items.{Item, source_item, timer_item, observer_item, kind_of}
use Rattle.cf_contents.specs.Deeds.{Change, deed_at}
use Rattle.cf_next.specs.Stands.{has_run}
use Rattle.cf_next.specs.Demands.{does}
use Rattle.cf_next.specs.Next.{used_objects}
use Rattle.cf_model.specs.State.{Parts, State, is_common, stand_at}
use Rattle.cf_model.specs.Things.{Thing, thing_at}
use Rattle.cf_model.specs.Own.{present_of}
use Rattle.cf_model.specs.Deals.{Deal, add_deal, answering, change_deal, change_unless_skipped, common_deal, common_items, deal_of, drop_deal, entering, every_place, forget_deal, held_at, holds_at, invalidate_deal, is_elsewhere, leaving, observe_deal, okay, place_in, places_added, places_dropped, signal_deal, stays_in_one, stop_deal, thing_deal, thread_in, wake_parts, with_filter, with_item, with_thing, with_used}
use Rattle.cf_model.specs.Steps.{bindings_of, depth_of, done_by, frames_at, release_step, retain_step, statement_step}

-- a statement stops no run
abbrev pub StopsNone : Statement → Type 0
StopsNone (forms.Stop u) = ⊥
StopsNone _ = Unit {0}

-- ---- deals

module _ (p : Parts) where
  -- the parts after a deal have this time, and it stops no run
  abbrev pub Still : Deal → Type 0
  Still deal = (deal.parts.time ≡ p.time) × (deal.stops ≡ None)

  still_if : (b : Bool) (x y : Deal) → Still x → Still y → Still (cond b x y)
  still_if true x y h k = h
  still_if false x y h k = k

  still_used : (o : Option ℕ) (deal : ℕ → Deal) → ((i : ℕ) → Still (deal i)) → Still (with_used p o deal)
  still_used None deal h = (refl, refl)
  still_used (Some i) deal h = h i

  still_thing : (o : Option ℕ) (deal : ℕ → Thing → Deal) → ((i : ℕ) (x : Thing) → Still (deal i x))
      → Still (with_thing p o deal)
  still_thing None deal h = (refl, refl)
  still_thing (Some i) deal h = by (thing_at p i)
    where
      by : (x : Option Thing) → Still (thing_deal p i deal x)
      by None = (refl, refl)
      by (Some x) = h i x

  still_filter : (v object : Option ℕ) (deal : Option ℕ → Deal) → ((o : Option ℕ) → Still (deal o))
      → Still (with_filter p v object deal)
  still_filter None object deal h = h None
  still_filter (Some v) object deal h = still_used object (λ o. deal (Some o)) (λ o. h (Some o))

  still_change : (a : Answer) (o : Option ℕ) (change : Change) → Still (change_deal p a o change)
  still_change a None change = (refl, refl)
  still_change a (Some b) change = (refl, refl)

  still_signal : (i : ℕ) (valid : Bool) (item : Item) → Still (signal_deal p i valid item)
  still_signal i true (source_item order signalled) = (refl, refl)
  still_signal i false (source_item order signalled) = (refl, refl)
  still_signal i valid (timer_item first interval date) = (refl, refl)
  still_signal i valid (observer_item mask repeats order) = (refl, refl)

module _ (s : Script) (t : ℕ) (st : State) where
  add_time : (u : ℕ) (q : Place) (i : ℕ) (x : Thing) → Still st.parts (add_deal s st u q i x)
  add_time u q i x =
      let added : Deal = entering st.parts (held_at u i (places_added s u i st q)) in
      let present : Deal = cond (holds_at u i st.edges q) (answering st.parts answers.Present) added in
      let elsewhere : Deal = cond (stays_in_one (kind_of x.item) && is_elsewhere s u i st.edges) (answering st.parts answers.Elsewhere) present in
      still_if st.parts (not x.valid) (answering st.parts answers.Invalid) elsewhere (refl, refl)
      (still_if st.parts (stays_in_one (kind_of x.item) && is_elsewhere s u i st.edges) (answering st.parts answers.Elsewhere) present (refl, refl)
      (still_if st.parts (holds_at u i st.edges q) (answering st.parts answers.Present) added (refl, refl) (refl, refl)))

  drop_time : (u : ℕ) (q : Place) (i : ℕ) → Still st.parts (drop_deal s st u q i)
  drop_time u q i =
      still_if st.parts (holds_at u i st.edges q) (leaving st.parts (present_of (held_at u i (places_dropped s u i st q)) st.edges)) (answering st.parts answers.Absent) (refl, refl) (refl, refl)

  common_time : (u m : ℕ) → Still st.parts (common_deal st u m)
  common_time u m = by (is_common u st.parts.commons m)
    where
      by : (b : Bool) → Still st.parts (cond b (answering st.parts answers.Present) (record (okay st.parts) {
        parts = record st.parts { commons = record { thread = u; mode = m } ∷ st.parts.commons };
        enters = map (held_by (in_mode u m)) (items_gained (λ i. has (in_mode u m) i st.edges) (common_items st u));
      }))
      by true = (refl, refl)
      by false = (refl, refl)

  invalidate_time : (i : ℕ) (x : Thing) → Still st.parts (invalidate_deal s st i x)
  invalidate_time i x =
      still_if st.parts x.valid (leaving (with_item st.parts i false x.item) (present_of (every_place s i st.edges) st.edges)) (answering st.parts answers.Invalid) (refl, refl) (refl, refl)

  stop_time : (u : ℕ) → (stop_deal st u).parts.time ≡ st.parts.time
  stop_time u = by (has_run (stand_at u st.stands).frames)
    where
      by : (b : Bool) → (cond b (record (okay (wake_parts st.parts u)) { stops = Some u }) (answering st.parts answers.Idle)).parts.time ≡ st.parts.time
      by true = refl
      by false = refl

  pub deal_still : (x : Statement) (used : List (Option ℕ)) → StopsNone x → Still st.parts (deal_of s t st x used)
  deal_still (forms.Add v u m) used none =
      still_thing st.parts (first_of used) (λ i x. with_used st.parts (thread_in t u) (λ w. add_deal s st w (place_in m) i x))
      (λ i x. still_used st.parts (thread_in t u) (λ w. add_deal s st w (place_in m) i x) (λ w. add_time w (place_in m) i x))
  deal_still (forms.Drop v u m) used none =
      still_thing st.parts (first_of used) (λ i x. with_used st.parts (thread_in t u) (λ w. drop_deal s st w (place_in m) i))
      (λ i x. still_used st.parts (thread_in t u) (λ w. drop_deal s st w (place_in m) i) (λ w. drop_time w (place_in m) i))
  deal_still (forms.Common u m) used none = still_used st.parts (thread_in t u) (λ w. common_deal st w m) (λ w. common_time w m)
  deal_still (forms.Signal v) used none =
      still_thing st.parts (first_of used) (λ i x. signal_deal st.parts i x.valid x.item) (λ i x. still_signal st.parts i x.valid x.item)
  deal_still (forms.Invalidate v) used none = still_thing st.parts (first_of used) (invalidate_deal s st) invalidate_time
  deal_still (forms.Wake u) used none = still_used st.parts (thread_in t u) (λ w. okay (wake_parts st.parts w)) (λ w. (refl, refl))
  deal_still (forms.Stop u) used none = absurd none
  deal_still (forms.Run m limit once) used none = (refl, refl)
  deal_still (forms.Observe v h name x) used none =
      still_used st.parts (first_of used) (λ o. with_filter st.parts x (used_at used 1) (observe_deal st.parts h name o))
      (λ o. still_filter st.parts x (used_at used 1) (observe_deal st.parts h name o) (λ f. (refl, refl)))
  deal_still (forms.Forget v name x) used none =
      still_used st.parts (first_of used) (λ o. with_filter st.parts x (used_at used 1) (forget_deal st.parts name o))
      (λ o. still_filter st.parts x (used_at used 1) (forget_deal st.parts name o) (λ f. (refl, refl)))
  deal_still (forms.Post name info) used none = (refl, refl)
  deal_still x used none =
      let deed = deed_at s.classes st.parts.objects x used in
      still_change st.parts deed.answer (first_of used) (change_unless_skipped deed.answer deed.change)

  deal_time : (x : Statement) (used : List (Option ℕ)) → (deal_of s t st x used).parts.time ≡ st.parts.time
  deal_time (forms.Stop u) used = by (thread_in t u)
    where
      by : (o : Option ℕ) → (with_used st.parts o (stop_deal st)).parts.time ≡ st.parts.time
      by None = refl
      by (Some w) = stop_time w
  deal_time x used = (deal_still x used tt).0

  -- ---- statements

  statement_time : (d : ℕ) (x : Statement) (used : List (Option ℕ)) (w : Ownership)
      → (statement_step s t d st x used w).parts.time ≡ st.parts.time
  statement_time d x used Keeps = deal_time x used
  statement_time d x used (Binds v) = refl
  statement_time d x used (Retains v) = by (first_of used)
    where
      by : (o : Option ℕ) → (retain_step (variable t d v) st o).parts.time ≡ st.parts.time
      by None = refl
      by (Some o) = refl
  statement_time d x used (Releases v) = by (first_of used)
    where
      by : (o : Option ℕ) → (release_step t (variable t d v) st o).parts.time ≡ st.parts.time
      by None = refl
      by (Some o) = refl

  -- what a thread says changes no time
  pub said_time : (x : Statement) → (done_by s t st (does (says x))).parts.time ≡ st.parts.time
  said_time x = statement_time (depth_of (frames_at t st)) x (used_objects (bindings_of (frames_at t st)) (says x)) (ownership_of x)
