-- What statements over run loops leave as it is, and that the references that they move are of places of loops.
use Rattle.std.proofs.Common.{◌≡◌, ℕ, Bool, true, false, ◌&&◌, not, cond, List, [], ◌∷◌, map, Option, Some, refl}
use Rattle.rl_base.specs.declared.places.Place.{Place}
use Rattle.rl_base.specs.Modes.{items_gained}
use Rattle.cf_ids.specs.declared.answer.Answer.TheVariants as answers
use Rattle.cf_syntax.specs.declared.script.Script.{Script}
use Rattle.cf_syntax.specs.declared.statement.Statement.{Statement}
use Rattle.cf_syntax.specs.declared.statement.Statement.TheVariants as forms
use Rattle.cf_syntax.specs.Mentions.{first_of}
use Rattle.cf_graph.specs.Holders.{in_mode}
use Rattle.cf_graph.specs.Edges.{held_by, has}
use Rattle.cf_contents.specs.Items.{Item, source_item, timer_item, observer_item, kind_of}
use Rattle.cf_next.specs.Stands.{has_run}
use Rattle.cf_model.specs.State.{Parts, State, is_common, stand_at}
use Rattle.cf_model.specs.Things.{Thing}
use Rattle.cf_model.specs.Own.{present_of}
use Rattle.cf_model.specs.Deals.{Deal, add_deal, answering, common_deal, common_items, deal_of, drop_deal, entering, every_place, held_at, holds_at, invalidate_deal, is_elsewhere, leaving, okay, place_in, places_added, places_dropped, posts_of, run_deal, signal_deal, stays_in_one, stop_deal, thread_in, wake_parts, with_item, with_used}
use Rattle.cf_model.proofs.Places.{AllLoop, every_loop, held_loop, items_loop, present_loop}
use Rattle.cf_scene.specs.Needs.{acts_on_loops}
use Rattle.cf_scene.proofs.Naming.{of_thing, of_two, of_used}

-- a deal over run loops: it changes neither the time nor the registrations, and what it moves comes into places of
-- loops and goes out of them
pub record IsOverLoops (p : Parts) (deal : Deal) : Type 0 where
  pub time : deal.parts.time ≡ p.time
  pub registrations : deal.parts.registrations ≡ p.registrations
  pub enters : AllLoop deal.enters
  pub leaves : AllLoop deal.leaves

-- one that changes no flag of a thread either
pub record IsQuiet (p : Parts) (deal : Deal) : Type 0 where
  pub over_loops : IsOverLoops p deal
  pub flags : deal.parts.flags ≡ p.flags

-- but for `wake` and `stop` each statement over run loops is such
abbrev pub IsQuietForm : Statement → Type 0
IsQuietForm (forms.Add item thread mode) = Unit {0}
IsQuietForm (forms.Drop item thread mode) = Unit {0}
IsQuietForm (forms.Common thread mode) = Unit {0}
IsQuietForm (forms.Signal source) = Unit {0}
IsQuietForm (forms.Invalidate item) = Unit {0}
IsQuietForm (forms.Run mode limit once) = Unit {0}
IsQuietForm _ = ⊥

-- ---- quiet deals

module _ (p : Parts) where
  abbrev Q : Deal → Type 0
  Q = IsQuiet p

  idle : (deal : Deal) → deal.parts.flags ≡ p.flags → deal.parts.time ≡ p.time
      → deal.parts.registrations ≡ p.registrations → AllLoop deal.enters → AllLoop deal.leaves → Q deal
  idle deal flags time registrations enters leaves = record {
    over_loops = record { time = time; registrations = registrations; enters = enters; leaves = leaves };
    flags = flags;
  }

  says : (a : _) → Q (answering p a)
  says a = idle (answering p a) refl refl refl tt tt

  signal_quiet : (i : ℕ) (valid : Bool) (item : Item) → Q (signal_deal p i valid item)
  signal_quiet i true (source_item order signalled) = idle (okay (with_item p i true (source_item order true))) refl refl refl tt tt
  signal_quiet i false (source_item order signalled) = says answers.Invalid
  signal_quiet i valid (timer_item first interval date) = says answers.Skip
  signal_quiet i valid (observer_item mask repeats order) = says answers.Skip

module _ (s : Script) (t : ℕ) (st : State) where
  add_quiet : (u : ℕ) (q : Place) (i : ℕ) (x : Thing) → IsQuiet st.parts (add_deal s st u q i x)
  add_quiet u q i x =
      let added : Deal = entering st.parts (held_at u i (places_added s u i st q)) in
      let present : Deal = cond (holds_at u i st.edges q) (answering st.parts answers.Present) added in
      let elsewhere : Deal = cond (stays_in_one (kind_of x.item) && is_elsewhere s u i st.edges) (answering st.parts answers.Elsewhere) present in
      of_two (IsQuiet st.parts) (not x.valid) (answering st.parts answers.Invalid) elsewhere (says st.parts answers.Invalid)
      (of_two (IsQuiet st.parts) (stays_in_one (kind_of x.item) && is_elsewhere s u i st.edges) (answering st.parts answers.Elsewhere) present (says st.parts answers.Elsewhere)
      (of_two (IsQuiet st.parts) (holds_at u i st.edges q) (answering st.parts answers.Present) added (says st.parts answers.Present)
      (idle st.parts added refl refl refl (held_loop u i (places_added s u i st q)) tt)))

  drop_quiet : (u : ℕ) (q : Place) (i : ℕ) → IsQuiet st.parts (drop_deal s st u q i)
  drop_quiet u q i =
      let there = held_at u i (places_dropped s u i st q) in
      let left : Deal = leaving st.parts (present_of there st.edges) in
      of_two (IsQuiet st.parts) (holds_at u i st.edges q) left (answering st.parts answers.Absent)
      (idle st.parts left refl refl refl tt (present_loop there st.edges (held_loop u i (places_dropped s u i st q))))
      (says st.parts answers.Absent)

  common_quiet : (u m : ℕ) → IsQuiet st.parts (common_deal st u m)
  common_quiet u m =
      let gained : List ℕ = items_gained (λ i. has (in_mode u m) i st.edges) (common_items st u) in
      let more : Deal = record (okay st.parts) {
        parts = record st.parts { commons = record { thread = u; mode = m } ∷ st.parts.commons };
        enters = map (held_by (in_mode u m)) gained;
      } in
      of_two (IsQuiet st.parts) (is_common u st.parts.commons m) (answering st.parts answers.Present) more (says st.parts answers.Present)
      (idle st.parts more refl refl refl (items_loop u m gained) tt)

  invalidate_quiet : (i : ℕ) (x : Thing) → IsQuiet st.parts (invalidate_deal s st i x)
  invalidate_quiet i x =
      let left : Deal = leaving (with_item st.parts i false x.item) (present_of (every_place s i st.edges) st.edges) in
      of_two (IsQuiet st.parts) x.valid left (answering st.parts answers.Invalid)
      (idle st.parts left refl refl refl tt (present_loop (every_place s i st.edges) st.edges (every_loop s i st.edges)))
      (says st.parts answers.Invalid)

  -- the deal of a quiet form is quiet
  pub deal_quiet : (x : Statement) (used : List (Option ℕ)) → IsQuietForm x → IsQuiet st.parts (deal_of s t st x used)
  deal_quiet (forms.Add item thread mode) used quiet =
      of_thing (IsQuiet st.parts) st.parts (says st.parts answers.Skip) (first_of used) (λ i x. with_used st.parts (thread_in t thread) (λ w. add_deal s st w (place_in mode) i x))
      (λ i x is. of_used (IsQuiet st.parts) st.parts (says st.parts answers.Skip) (thread_in t thread) (λ w. add_deal s st w (place_in mode) i x) (λ w. add_quiet w (place_in mode) i x))
  deal_quiet (forms.Drop item thread mode) used quiet =
      of_thing (IsQuiet st.parts) st.parts (says st.parts answers.Skip) (first_of used) (λ i x. with_used st.parts (thread_in t thread) (λ w. drop_deal s st w (place_in mode) i))
      (λ i x is. of_used (IsQuiet st.parts) st.parts (says st.parts answers.Skip) (thread_in t thread) (λ w. drop_deal s st w (place_in mode) i) (λ w. drop_quiet w (place_in mode) i))
  deal_quiet (forms.Common thread mode) used quiet =
      of_used (IsQuiet st.parts) st.parts (says st.parts answers.Skip) (thread_in t thread) (λ w. common_deal st w mode) (λ w. common_quiet w mode)
  deal_quiet (forms.Signal source) used quiet =
      of_thing (IsQuiet st.parts) st.parts (says st.parts answers.Skip) (first_of used) (λ i x. signal_deal st.parts i x.valid x.item)
      (λ i x is. signal_quiet st.parts i x.valid x.item)
  deal_quiet (forms.Invalidate item) used quiet =
      of_thing (IsQuiet st.parts) st.parts (says st.parts answers.Skip) (first_of used) (invalidate_deal s st) (λ i x is. invalidate_quiet i x)
  deal_quiet (forms.Run mode limit once) used quiet = says st.parts (run_deal st t mode).answer
  deal_quiet _ used quiet = absurd quiet

  -- ---- all

  awake : (o : Option ℕ) → IsOverLoops st.parts (with_used st.parts o (λ w. okay (wake_parts st.parts w)))
  awake o =
      of_used (IsOverLoops st.parts) st.parts (says st.parts answers.Skip).over_loops o (λ w. okay (wake_parts st.parts w))
      (λ w. record { time = refl; registrations = refl; enters = tt; leaves = tt })

  stopped : (o : Option ℕ) → IsOverLoops st.parts (with_used st.parts o (stop_deal st))
  stopped o =
      of_used (IsOverLoops st.parts) st.parts (says st.parts answers.Skip).over_loops o (stop_deal st)
      (λ w. of_two (IsOverLoops st.parts) (has_run (stand_at w st.stands).frames)
      (record (okay (wake_parts st.parts w)) { stops = Some w }) (answering st.parts answers.Idle)
      (record { time = refl; registrations = refl; enters = tt; leaves = tt }) (says st.parts answers.Idle).over_loops)

  -- the deal of a statement over run loops is a deal over run loops
  pub deal_over_loops : (x : Statement) (used : List (Option ℕ)) → acts_on_loops x ≡ true
      → IsOverLoops st.parts (deal_of s t st x used)
  deal_over_loops (forms.Add item thread mode) used acts = (deal_quiet (forms.Add item thread mode) used tt).over_loops
  deal_over_loops (forms.Drop item thread mode) used acts = (deal_quiet (forms.Drop item thread mode) used tt).over_loops
  deal_over_loops (forms.Common thread mode) used acts = (deal_quiet (forms.Common thread mode) used tt).over_loops
  deal_over_loops (forms.Signal source) used acts = (deal_quiet (forms.Signal source) used tt).over_loops
  deal_over_loops (forms.Invalidate item) used acts = (deal_quiet (forms.Invalidate item) used tt).over_loops
  deal_over_loops (forms.Wake thread) used acts = awake (thread_in t thread)
  deal_over_loops (forms.Stop thread) used acts = stopped (thread_in t thread)
  deal_over_loops (forms.Run mode limit once) used acts = (deal_quiet (forms.Run mode limit once) used tt).over_loops
  deal_over_loops _ used acts = absurd cc

  -- it posts nothing
  pub deal_posts_none : (x : Statement) (used : List (Option ℕ)) → acts_on_loops x ≡ true
      → posts_of st.parts x used ≡ []
  deal_posts_none (forms.Post name info) used acts = absurd cc
  deal_posts_none x used acts = refl
