-- What steps bring to places of parcels: a line that packs brings its place one reference at most, and nothing else
-- brings one.
use Rattle.std.proofs.Common.{ℕ, ◌≤◌, Bool, true, false, cond, List, [], ◌∷◌, ◌++◌, length, Option, Some, None, ap, arith}
use Rattle.std.specs.Prelude.{slice_get, not, ◌&&◌, option_to_list}
use Rattle.cf_ids.specs.declared.answer.Answer.{Answer}
use Rattle.rl_turn.specs.declared.phases.Phase.{Phase}
use Rattle.rl_base.specs.declared.places.Place.{Place}
use Rattle.rl_base.specs.declared.places.Place.TheVariants as places
use Rattle.cf_syntax.specs.declared.script.Script.{Script}
use Rattle.cf_syntax.specs.declared.statement.Statement.{Statement}
use Rattle.cf_syntax.specs.declared.statement.Statement.TheVariants as forms
use Rattle.cf_syntax.specs.declared.mention.Ownership.{Ownership}
use Rattle.cf_syntax.specs.declared.mention.Ownership.TheVariants.{Keeps, Binds, Retains, Releases}
use Rattle.cf_syntax.specs.Mentions.{first_of, ownership_of, used_at}
use Rattle.cf_syntax.specs.BlockLines.{BlockLine, begins, claims, says, packs}
use Rattle.cf_contents.specs.Contents.{slots_in}
use Rattle.cf_contents.specs.Items.{Item, source_item, kind_of}
use Rattle.cf_contents.specs.Deeds.{Origin, nowhere, fresh, there, Change, taken_in, deed_at}
use Rattle.cf_graph.specs.Holders.{Holder, variable, callout, owed, parcel, slot, in_mode, same_holder}
use Rattle.cf_graph.specs.Edges.{Reference, counted}
use Rattle.cf_graph.specs.Flows.{grows, flow_won}
use Rattle.cf_next.specs.Stands.{item_of, Kind, of_block, of_handler, of_run, has_run, Frame}
use Rattle.cf_next.specs.Demands.{Demand, does, ends, returns, owes, spends, drops, calls, enters, closes}
use Rattle.cf_next.specs.Advance.{top_kind}
use Rattle.cf_next.specs.Next.{used_objects, object_at}
use Rattle.cf_model.specs.State.{State, stand_at, first_held, is_common}
use Rattle.cf_model.specs.Things.{Thing, thing_at}
use Rattle.cf_model.specs.Own.{own_reference, moves_to}
use Rattle.cf_model.specs.Deals.{Deal, okay, with_used, thing_deal, with_thing, change_unless_skipped, change_deal, thread_in, place_in, holder_at, holds_at, held_at, stays_in_one, is_elsewhere, places_added, add_deal, drop_deal, common_deal, signal_deal, invalidate_deal, stop_deal, observe_deal, forget_deal, with_filter, deal_of, posts_of}
use Rattle.cf_model.specs.Steps.{Step, found, Bound, bound_of, new_slots, bind_step, retain_step, cut_flow, cut_step, release_step, deal_step, statement_step, claim_step, pack_step, packed_holder, call_references, spend_if, phase_step, close_step, step_of, bindings_of, depth_of}
use Rattle.cf_model.specs.Parcels.{from_holder}
use Rattle.cf_model.proofs.Phases.{phase_case}
use Rattle.cf_model.proofs.Winning.{AllHeld, FlowGoes, held_append, held_all, held_some, moves_go, flow_wins_none}
use Rattle.cf_model.proofs.FirstHeld.{NoParcel, parcel_other}

-- how many references a demand brings a holder: those that a line packs for it
abbrev pub packed_line : Holder → BlockLine → ℕ
packed_line h (packs u k v) = counted (same_holder h (parcel u k))
packed_line h _ = 0

abbrev pub packed_by : Holder → Demand → ℕ
packed_by h (does x) = packed_line h x
packed_by h _ = 0

module _ (s : Script) (t : ℕ) (st : State) where
  -- a deal brings no place of a parcel a reference
  abbrev Enters : Deal → Type 0
  Enters deal = AllHeld NoParcel deal.enters

  enters_either : (b : Bool) (x y : Deal) → Enters x → Enters y → Enters (cond b x y)
  enters_either true x y h k = h
  enters_either false x y h k = k

  enters_used : (used : Option ℕ) (deal : ℕ → Deal) → ((o : ℕ) → Enters (deal o))
      → Enters (with_used st.parts used deal)
  enters_used None deal h = tt
  enters_used (Some o) deal h = h o

  enters_thing : (used : Option ℕ) (deal : ℕ → Thing → Deal) → ((i : ℕ) (x : Thing) → Enters (deal i x))
      → Enters (with_thing st.parts used deal)
  enters_thing None deal h = tt
  enters_thing (Some i) deal h = by (thing_at st.parts i)
    where
      by : (x : Option Thing) → Enters (thing_deal st.parts i deal x)
      by None = tt
      by (Some x) = h i x

  enters_filter : (v object : Option ℕ) (deal : Option ℕ → Deal) → ((o : Option ℕ) → Enters (deal o))
      → Enters (with_filter st.parts v object deal)
  enters_filter None object deal h = h None
  enters_filter (Some v) object deal h = enters_used object (λ o. deal (Some o)) (λ o. h (Some o))

  place_no_parcel : (u : ℕ) (p : Place) → NoParcel (holder_at u p)
  place_no_parcel u places.Common = tt
  place_no_parcel u (places.Mode m) = tt

  held_enter : (u i : ℕ) (ps : List Place) → AllHeld NoParcel (held_at u i ps)
  held_enter u i [] = tt
  held_enter u i (p ∷ ps) = (place_no_parcel u p, held_enter u i ps)

  change_enters : (a : Answer) (b : Option ℕ) (change : Change) → Enters (change_deal st.parts a b change)
  change_enters a None change = tt
  change_enters a (Some b) change = held_all NoParcel (slot b) (taken_in (slice_get st.parts.objects b) change) tt

  add_enters : (w : ℕ) (p : Place) (i : ℕ) (x : Thing) → Enters (add_deal s st w p i x)
  add_enters w p i x =
      enters_either (not x.valid) _ _ tt
      (enters_either (stays_in_one (kind_of x.item) && is_elsewhere s w i st.edges) _ _ tt
      (enters_either (holds_at w i st.edges p) _ _ tt (held_enter w i (places_added s w i st p))))

  drop_enters : (w : ℕ) (p : Place) (i : ℕ) → Enters (drop_deal s st w p i)
  drop_enters w p i = enters_either (holds_at w i st.edges p) _ _ tt tt

  common_enters : (w m : ℕ) → Enters (common_deal st w m)
  common_enters w m = enters_either (is_common w st.parts.commons m) _ _ tt (held_all NoParcel (in_mode w m) _ tt)

  signal_enters : (i : ℕ) (valid : Bool) (item : Item) → Enters (signal_deal st.parts i valid item)
  signal_enters i true (source_item order on) = tt
  signal_enters i false (source_item order on) = tt
  signal_enters i valid _ = tt

  invalidate_enters : (i : ℕ) (x : Thing) → Enters (invalidate_deal s st i x)
  invalidate_enters i x = enters_either x.valid _ _ tt tt

  stop_enters : (w : ℕ) → Enters (stop_deal st w)
  stop_enters w = enters_either (has_run (stand_at w st.stands).frames) _ _ tt tt

  deal_enters : (x : Statement) (used : List (Option ℕ)) → Enters (deal_of s t st x used)
  deal_enters (forms.Add v u m) used =
      enters_thing (first_of used) _ (λ i x. enters_used (thread_in t u) _ (λ w. add_enters w (place_in m) i x))
  deal_enters (forms.Drop v u m) used =
      enters_thing (first_of used) _ (λ i x. enters_used (thread_in t u) _ (λ w. drop_enters w (place_in m) i))
  deal_enters (forms.Common u m) used = enters_used (thread_in t u) _ (λ w. common_enters w m)
  deal_enters (forms.Signal v) used = enters_thing (first_of used) _ (λ i x. signal_enters i x.valid x.item)
  deal_enters (forms.Invalidate v) used = enters_thing (first_of used) _ invalidate_enters
  deal_enters (forms.Wake u) used = enters_used (thread_in t u) _ (λ w. tt)
  deal_enters (forms.Stop u) used = enters_used (thread_in t u) _ stop_enters
  deal_enters (forms.Run m limit once) used = tt
  deal_enters (forms.Observe v k name x) used =
      enters_used (first_of used) _ (λ o. enters_filter x (used_at used 1) (observe_deal st.parts k name o) (λ q. tt))
  deal_enters (forms.Forget v name x) used =
      enters_used (first_of used) _ (λ o. enters_filter x (used_at used 1) (forget_deal st.parts name o) (λ q. tt))
  deal_enters (forms.Post name info) used = tt
  deal_enters x used =
      let deed = deed_at s.classes st.parts.objects x used in
      change_enters deed.answer (first_of used) (change_unless_skipped deed.answer deed.change)

  -- a step brings no place of a parcel a reference
  abbrev Goes : Step → Type 0
  Goes step = FlowGoes NoParcel step.flow

  deal_goes : (deal : Deal) (posts : List ℕ) → Enters deal → Goes (deal_step t deal posts)
  deal_goes deal posts h = (h, moves_go NoParcel (owed t) deal.leaves tt)

  slots_go : (n : ℕ) (origin : Origin) → AllHeld NoParcel (new_slots n origin)
  slots_go n nowhere = tt
  slots_go n (fresh ob) = held_all NoParcel (slot n) (slots_in ob.content) tt
  slots_go n (there o) = tt

  bind_goes : (d v : ℕ) (b : Bound) → Goes (bind_step (variable t d v) st.parts b)
  bind_goes d v b =
      (held_append NoParcel _ _ (held_some NoParcel (variable t d v) (found st.parts b.origin) tt) (slots_go (length st.parts.objects) b.origin), tt)

  retain_goes : (k : Holder) (o : Option ℕ) → NoParcel k → Goes (retain_step k st o)
  retain_goes k None h = (tt, tt)
  retain_goes k (Some o) h = ((h, tt), tt)

  cut_goes : (k : Holder) (o : ℕ) → Goes (cut_step t k st o)
  cut_goes k o = by (own_reference t k o st.edges)
    where
      by : (r : Option Reference) → FlowGoes NoParcel (cut_flow r)
      by None = (tt, tt)
      by (Some r) = tt

  release_goes : (k : Holder) (o : Option ℕ) → Goes (release_step t k st o)
  release_goes k None = (tt, tt)
  release_goes k (Some o) = cut_goes k o

  statement_goes : (d : ℕ) (x : Statement) (used : List (Option ℕ)) (ownership : Ownership)
      → Goes (statement_step s t d st x used ownership)
  statement_goes d x used Keeps = deal_goes (deal_of s t st x used) (posts_of st.parts x used) (deal_enters x used)
  statement_goes d x used (Binds v) = bind_goes d v (bound_of s st.parts x used)
  statement_goes d x used (Retains v) = retain_goes (variable t d v) (first_of used) tt
  statement_goes d x used (Releases v) = release_goes (variable t d v) (first_of used)

  claim_goes : (k l : Holder) (o : Option ℕ) → NoParcel l → Goes (claim_step st k o l)
  claim_goes k l None h = (tt, tt)
  claim_goes k l (Some o) h = (tt, (h, tt))

  call_goes : (d : ℕ) (info item : Option ℕ) → AllHeld NoParcel (call_references t d info item)
  call_goes d info item =
      held_append NoParcel _ _ (held_some NoParcel (variable t d 0) info tt) (held_some NoParcel (callout t d) item tt)

  spend_goes : (i : ℕ) (x : Option Thing) → Goes (deal_step t (spend_if s st i x) [])
  spend_goes i None = deal_goes (okay st.parts) [] tt
  spend_goes i (Some x) =
      deal_goes (spend_if s st i (Some x)) [] (enters_either x.valid (invalidate_deal s st i x) (okay st.parts) (invalidate_enters i x) tt)

  phase_goes : (p : Phase) (k : Kind) → Goes (phase_step st t p k)
  phase_goes p k =
      phase_case Goes st t p k (record { woken = (tt, tt); due = (tt, tt); sleeps = λ d. (tt, tt); tests = λ r. (tt, tt); collects = λ l. (tt, tt) })

  close_goes : (k : Kind) → Goes (close_step st k)
  close_goes of_block = (tt, tt)
  close_goes (of_handler k) = (tt, tt)
  close_goes (of_run r) = (tt, tt)

  module _ (u k : ℕ) where
    abbrev weight : Reference → ℕ
    weight = from_holder (parcel u k)

    wins_nothing : (step : Step) → Goes step → flow_won weight step.flow ≤ 0
    wins_nothing step h =
        let none = flow_wins_none NoParcel weight (λ q p. ap counted (parcel_other u k q.holder p)) step.flow h in omega (arith, none)

    pack_wins : (from : Holder) (o : Option ℕ) (w m : ℕ)
        → flow_won weight (pack_step t st from o (parcel w m)).flow ≤ counted (same_holder (parcel u k) (parcel w m))
    pack_wins from None w m = omega arith
    pack_wins from (Some o) w m = by (own_reference t from o st.edges)
      where
        by : (q : Option Reference)
            → flow_won weight (grows [] (moves_to (parcel w m) (option_to_list q ++ []))) ≤ counted (same_holder (parcel u k) (parcel w m))
        by None = omega arith
        by (Some r) = omega arith

    line_wins : (fs : List Frame) (x : BlockLine)
        → flow_won weight (step_of s t st fs (does x)).flow ≤ packed_line (parcel u k) x
    line_wins fs (begins v) = omega arith
    line_wins fs (claims m v) =
        wins_nothing (claim_step st (parcel t m) (first_held (parcel t m) st.edges) (variable t (depth_of fs) v)) (claim_goes (parcel t m) (variable t (depth_of fs) v) (first_held (parcel t m) st.edges) tt)
    line_wins fs (says x) =
        wins_nothing (step_of s t st fs (does (says x))) (statement_goes (depth_of fs) x (used_objects (bindings_of fs) (says x)) (ownership_of x))
    line_wins fs (packs w m v) = pack_wins (packed_holder t (depth_of fs) v) (object_at (bindings_of fs) v) w m

    pub demand_wins : (fs : List Frame) (d : Demand)
        → flow_won weight (step_of s t st fs d).flow ≤ packed_by (parcel u k) d
    demand_wins fs (does x) = line_wins fs x
    demand_wins fs ends = omega arith
    demand_wins fs returns = wins_nothing (step_of s t st fs returns) (tt, moves_go NoParcel (owed t) _ tt)
    demand_wins fs (owes o) = wins_nothing (cut_step t (owed t) st o) (cut_goes (owed t) o)
    demand_wins fs (spends i) = wins_nothing (deal_step t (spend_if s st i (thing_at st.parts i)) []) (spend_goes i (thing_at st.parts i))
    demand_wins fs (drops b m o) = omega arith
    demand_wins fs (calls c called) = wins_nothing (step_of s t st fs (calls c called)) (call_goes (length fs) called.info (item_of c), tt)
    demand_wins fs (enters p) = wins_nothing (phase_step st t p (top_kind fs)) (phase_goes p (top_kind fs))
    demand_wins fs closes = wins_nothing (close_step st (top_kind fs)) (close_goes (top_kind fs))
