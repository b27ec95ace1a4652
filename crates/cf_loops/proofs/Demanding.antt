-- What a thread demands moves no reference of a loop, but for the forms of which that is the sense.
use Rattle.std.proofs.Common.{◌≡◌, ℕ, Bool, true, false, cond, List, [], ◌∷◌, ◌++◌, length, Option, Some, None, refl, sym, subst}
use Rattle.std.specs.Prelude.{slice_get}
use Rattle.std.proofs.lemmas.Bool.{eq-eqb}
use Rattle.cf_ids.specs.declared.answer.Answer.{Answer}
use Rattle.cf_ids.specs.declared.answer.Answer.TheVariants as answers
use Rattle.cf_syntax.specs.declared.script.Script.{Script}
use Rattle.cf_syntax.specs.declared.statement.Statement.{Statement}
use Rattle.cf_syntax.specs.declared.statement.Statement.TheVariants as forms
use Rattle.cf_syntax.specs.declared.mention.Ownership.{Ownership}
use Rattle.cf_syntax.specs.declared.mention.Ownership.TheVariants.{Keeps, Binds, Retains, Releases}
use Rattle.cf_syntax.specs.Mentions.{first_of, used_at, ownership_of}
use Rattle.cf_syntax.specs.BlockLines.{BlockLine, begins, claims, says, packs}
use Rattle.cf_graph.specs.Holders.{Holder, variable, owed, parcel, slot}
use Rattle.cf_graph.specs.Edges.{Reference, held_by, held_if}
use Rattle.cf_contents.specs.Contents.{slots_in}
use Rattle.cf_contents.specs.Items.{Item, source_item, timer_item, observer_item}
use Rattle.cf_contents.specs.Deeds.{Change, Origin, nowhere, fresh, there, deed_at, taken_in, given_out}
use Rattle.cf_next.specs.Stands.{has_run, Binding, Frame, Kind, of_block, of_handler, of_run, item_of}
use Rattle.cf_next.specs.Demands.{Demand, does, ends, returns, owes, spends, drops, calls, enters, closes}
use Rattle.cf_next.specs.Advance.{kind_item, top_info, top_kind}
use Rattle.cf_next.specs.Next.{object_at, used_objects}
use Rattle.cf_model.specs.State.{Parts, State, first_held, stand_at}
use Rattle.cf_model.specs.Things.{Thing, thing_at}
use Rattle.cf_model.specs.Own.{own_reference, own_references, moves_to}
use Rattle.cf_model.specs.Deals.{Deal, answering, skipping, okay, with_used, thing_deal, with_thing, with_filter, change_deal, change_unless_skipped, signal_deal, stop_deal, run_deal, observe_deal, forget_deal, deal_of, wake_parts, thread_in, posts_of}
use Rattle.cf_model.specs.Steps.{Step, Bound, found, new_slots, bound_of, bind_step, retain_step, release_step, cut_flow, cut_step, deal_step, statement_step, claim_step, pack_step, packed_holder, line_step, call_references, close_step, step_of, bindings_of, depth_of}
use Rattle.cf_model.proofs.OwnLaws.{IsOf, AllOf, own_is, own_are}
use Rattle.cf_model.proofs.Phases.{phase_case}
use Rattle.cf_loops.specs.Following.{IsPlaceOfLoop, AllElsewhere, MovesElsewhere, IsElsewhere, LeavesLoops, LineLeavesLoops, DemandLeavesLoops}
use Rattle.cf_loops.proofs.Staying.{elsewhere_map, elsewhere_to, elsewhere_own, own_elsewhere}

all_append : (es fs : List Reference) → AllElsewhere es → AllElsewhere fs → AllElsewhere (es ++ fs)
all_append [] fs a b = b
all_append (e ∷ es) fs a b = (a.0, all_append es fs a.1 b)

held_elsewhere : (h : Holder) (o : Option ℕ) → (IsPlaceOfLoop h → ⊥) → AllElsewhere (held_if h o)
held_elsewhere h None apart = tt
held_elsewhere h (Some o) apart = (apart, tt)

-- ---- deals

-- a deal by which no reference of a loop comes or goes
record IsQuiet (deal : Deal) : Type 0 where
  ins : AllElsewhere deal.enters
  outs : AllElsewhere deal.leaves

none_moved : (deal : Deal) → deal.enters ≡ [] → deal.leaves ≡ [] → IsQuiet deal
none_moved deal ins outs = record { ins = subst AllElsewhere (sym ins) tt; outs = subst AllElsewhere (sym outs) tt }

either : (P : Deal → Type 0) (b : Bool) (x y : Deal) → P x → P y → P (cond b x y)
either P true x y h k = h
either P false x y h k = k

used_quiet : (p : Parts) (o : Option ℕ) (deal : ℕ → Deal) → ((n : ℕ) → IsQuiet (deal n)) → IsQuiet (with_used p o deal)
used_quiet p None deal h = none_moved (skipping p) refl refl
used_quiet p (Some o) deal h = h o

thing_quiet : (p : Parts) (o : Option ℕ) (deal : ℕ → Thing → Deal) → ((n : ℕ) (x : Thing) → IsQuiet (deal n x))
    → IsQuiet (with_thing p o deal)
thing_quiet p None deal h = none_moved (skipping p) refl refl
thing_quiet p (Some i) deal h = by (thing_at p i)
  where
    by : (x : Option Thing) → IsQuiet (thing_deal p i deal x)
    by None = none_moved (skipping p) refl refl
    by (Some x) = h i x

filter_quiet : (p : Parts) (v object : Option ℕ) (deal : Option ℕ → Deal) → ((o : Option ℕ) → IsQuiet (deal o))
    → IsQuiet (with_filter p v object deal)
filter_quiet p None object deal h = h None
filter_quiet p (Some v) object deal h = used_quiet p object (λ o. deal (Some o)) (λ o. h (Some o))

source_quiet : (p : Parts) (i : ℕ) (valid : Bool) (item : Item) → IsQuiet (signal_deal p i valid item)
source_quiet p i true (source_item order signalled) = none_moved (signal_deal p i true (source_item order signalled)) refl refl
source_quiet p i false (source_item order signalled) = none_moved (signal_deal p i false (source_item order signalled)) refl refl
source_quiet p i valid (timer_item first interval date) = none_moved (skipping p) refl refl
source_quiet p i valid (observer_item mask repeats order) = none_moved (skipping p) refl refl

change_quiet : (p : Parts) (answer : Answer) (o : Option ℕ) (change : Change) → IsQuiet (change_deal p answer o change)
change_quiet p answer None change = none_moved (answering p answer) refl refl
change_quiet p answer (Some b) change = record {
  ins = elsewhere_map (slot b) (taken_in (slice_get p.objects b) change) (λ x. x);
  outs = elsewhere_map (slot b) (given_out (slice_get p.objects b) change) (λ x. x);
}

stop_quiet : (st : State) (w : ℕ) → IsQuiet (stop_deal st w)
stop_quiet st w =
    either IsQuiet (has_run (stand_at w st.stands).frames) (record (okay (wake_parts st.parts w)) { stops = Some w }) (answering st.parts answers.Idle)
    (none_moved (record (okay (wake_parts st.parts w)) { stops = Some w }) refl refl) (none_moved (answering st.parts answers.Idle) refl refl)

deal_quiet : (s : Script) (t : ℕ) (st : State) (x : Statement) (used : List (Option ℕ)) → LeavesLoops x
    → IsQuiet (deal_of s t st x used)
deal_quiet s t st (forms.Add v u m) used h = absurd h
deal_quiet s t st (forms.Drop v u m) used h = absurd h
deal_quiet s t st (forms.Common u m) used h = absurd h
deal_quiet s t st (forms.Invalidate v) used h = absurd h
deal_quiet s t st (forms.Signal v) used h =
    thing_quiet st.parts (first_of used) (λ i x. signal_deal st.parts i x.valid x.item) (λ i x. source_quiet st.parts i x.valid x.item)
deal_quiet s t st (forms.Wake u) used h =
    used_quiet st.parts (thread_in t u) (λ w. okay (wake_parts st.parts w)) (λ w. none_moved (okay (wake_parts st.parts w)) refl refl)
deal_quiet s t st (forms.Stop u) used h = used_quiet st.parts (thread_in t u) (stop_deal st) (stop_quiet st)
deal_quiet s t st (forms.Run m limit once) used h = none_moved (run_deal st t m) refl refl
deal_quiet s t st (forms.Observe v k name x) used h =
    used_quiet st.parts (first_of used) (λ o. with_filter st.parts x (used_at used 1) (observe_deal st.parts k name o))
    (λ o. filter_quiet st.parts x (used_at used 1) (observe_deal st.parts k name o) (λ f. none_moved (observe_deal st.parts k name o f) refl refl))
deal_quiet s t st (forms.Forget v name x) used h =
    used_quiet st.parts (first_of used) (λ o. with_filter st.parts x (used_at used 1) (forget_deal st.parts name o))
    (λ o. filter_quiet st.parts x (used_at used 1) (forget_deal st.parts name o) (λ f. none_moved (forget_deal st.parts name o f) refl refl))
deal_quiet s t st (forms.Post name info) used h = none_moved (deal_of s t st (forms.Post name info) used) refl refl
deal_quiet s t st x used h =
    let deed = deed_at s.classes st.parts.objects x used in
    change_quiet st.parts deed.answer (first_of used) (change_unless_skipped deed.answer deed.change)

-- ---- steps

deal_elsewhere : (t : ℕ) (deal : Deal) (posts : List ℕ) → IsQuiet deal → IsElsewhere (deal_step t deal posts).flow
deal_elsewhere t deal posts h = (h.ins, elsewhere_to (owed t) deal.leaves (λ x. x) h.outs)

slots_elsewhere : (n : ℕ) (o : Origin) → AllElsewhere (new_slots n o)
slots_elsewhere n nowhere = tt
slots_elsewhere n (fresh ob) = elsewhere_map (slot n) (slots_in ob.content) (λ x. x)
slots_elsewhere n (there o) = tt

bind_elsewhere : (t d v : ℕ) (p : Parts) (b : Bound) → IsElsewhere (bind_step (variable t d v) p b).flow
bind_elsewhere t d v p b = (
  all_append (held_if (variable t d v) (found p b.origin)) (new_slots (length p.objects) b.origin)
      (held_elsewhere (variable t d v) (found p b.origin) (λ x. x)) (slots_elsewhere (length p.objects) b.origin),
  tt,
)

retain_elsewhere : (t d v : ℕ) (st : State) (o : Option ℕ) → IsElsewhere (retain_step (variable t d v) st o).flow
retain_elsewhere t d v st None = (tt, tt)
retain_elsewhere t d v st (Some o) = ((λ x. x, tt), tt)

cut_elsewhere : (t : ℕ) (h : Holder) (st : State) (o : ℕ) → IsOf t h → IsElsewhere (cut_step t h st o).flow
cut_elsewhere t h st o of = by (own_reference t h o st.edges) refl
  where
    by : (q : Option Reference) → own_reference t h o st.edges ≡ q → IsElsewhere (cut_flow q)
    by None e = (tt, tt)
    by (Some r) e = own_elsewhere t r.holder (own_is t h o st.edges r of e).thread

release_elsewhere : (t d v : ℕ) (st : State) (o : Option ℕ) → IsElsewhere (release_step t (variable t d v) st o).flow
release_elsewhere t d v st None = (tt, tt)
release_elsewhere t d v st (Some o) = cut_elsewhere t (variable t d v) st o (eq-eqb t t refl)

statement_elsewhere : (s : Script) (t d : ℕ) (st : State) (x : Statement) (used : List (Option ℕ)) (o : Ownership)
    → LeavesLoops x
    → IsElsewhere (statement_step s t d st x used o).flow
statement_elsewhere s t d st x used Keeps h = deal_elsewhere t (deal_of s t st x used) (posts_of st.parts x used) (deal_quiet s t st x used h)
statement_elsewhere s t d st x used (Binds v) h = bind_elsewhere t d v st.parts (bound_of s st.parts x used)
statement_elsewhere s t d st x used (Retains v) h = retain_elsewhere t d v st (first_of used)
statement_elsewhere s t d st x used (Releases v) h = release_elsewhere t d v st (first_of used)

moved_elsewhere : (t : ℕ) (k : Holder) (rs es : List Reference) → (IsPlaceOfLoop k → ⊥) → AllOf t rs
    → MovesElsewhere (moves_to k (own_references t rs es))
moved_elsewhere t k rs es apart of = elsewhere_to k (own_references t rs es) apart (elsewhere_own t (own_references t rs es) (own_are t rs es of).thread)

claim_elsewhere : (t k d v : ℕ) (st : State) (o : Option ℕ)
    → IsElsewhere (claim_step st (parcel t k) o (variable t d v)).flow
claim_elsewhere t k d v st None = (tt, tt)
claim_elsewhere t k d v st (Some o) = (tt, (λ x. x, λ x. x, tt))

packed_of : (t d : ℕ) (v : Option ℕ) → IsOf t (packed_holder t d v)
packed_of t d None = eq-eqb t t refl
packed_of t d (Some v) = eq-eqb t t refl

pack_elsewhere : (t d u k : ℕ) (v : Option ℕ) (st : State) (o : Option ℕ)
    → IsElsewhere (pack_step t st (packed_holder t d v) o (parcel u k)).flow
pack_elsewhere t d u k v st None = (tt, tt)
pack_elsewhere t d u k v st (Some o) = (tt, moved_elsewhere t (parcel u k) (held_by (packed_holder t d v) o ∷ []) st.edges (λ x. x) (packed_of t d v, tt))

line_elsewhere : (s : Script) (t d : ℕ) (st : State) (bs : List Binding) (x : BlockLine) → LineLeavesLoops x
    → IsElsewhere (line_step s t d st bs x).flow
line_elsewhere s t d st bs (begins v) h = (tt, tt)
line_elsewhere s t d st bs (claims k v) h = claim_elsewhere t k d v st (first_held (parcel t k) st.edges)
line_elsewhere s t d st bs (packs u k v) h = pack_elsewhere t d u k v st (object_at bs v)
line_elsewhere s t d st bs (says x) h = statement_elsewhere s t d st x (used_objects bs (says x)) (ownership_of x) h

called_of : (t d : ℕ) (info item : Option ℕ) → AllOf t (call_references t d info item)
called_of t d None None = tt
called_of t d None (Some i) = (eq-eqb t t refl, tt)
called_of t d (Some o) None = (eq-eqb t t refl, tt)
called_of t d (Some o) (Some i) = (eq-eqb t t refl, (eq-eqb t t refl, tt))

close_elsewhere : (st : State) (k : Kind) → IsElsewhere (close_step st k).flow
close_elsewhere st (of_run r) = (tt, tt)
close_elsewhere st of_block = (tt, tt)
close_elsewhere st (of_handler k) = (tt, tt)

pub step_elsewhere : (s : Script) (t : ℕ) (st : State) (fs : List Frame) (d : Demand) → DemandLeavesLoops d
    → IsElsewhere (step_of s t st fs d).flow
step_elsewhere s t st fs (does x) h = line_elsewhere s t (depth_of fs) st (bindings_of fs) x h
step_elsewhere s t st fs ends h = (tt, tt)
step_elsewhere s t st fs returns h =
    let rs = call_references t (depth_of fs) (top_info fs) (kind_item (top_kind fs)) in
    (tt, moved_elsewhere t (owed t) rs st.edges (λ x. x) (called_of t (depth_of fs) (top_info fs) (kind_item (top_kind fs))))
step_elsewhere s t st fs (owes o) h = cut_elsewhere t (owed t) st o (eq-eqb t t refl)
step_elsewhere s t st fs (spends i) h = absurd h
step_elsewhere s t st fs (drops b k o) h = λ x. x
step_elsewhere s t st fs (calls k c) h = (elsewhere_own t (call_references t (length fs) c.info (item_of k)) (called_of t (length fs) c.info (item_of k)), tt)
step_elsewhere s t st fs (enters p) h =
    phase_case (λ (x : Step). IsElsewhere x.flow) st t p (top_kind fs) (record { woken = (tt, tt); due = (tt, tt); sleeps = λ date. (tt, tt); tests = λ result. (tt, tt); collects = λ list. (tt, tt) })
step_elsewhere s t st fs closes h = close_elsewhere st (top_kind fs)
