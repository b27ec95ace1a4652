-- What an entry uses is live, and what its answer binds is not finalised.
use Rattle.std.proofs.Common.{◌≡◌, ℕ, ◌+◌, ◌<◌, Bool, true, false, cond, List, [], ◌∷◌, length, Option, Some, None, ltb, refl, ap, subst, arith}
use Rattle.std.specs.Prelude.{not, ◌&&◌, pos, slice_get, ◌==◌}
use Rattle.std.proofs.lemmas.Bool.{eqb-true}
use Rattle.std.proofs.lemmas.Bool.Decides.{nat_tests}
use Rattle.cf_ids.specs.declared.answer.Answer.{Answer}
use Rattle.cf_ids.specs.declared.answer.Answer.TheVariants as answers
use Rattle.rl_turn.specs.declared.phases.Phase.{Phase}
use Rattle.cf_syntax.specs.declared.script.Script.{Script}
use Rattle.cf_syntax.specs.declared.statement.Statement.{Statement}
use Rattle.cf_syntax.specs.declared.statement.Statement.TheVariants as forms
use Rattle.cf_syntax.specs.declared.mention.Ownership.{Ownership}
use Rattle.cf_syntax.specs.declared.mention.Ownership.TheVariants.{Keeps, Binds, Retains, Releases}
use Rattle.cf_syntax.specs.Mentions.{used_at, ownership_of, first_of}
use Rattle.cf_syntax.specs.BlockLines.{BlockLine, begins, claims, says, packs}
use Rattle.cf_contents.specs.Items.{kind_of, Item, source_item}
use Rattle.cf_contents.specs.Contents.{Object, times}
use Rattle.cf_contents.specs.Deeds.{Change, Origin, nowhere, fresh, there, deed_at}
use Rattle.cf_contents.specs.Keys.{numbered}
use Rattle.cf_contents.proofs.FormLaws.{NamesNone, form_fits}
use Rattle.cf_graph.specs.declared.edge.Owner.{Owner}
use Rattle.cf_graph.specs.Holders.{parcel, Holder, variable}
use Rattle.cf_graph.specs.Edges.{Reference, counted, degree}
use Rattle.cf_next.specs.Stands.{has_run, Role, as_observer, as_source, as_timer, as_receiver, Kind, of_run, of_handler, of_block, Frame}
use Rattle.cf_next.specs.Demands.{Demand, does, ends, returns, owes, spends, drops, calls, enters, closes}
use Rattle.cf_next.specs.Advance.{top_kind}
use Rattle.cf_next.specs.Next.{object_at, used_objects}
use Rattle.cf_model.proofs.Phases.{phase_case}
use Rattle.cf_model.specs.State.{first_held, is_common, stand_at, Parts, State, is_live}
use Rattle.cf_model.specs.Things.{Thing, thing_at, is_empty_mode}
use Rattle.cf_model.specs.Deals.{entering, leaving, common_deal, stop_deal, add_deal, drop_deal, place_in, stays_in_one, is_elsewhere, holds_at, held_at, places_added, places_dropped, invalidate_deal, every_place, with_item, wake_parts, okay, observe_deal, forget_deal, change_unless_skipped, Deal, answering, with_used, with_thing, thing_deal, with_filter, change_deal, signal_deal, thread_in, deal_of}
use Rattle.cf_model.specs.Own.{present_of}
use Rattle.cf_model.specs.Steps.{activity, Made, item_made, bound_if, result_answer, call_answer, spend_if, found, object_answer, close_step, phase_step, Step, type_in, cut_answer, release_step, retain_step, statement_step, step_of, bindings_of, depth_of, packed_holder, claim_step, pack_step}
use Rattle.cf_model.specs.Journals.{Use, reaches, takes, knows, MayUse, MayUseAll}
use Rattle.cf_model.specs.Finals.{one_at, bound_in, object_of_use, uses_among}
use Rattle.cf_model.proofs.Balance.{IsBalanced, IsLive}
use Rattle.cf_model.proofs.Legal.{live_of_test}

-- ---- nothing that is finalised is used

counted_other : (st : State) (o p : ℕ) → 0 < times o st.parts.finalised → IsLive st p → one_at o (Some p) ≡ 0
counted_other st o p some live = by (p == o) refl
  where
    by : (b : Bool) → (p == o) ≡ b → cond {A = ℕ} b 1 0 ≡ 0
    by true e = absurd (omega (arith, live.0, some, ap (λ (n : ℕ). times n st.parts.finalised) (eqb-true p o e)))
    by false e = refl

use_live : (st : State) (t : ℕ) (owners : List Owner) (u : Use) → MayUse st t owners u → IsLive st (object_of_use u)
use_live st t owners (reaches o) h = live_of_test st o h.live
use_live st t owners (takes o) h = live_of_test st o h.live
use_live st t owners (knows o) h = live_of_test st o h

pub uses_none : (st : State) (t : ℕ) (owners : List Owner) (o : ℕ) (us : List Use) → 0 < times o st.parts.finalised
    → MayUseAll st t owners us → uses_among o us ≡ 0
uses_none st t owners o [] some h = refl
uses_none st t owners o (u ∷ us) some h = omega (arith, counted_other st o (object_of_use u) some (use_live st t owners u h.0), uses_none st t owners o us some h.1)

-- what an entry binds is live, or new
abbrev pub BindsUnfinalised : State → Answer → Type 0
BindsUnfinalised st (answers.Object o) = times o st.parts.finalised ≡ 0
BindsUnfinalised st _ = Unit {0}

names_unfinalised : (st : State) (a : Answer) → NamesNone a → BindsUnfinalised st a
names_unfinalised st (answers.Object o) h = absurd h
names_unfinalised st _ h = tt

pub bound_none : (st : State) (o : ℕ) (a : Answer) → 0 < times o st.parts.finalised → BindsUnfinalised st a
    → one_at o (bound_in a) ≡ 0
bound_none st o (answers.Object p) some h = by (p == o) refl
  where
    by : (b : Bool) → (p == o) ≡ b → cond {A = ℕ} b 1 0 ≡ 0
    by true e = absurd (omega (arith, h, some, ap (λ (n : ℕ). times n st.parts.finalised) (eqb-true p o e)))
    by false e = refl
bound_none st o _ some h = refl

pub made_unfinalised : (made m : ℕ) (some : Bool) → m + counted some ≡ counted (ltb made made) → m ≡ 0
made_unfinalised made m some h = let none : counted (ltb made made) ≡ 0 = grind (arith, nat_tests) in by some (omega (arith, h, none))
  where
    by : (b : Bool) → m + counted b ≡ 0 → m ≡ 0
    by b e = omega arith

object_answers : (st : State) (object : Option ℕ) (other : Answer)
    → ((o : ℕ) → object ≡ Some o → times o st.parts.finalised ≡ 0) → BindsUnfinalised st other
    → BindsUnfinalised st (object_answer object other)
object_answers st None other h rest = rest
object_answers st (Some o) other h rest = h o refl

found_unfinalised : (st : State) (origin : Origin) → IsBalanced st → (o : ℕ) → found st.parts origin ≡ Some o
    → times o st.parts.finalised ≡ 0
found_unfinalised st nowhere b o e = absurd cc
found_unfinalised st (fresh ob) b o e =
    let is : length st.parts.objects ≡ o = cc in
    subst (λ (n : ℕ). times n st.parts.finalised ≡ 0) is (made_unfinalised (length st.parts.objects) (times (length st.parts.objects) st.parts.finalised) (ltb 0 (degree (length st.parts.objects) st.edges)) (b (length st.parts.objects)))
found_unfinalised st (there p) b o e = by (is_live st.parts p) refl e
  where
    by : (t : Bool) → is_live st.parts p ≡ t → cond t (Some p) None ≡ Some o → times o st.parts.finalised ≡ 0
    by true test e = let is : p ≡ o = cc in subst (λ (n : ℕ). times n st.parts.finalised ≡ 0) is (live_of_test st p test).0
    by false test e = absurd cc

pub cut_unfinalised : (st : State) (c : Option ℕ) (objects : List Object) (left : List Reference) (other : Answer)
    → BindsUnfinalised st other → BindsUnfinalised st (cut_answer c objects left other)
cut_unfinalised st None objects left other h = h
cut_unfinalised st (Some o) objects left other h = by (degree o left == 0)
  where
    by : (b : Bool) → BindsUnfinalised st (cond b (answers.Final (type_in (slice_get objects o))) answers.More)
    by true = tt
    by false = tt

-- ---- answers of deals name no object

names_either : (b : Bool) (x y : Deal) → NamesNone x.answer → NamesNone y.answer → NamesNone (cond b x y).answer
names_either true x y h k = h
names_either false x y h k = k

names_used : (p : Parts) (used : Option ℕ) (deal : ℕ → Deal) → ((o : ℕ) → NamesNone (deal o).answer)
    → NamesNone (with_used p used deal).answer
names_used p None deal h = tt
names_used p (Some o) deal h = h o

names_thing : (p : Parts) (used : Option ℕ) (deal : ℕ → Thing → Deal)
    → ((i : ℕ) (x : Thing) → NamesNone (deal i x).answer) → NamesNone (with_thing p used deal).answer
names_thing p None deal h = tt
names_thing p (Some i) deal h = by (thing_at p i)
  where
    by : (x : Option Thing) → NamesNone (thing_deal p i deal x).answer
    by None = tt
    by (Some x) = h i x

names_filter : (p : Parts) (v object : Option ℕ) (deal : Option ℕ → Deal) → ((o : Option ℕ) → NamesNone (deal o).answer)
    → NamesNone (with_filter p v object deal).answer
names_filter p None object deal h = h None
names_filter p (Some v) object deal h = names_used p object (λ o. deal (Some o)) (λ o. h (Some o))

names_signal : (p : Parts) (i : ℕ) (valid : Bool) (item : Item) → NamesNone (signal_deal p i valid item).answer
names_signal p i true (source_item order on) = tt
names_signal p i false (source_item order on) = tt
names_signal p i valid _ = tt

change_names : (p : Parts) (answer : Answer) (b : Option ℕ) (change : Change) → NamesNone answer
    → NamesNone (change_deal p answer b change).answer
change_names p answer None change h = h
change_names p answer (Some b) change h = h

run_names : (b : Bool) → NamesNone (cond b (answers.Number (pos 1)) answers.Entered)
run_names true = tt
run_names false = tt

deed_names : (s : Script) (st : State) (x : Statement) (used : List (Option ℕ))
    → NamesNone (deed_at s.classes st.parts.objects x used).answer
deed_names s st x used =
    (form_fits s.classes x (numbered st.parts.objects (used_at used 0)) (numbered st.parts.objects (used_at used 1)) (numbered st.parts.objects (used_at used 2))).names

invalidate_names : (s : Script) (st : State) (i : ℕ) (x : Thing) → NamesNone (invalidate_deal s st i x).answer
invalidate_names s st i x = by x.valid
  where
    by : (b : Bool)
        → NamesNone (cond b (leaving (with_item st.parts i false x.item) (present_of (every_place s i st.edges) st.edges)) (answering st.parts answers.Invalid)).answer
    by true = tt
    by false = tt

add_names : (p : Parts) (a b c : Bool) (rs : List Reference)
    → NamesNone (cond a (answering p answers.Invalid) (cond b (answering p answers.Elsewhere) (cond c (answering p answers.Present) (entering p rs)))).answer
add_names p true b c rs = tt
add_names p false true c rs = tt
add_names p false false true rs = tt
add_names p false false false rs = tt

leaving_names : (p q : Parts) (b : Bool) (rs : List Reference) (other : Answer) → NamesNone other
    → NamesNone (cond b (leaving q rs) (answering p other)).answer
leaving_names p q true rs other h = tt
leaving_names p q false rs other h = h

common_names : (st : State) (u m : ℕ) (b : Bool) → is_common u st.parts.commons m ≡ b
    → NamesNone (common_deal st u m).answer
common_names st u m true e = rw e tt
common_names st u m false e = rw e tt

stop_names : (st : State) (u : ℕ) (b : Bool) → has_run (stand_at u st.stands).frames ≡ b
    → NamesNone (stop_deal st u).answer
stop_names st u true e = rw e tt
stop_names st u false e = rw e tt

pub deal_names : (s : Script) (t : ℕ) (st : State) (x : Statement) (used : List (Option ℕ))
    → NamesNone (deal_of s t st x used).answer
deal_names s t st (forms.Add v u m) used =
    names_thing st.parts (first_of used) (λ i x. with_used st.parts (thread_in t u) (λ w. add_deal s st w (place_in m) i x)) (λ i x. names_used st.parts (thread_in t u) (λ w. add_deal s st w (place_in m) i x)
    (λ w. add_names st.parts (not x.valid) (stays_in_one (kind_of x.item) && is_elsewhere s w i st.edges) (holds_at w i st.edges (place_in m)) (held_at w i (places_added s w i st (place_in m)))))
deal_names s t st (forms.Drop v u m) used =
    names_thing st.parts (first_of used) (λ i x. with_used st.parts (thread_in t u) (λ w. drop_deal s st w (place_in m) i)) (λ i x. names_used st.parts (thread_in t u) (λ w. drop_deal s st w (place_in m) i)
    (λ w. leaving_names st.parts st.parts (holds_at w i st.edges (place_in m)) (present_of (held_at w i (places_dropped s w i st (place_in m))) st.edges) answers.Absent tt))
deal_names s t st (forms.Common u m) used = names_used st.parts (thread_in t u) (λ w. common_deal st w m) (λ w. common_names st w m (is_common w st.parts.commons m) refl)
deal_names s t st (forms.Signal v) used = names_thing st.parts (first_of used) (λ i x. signal_deal st.parts i x.valid x.item) (λ i x. names_signal st.parts i x.valid x.item)
deal_names s t st (forms.Invalidate v) used = names_thing st.parts (first_of used) (invalidate_deal s st) (λ i x. invalidate_names s st i x)
deal_names s t st (forms.Wake u) used = names_used st.parts (thread_in t u) (λ w. okay (wake_parts st.parts w)) (λ w. tt)
deal_names s t st (forms.Stop u) used = names_used st.parts (thread_in t u) (stop_deal st) (λ w. stop_names st w (has_run (stand_at w st.stands).frames) refl)
deal_names s t st (forms.Run m limit once) used = run_names (is_empty_mode st t m)
deal_names s t st (forms.Observe v k name x) used =
    names_used st.parts (first_of used) (λ o. with_filter st.parts x (used_at used 1) (observe_deal st.parts k name o)) (λ o. names_filter st.parts x (used_at used 1) (observe_deal st.parts k name o) (λ q. tt))
deal_names s t st (forms.Forget v name x) used =
    names_used st.parts (first_of used) (λ o. with_filter st.parts x (used_at used 1) (forget_deal st.parts name o)) (λ o. names_filter st.parts x (used_at used 1) (forget_deal st.parts name o) (λ q. tt))
deal_names s t st (forms.Post name info) used = tt
deal_names s t st x used =
    let deed = deed_at s.classes st.parts.objects x used in
    change_names st.parts deed.answer (first_of used) (change_unless_skipped deed.answer deed.change) (deed_names s st x used)

-- ---- answers of steps bind nothing that is finalised

bound_unfinalised : (s : Script) (st : State) (x : Statement) (used : List (Option ℕ)) (made : Option Made)
    → IsBalanced st
    → BindsUnfinalised st (object_answer (found st.parts (bound_if s st.parts x used made).origin) (bound_if s st.parts x used made).answer)
bound_unfinalised s st x used (Some m) b =
    let bound = bound_if s st.parts x used (Some m) in
    object_answers st (found st.parts bound.origin) bound.answer (found_unfinalised st bound.origin b) tt
bound_unfinalised s st x used None b =
    let bound = bound_if s st.parts x used None in
    object_answers st (found st.parts bound.origin) bound.answer (found_unfinalised st bound.origin b) (names_unfinalised st bound.answer (deed_names s st x used))

statement_unfinalised : (s : Script) (t d : ℕ) (st : State) (x : Statement) (used : List (Option ℕ))
    (ownership : Ownership)
    → IsBalanced st → BindsUnfinalised st (statement_step s t d st x used ownership).answer
statement_unfinalised s t d st x used Keeps b = names_unfinalised st _ (deal_names s t st x used)
statement_unfinalised s t d st x used (Binds v) b = bound_unfinalised s st x used (item_made x) b
statement_unfinalised s t d st x used (Retains v) b = by (first_of used)
  where
    by : (o : Option ℕ) → BindsUnfinalised st (retain_step (variable t d v) st o).answer
    by None = tt
    by (Some o) = tt
statement_unfinalised s t d st x used (Releases v) b = by (first_of used)
  where
    by : (o : Option ℕ) → BindsUnfinalised st (release_step t (variable t d v) st o).answer
    by None = tt
    by (Some o) = tt

claim_unfinalised : (st : State) (h : Holder) (o : Option ℕ) (k : Holder)
    → BindsUnfinalised st (claim_step st h o k).answer
claim_unfinalised st h None k = tt
claim_unfinalised st h (Some o) k = tt

pack_unfinalised : (t : ℕ) (st : State) (h : Holder) (o : Option ℕ) (k : Holder)
    → BindsUnfinalised st (pack_step t st h o k).answer
pack_unfinalised t st h None k = tt
pack_unfinalised t st h (Some o) k = tt

line_unfinalised : (s : Script) (t : ℕ) (st : State) (fs : List Frame) (x : BlockLine) → IsBalanced st
    → BindsUnfinalised st (step_of s t st fs (does x)).answer
line_unfinalised s t st fs (begins v) b = tt
line_unfinalised s t st fs (claims k v) b = claim_unfinalised st (parcel t k) (first_held (parcel t k) st.edges) (variable t (depth_of fs) v)
line_unfinalised s t st fs (packs u k v) b = pack_unfinalised t st (packed_holder t (depth_of fs) v) (object_at (bindings_of fs) v) (parcel u k)
line_unfinalised s t st fs (says x) b = statement_unfinalised s t (depth_of fs) st x (used_objects (bindings_of fs) (says x)) (ownership_of x) b

result_unfinalised : (st : State) (r : Option ℕ) → BindsUnfinalised st (result_answer r)
result_unfinalised st None = tt
result_unfinalised st (Some n) = tt

phase_unfinalised : (st : State) (t : ℕ) (p : Phase) (k : Kind) → BindsUnfinalised st (phase_step st t p k).answer
phase_unfinalised st t p k = phase_case (λ (s : Step). BindsUnfinalised st s.answer) st t p k (record { woken = tt; due = tt; sleeps = λ d. tt; tests = result_unfinalised st; collects = λ l. tt })

close_unfinalised : (st : State) (k : Kind) → BindsUnfinalised st (close_step st k).answer
close_unfinalised st of_block = tt
close_unfinalised st (of_handler k) = tt
close_unfinalised st (of_run r) = result_unfinalised st r.result

call_unfinalised : (st : State) (role : Role) (a : ℕ) → BindsUnfinalised st (call_answer role a)
call_unfinalised st as_observer a = tt
call_unfinalised st as_source a = tt
call_unfinalised st as_timer a = tt
call_unfinalised st as_receiver a = tt

spend_unfinalised : (s : Script) (st : State) (i : ℕ) (x : Option Thing)
    → BindsUnfinalised st (spend_if s st i x).answer
spend_unfinalised s st i None = tt
spend_unfinalised s st i (Some x) = by x.valid
  where
    by : (b : Bool) → BindsUnfinalised st (cond b (invalidate_deal s st i x) (okay st.parts)).answer
    by true = names_unfinalised st (invalidate_deal s st i x).answer (invalidate_names s st i x)
    by false = tt

pub demand_unfinalised : (s : Script) (t : ℕ) (st : State) (fs : List Frame) (d : Demand) → IsBalanced st
    → BindsUnfinalised st (step_of s t st fs d).answer
demand_unfinalised s t st fs (does x) b = line_unfinalised s t st fs x b
demand_unfinalised s t st fs ends b = tt
demand_unfinalised s t st fs returns b = tt
demand_unfinalised s t st fs (owes o) b = tt
demand_unfinalised s t st fs (spends i) b = spend_unfinalised s st i (thing_at st.parts i)
demand_unfinalised s t st fs (drops a k o) b = tt
demand_unfinalised s t st fs (calls k c) b = call_unfinalised st k.role (activity (top_kind fs))
demand_unfinalised s t st fs (enters p) b = phase_unfinalised st t p (top_kind fs)
demand_unfinalised s t st fs closes b = close_unfinalised st (top_kind fs)
