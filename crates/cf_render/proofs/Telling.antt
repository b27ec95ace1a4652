-- What entries tell of the objects made and finalised is what the state has.
use Rattle.std.proofs.Common.{◌≡◌, ℕ, zero, suc, ◌+◌, ◌<◌, Bool, true, false, cond, ◌&&◌, not, List, [], ◌∷◌, ◌++◌, append-nil, append_assoc, map, length, Option, Some, None, eqb, eq-eqb, refl, sym, ap, ◌∙◌, subst, arith, inl, inr}
use Rattle.std.specs.Prelude.{slice_get}
use Rattle.std.proofs.lemmas.List.{map-append}
use Rattle.std.specs.Option.{option_to_list}
use Rattle.std.proofs.lemmas.Bool.Decides.{eqb_tells}
use Rattle.cf_ids.specs.declared.answer.Answer.{Answer}
use Rattle.cf_ids.specs.declared.answer.Answer.TheVariants as answers
use Rattle.rl_turn.specs.declared.phases.Phase.{Phase}
use Rattle.rl_turn.specs.declared.phases.Phase.TheVariants as phases
use Rattle.cf_string.specs.declared.faults.StrFault.{StrFault}
use Rattle.cf_string.specs.declared.faults.StrFault.TheVariants.{Range, SplitsPair}
use Rattle.cf_string.specs.Faults.{split_fault}
use Rattle.cf_syntax.specs.declared.script.Script.{Script}
use Rattle.cf_syntax.specs.declared.script.ClassLine.{ClassLine}
use Rattle.cf_syntax.specs.declared.statement.Statement.{Statement}
use Rattle.cf_syntax.specs.declared.statement.Statement.TheVariants as forms
use Rattle.cf_syntax.specs.declared.mention.Ownership.{Ownership}
use Rattle.cf_syntax.specs.declared.mention.Ownership.TheVariants.{Keeps, Binds, Retains, Releases}
use Rattle.cf_syntax.specs.Mentions.{ownership_of, first_of, used_at}
use Rattle.cf_syntax.specs.BlockLines.{BlockLine, begins, claims, says, packs}
use Rattle.cf_graph.specs.Holders.{Holder, variable, parcel}
use Rattle.cf_contents.specs.Contents.{Content, text_content, Object, instance_of}
use Rattle.cf_contents.specs.Items.{Item, source_item, timer_item, observer_item, kind_of}
use Rattle.cf_contents.specs.Keys.{Numbered, numbered, class_line}
use Rattle.cf_contents.specs.Deeds.{Origin, nowhere, fresh, there, Change, creating, with_object, text_in, unless_split, fresh_if, part_of, deed_of, deed_at, with_change, objects_after}
use Rattle.cf_contents.proofs.FormLaws.{NamesNone, MakesOnly, form_fits}
use Rattle.cf_next.specs.declared.action.Action.{Action}
use Rattle.cf_next.specs.declared.action.Action.TheVariants as actions
use Rattle.cf_next.specs.Stands.{has_run, item_of, Kind, of_block, of_handler, of_run, Frame, Work, Stand}
use Rattle.cf_next.specs.Demands.{Demand, does, returns, owes, spends, drops, calls, frame_lines}
use Rattle.cf_next.specs.Next.{object_at, used_objects, phase_action, action_in}
use Rattle.cf_model.specs.declared.entry.Entry.{Entry}
use Rattle.cf_model.specs.Finals.{final_of, finals, one_at}
use Rattle.cf_model.specs.Known.{facts_of}
use Rattle.cf_model.specs.State.{State, Parts, start, is_common, first_held, stand_at, times}
use Rattle.cf_model.specs.Things.{Thing, thing_at}
use Rattle.cf_model.specs.Own.{present_of}
use Rattle.cf_model.specs.Deals.{Deal, answering, okay, leaving, deal_of, change_deal, change_unless_skipped, with_used, with_thing, thing_deal, with_filter, with_item, thread_in, place_in, stays_in_one, is_elsewhere, holds_at, signal_deal, invalidate_deal, every_place}
use Rattle.cf_model.specs.Steps.{Step, step_answer, Made, item_made, bound_if, bind_step, retain_step, release_step, statement_step, step_of, frames_at, start_all, end_step, claim_step, pack_step, packed_holder, phase_step, close_step, fire, fire_if, spend_if, done_by, acted, answer_if}
use Rattle.cf_model.specs.Journals.{After, after_action, state_from, IsLegalStep, IsLegalAs, IsLegal}
use Rattle.cf_model.proofs.Acting.{next_is}
use Rattle.cf_model.proofs.Entries.{ActionView, IsStep, is_tick, is_stall, is_step, action_view}
use Rattle.cf_model.proofs.Finality.{IsLegalPart, part_of_legal, kept}
use Rattle.cf_model.proofs.Phases.{phase_case}
use Rattle.cf_model.proofs.Unfinalised.{deal_names}
use Rattle.cf_model.proofs.Views.{FrameView, StandView, WorkView, first_drops, first_owes, first_spends, is_call, is_close, is_end, is_line, is_phase, is_return, of_frame, of_work, stand_view}
use Rattle.cf_history.specs.Written.{statement_of}
use Rattle.cf_history.proofs.WrittenLaws.{line_written}
use Rattle.cf_render.specs.Made.{class_made, class_if, told_by, told_in, classes_told, finalised_in, ObjectsTold}

-- ---- classes

abbrev pub classes_of : List Object → List ℕ
classes_of obs = map (λ (ob : Object). ob.class) obs

same_with : (o : ℕ) (c : Change) (obs : List Object) → classes_of (with_change o c obs) ≡ classes_of obs
same_with o c [] = refl
same_with zero c (ob ∷ obs) = refl
same_with (suc o) c (ob ∷ obs) = ap (λ cs. ob.class ∷ cs) (same_with o c obs)

same_after : (o : Option ℕ) (c : Change) (obs : List Object) → classes_of (objects_after o c obs) ≡ classes_of obs
same_after None c obs = refl
same_after (Some o) c obs = same_with o c obs

-- ---- what a statement makes

-- an object that is new has the class that the form says, and a form that finds an object makes none
abbrev IsOfClass : Option ℕ → Origin → Type 0
IsOfClass class nowhere = Unit {0}
IsOfClass class (fresh ob) = class ≡ Some ob.class
IsOfClass class (there o) = class ≡ None

only_found : (class : Option ℕ) (origin : Origin) → class ≡ None → MakesOnly false origin → IsOfClass class origin
only_found class nowhere e only = tt
only_found class (fresh ob) e only = absurd only
only_found class (there o) e only = e

instance_class : (class : ℕ) (key : _) (line : Option ClassLine)
    → IsOfClass (Some class) (fresh_if (instance_of class key line)).origin
instance_class class key None = tt
instance_class class key (Some line) = refl

part_class : (u : List ℕ) (at len : ℕ) (f : Option StrFault) (class : ℕ) (content : Content)
    → IsOfClass (Some class) (unless_split f (creating class content)).origin
part_class u at len None class content = refl
part_class u at len (Some Range) class content = tt
part_class u at len (Some SplitsPair) class content = tt
part_class u at len (Some _) class content = tt

sub_text : (content : Content) (at len : ℕ)
    → IsOfClass (Some 3) (text_in content (λ units. part_of units at len)).origin
sub_text (text_content mutable units) at len = part_class units at len (split_fault units at len) 3 _
sub_text _ at len = tt

sub_class : (a : Option Numbered) (at len : ℕ)
    → IsOfClass (Some 3) (with_object a (λ u. text_in u.object.content (λ units. part_of units at len))).origin
sub_class None at len = tt
sub_class (Some u) at len = sub_text u.object.content at len

-- forms whose item a step makes
abbrev IsNoItem : Statement → Type 0
IsNoItem (forms.MakeSource v order h info) = ⊥
IsNoItem (forms.MakeTimer v first interval h info) = ⊥
IsNoItem (forms.MakeObserver v mask repeats order h info) = ⊥
IsNoItem _ = Unit {0}

deed_class : (classes : List ClassLine) (x : Statement) (a b c : Option Numbered) → IsNoItem x
    → IsOfClass (class_made x) (deed_of classes x a b c).origin
deed_class classes (forms.MakeString v text) a b c h = refl
deed_class classes (forms.MakeMstring v text) a b c h = refl
deed_class classes (forms.MakeData v bytes) a b c h = refl
deed_class classes (forms.MakeMdata v bytes) a b c h = refl
deed_class classes (forms.MakeNumber v n) a b c h = refl
deed_class classes (forms.MakeArray v plain) a b c h = refl
deed_class classes (forms.MakeDict v plain) a b c h = refl
deed_class classes (forms.MakeSet v plain) a b c h = refl
deed_class classes (forms.MakeBag v plain) a b c h = refl
deed_class classes (forms.MakeHeap v plain) a b c h = refl
deed_class classes (forms.MakeSource v order k info) a b c h = absurd h
deed_class classes (forms.MakeTimer v first interval k info) a b c h = absurd h
deed_class classes (forms.MakeObserver v mask repeats order k info) a b c h = absurd h
deed_class classes (forms.New v None key) a b c h = tt
deed_class classes (forms.New v (Some class) key) a b c h = instance_class class key (class_line classes class)
deed_class classes (forms.StrSub v text at len) a b c h = sub_class a at len
deed_class classes x a b c h = only_found (class_made x) (deed_of classes x a b c).origin refl (form_fits classes x a b c).only

-- ---- a step that tells

-- what a retain or a release does to a variable makes nothing
abbrev MakesNothing : Ownership → Type 0
MakesNothing (Retains v) = Unit {0}
MakesNothing (Releases v) = Unit {0}
MakesNothing _ = ⊥

-- an answer that names no object tells no class
told_none : (class : Option ℕ) (a : Answer) → NamesNone a → told_by class a ≡ None
told_none class (answers.Object o) h = absurd h
told_none class _ h = refl

nothing_told : (a : Answer) → told_by None a ≡ None
nothing_told (answers.Object o) = refl
nothing_told _ = refl

module _ (t : ℕ) (st : State) where
  -- a step makes an object of the class that its answer tells, if its statement tells this class
  abbrev StepTells : Option ℕ → Step → Type 0
  StepTells class step = classes_of step.parts.objects ≡ classes_of st.parts.objects ++ option_to_list (told_by class (step_answer step st))

  abbrev Same : Parts → Type 0
  Same p = classes_of p.objects ≡ classes_of st.parts.objects

  tells_none : (class : Option ℕ) (step : Step) → Same step.parts → told_by class (step_answer step st) ≡ None
      → StepTells class step
  tells_none class step same none = same ∙ sym (append-nil (classes_of st.parts.objects)) ∙ ap (λ c. classes_of st.parts.objects ++ option_to_list c) (sym none)

  quiet : (step : Step) → Same step.parts → StepTells None step
  quiet step same = tells_none None step same (nothing_told (step_answer step st))

  -- ---- deals

  either : (b : Bool) (x y : Deal) → Same x.parts → Same y.parts → Same (cond b x y).parts
  either true x y h k = h
  either false x y h k = k

  used_same : (used : Option ℕ) (deal : ℕ → Deal) → ((o : ℕ) → Same (deal o).parts)
      → Same (with_used st.parts used deal).parts
  used_same None deal h = refl
  used_same (Some o) deal h = h o

  thing_same : (j : ℕ) (deal : ℕ → Thing → Deal) (x : Option Thing) → ((j : ℕ) (x : Thing) → Same (deal j x).parts)
      → Same (thing_deal st.parts j deal x).parts
  thing_same j deal None h = refl
  thing_same j deal (Some x) h = h j x

  item_same : (used : Option ℕ) (deal : ℕ → Thing → Deal) → ((j : ℕ) (x : Thing) → Same (deal j x).parts)
      → Same (with_thing st.parts used deal).parts
  item_same None deal h = refl
  item_same (Some j) deal h = thing_same j deal (thing_at st.parts j) h

  filter_same : (v object : Option ℕ) (deal : Option ℕ → Deal) → ((f : Option ℕ) → Same (deal f).parts)
      → Same (with_filter st.parts v object deal).parts
  filter_same None object deal h = h None
  filter_same (Some v) object deal h = used_same object (λ o. deal (Some o)) (λ o. h (Some o))

  change_same : (answer : Answer) (b : Option ℕ) (c : Change) → Same (change_deal st.parts answer b c).parts
  change_same answer None c = refl
  change_same answer (Some b) c = same_with b c st.parts.objects

  signal_same : (j : ℕ) (valid : Bool) (item : Item) → Same (signal_deal st.parts j valid item).parts
  signal_same j true (source_item order on) = same_with j _ st.parts.objects
  signal_same j false (source_item order on) = refl
  signal_same j valid (timer_item first interval date) = refl
  signal_same j valid (observer_item mask repeats order) = refl

  end_same : (s : Script) (j : ℕ) (x : Thing) → Same (invalidate_deal s st j x).parts
  end_same s j x = either x.valid (leaving (with_item st.parts j false x.item) (present_of (every_place s j st.edges) st.edges)) (answering st.parts answers.Invalid) (same_with j _ st.parts.objects) refl

  deal_same : (s : Script) (x : Statement) (used : List (Option ℕ)) → Same (deal_of s t st x used).parts
  deal_same s (forms.Signal v) used = item_same (first_of used) _ (λ j x. signal_same j x.valid x.item)
  deal_same s (forms.Invalidate v) used = item_same (first_of used) _ (end_same s)
  deal_same s (forms.Add v u m) used = item_same (first_of used) _ (λ j x. used_same (thread_in t u) _ (λ w.
      either (not x.valid) _ _ refl
      (either (stays_in_one (kind_of x.item) && is_elsewhere s w j st.edges) _ _ refl
      (either (holds_at w j st.edges (place_in m)) _ _ refl refl))))
  deal_same s (forms.Drop v u m) used = item_same (first_of used) _ (λ j x. used_same (thread_in t u) _ (λ w.
      either (holds_at w j st.edges (place_in m)) _ _ refl refl))
  deal_same s (forms.Common u m) used = used_same (thread_in t u) _ (λ w. either (is_common w st.parts.commons m) _ _ refl refl)
  deal_same s (forms.Wake u) used = used_same (thread_in t u) _ (λ w. refl)
  deal_same s (forms.Stop u) used = used_same (thread_in t u) _ (λ w. either (has_run (stand_at w st.stands).frames) _ _ refl refl)
  deal_same s (forms.Run m limit once) used = refl
  deal_same s (forms.Observe v k name x) used = used_same (first_of used) _ (λ o. filter_same x (used_at used 1) _ (λ f. refl))
  deal_same s (forms.Forget v name x) used = used_same (first_of used) _ (λ o. filter_same x (used_at used 1) _ (λ f. refl))
  deal_same s (forms.Post name info) used = refl
  deal_same s x used =
      let deed = deed_at s.classes st.parts.objects x used in
      change_same deed.answer (first_of used) (change_unless_skipped deed.answer deed.change)

  -- ---- statements

  bound_tells : (k : Holder) (class : Option ℕ) (answer : Answer) (origin : Origin) → NamesNone answer
      → IsOfClass class origin → StepTells class (bind_step k st.parts (record { answer = answer; origin = origin }))
  bound_tells k class answer nowhere names h = tells_none class (bind_step k st.parts (record { answer = answer; origin = nowhere })) (ap classes_of (append-nil st.parts.objects)) (told_none class answer names)
  bound_tells k class answer (fresh ob) names h = map-append (λ (b : Object). b.class) st.parts.objects (ob ∷ []) ∙ ap (λ c. classes_of st.parts.objects ++ option_to_list c) (sym h)
  bound_tells k class answer (there o) names h =
      let step = bind_step k st.parts (record { answer = answer; origin = there o }) in
      tells_none class step (ap classes_of (append-nil st.parts.objects)) (ap (λ c. told_by c (step_answer step st)) h ∙ nothing_told (step_answer step st))

  retain_same : (k : Holder) (object : Option ℕ) → Same (retain_step k st object).parts
  retain_same k None = refl
  retain_same k (Some o) = refl

  release_same : (k : Holder) (object : Option ℕ) → Same (release_step t k st object).parts
  release_same k None = refl
  release_same k (Some o) = refl

  by_ownership : (s : Script) (d : ℕ) (x : Statement) (used : List (Option ℕ)) (ownership : Ownership) → IsNoItem x
      → item_made x ≡ None → (MakesNothing ownership → class_made x ≡ None)
      → StepTells (class_made x) (statement_step s t d st x used ownership)
  by_ownership s d x used Keeps h none nothing = tells_none (class_made x) (statement_step s t d st x used Keeps) (deal_same s x used) (told_none (class_made x) (deal_of s t st x used).answer (deal_names s t st x used))
  by_ownership s d x used (Binds v) h none nothing =
      let a = numbered st.parts.objects (used_at used 0) in
      let b = numbered st.parts.objects (used_at used 1) in
      let c = numbered st.parts.objects (used_at used 2) in
      let deed = deed_at s.classes st.parts.objects x used in
      subst (λ (m : Option Made). StepTells (class_made x) (bind_step (variable t d v) st.parts (bound_if s st.parts x used m))) (sym none)
      (bound_tells (variable t d v) (class_made x) deed.answer deed.origin (form_fits s.classes x a b c).names (deed_class s.classes x a b c h))
  by_ownership s d x used (Retains v) h none nothing = rw (nothing tt) (quiet (retain_step (variable t d v) st (first_of used)) (retain_same (variable t d v) (first_of used)))
  by_ownership s d x used (Releases v) h none nothing = rw (nothing tt) (quiet (release_step t (variable t d v) st (first_of used)) (release_same (variable t d v) (first_of used)))

  statement_tells : (s : Script) (d : ℕ) (x : Statement) (used : List (Option ℕ))
      → StepTells (class_made x) (statement_step s t d st x used (ownership_of x))
  statement_tells s d (forms.MakeSource v order h info) used = bound_tells (variable t d v) _ answers.Skip (fresh _) tt refl
  statement_tells s d (forms.MakeTimer v first interval h info) used = bound_tells (variable t d v) _ answers.Skip (fresh _) tt refl
  statement_tells s d (forms.MakeObserver v mask repeats order h info) used = bound_tells (variable t d v) _ answers.Skip (fresh _) tt refl
  statement_tells s d (forms.MakeString v text) used = by_ownership s d (forms.MakeString v text) used (Binds v) tt refl (λ h. absurd h)
  statement_tells s d (forms.MakeMstring v text) used = by_ownership s d (forms.MakeMstring v text) used (Binds v) tt refl (λ h. absurd h)
  statement_tells s d (forms.MakeData v bytes) used = by_ownership s d (forms.MakeData v bytes) used (Binds v) tt refl (λ h. absurd h)
  statement_tells s d (forms.MakeMdata v bytes) used = by_ownership s d (forms.MakeMdata v bytes) used (Binds v) tt refl (λ h. absurd h)
  statement_tells s d (forms.MakeNumber v n) used = by_ownership s d (forms.MakeNumber v n) used (Binds v) tt refl (λ h. absurd h)
  statement_tells s d (forms.MakeArray v plain) used = by_ownership s d (forms.MakeArray v plain) used (Binds v) tt refl (λ h. absurd h)
  statement_tells s d (forms.MakeDict v plain) used = by_ownership s d (forms.MakeDict v plain) used (Binds v) tt refl (λ h. absurd h)
  statement_tells s d (forms.MakeSet v plain) used = by_ownership s d (forms.MakeSet v plain) used (Binds v) tt refl (λ h. absurd h)
  statement_tells s d (forms.MakeBag v plain) used = by_ownership s d (forms.MakeBag v plain) used (Binds v) tt refl (λ h. absurd h)
  statement_tells s d (forms.MakeHeap v plain) used = by_ownership s d (forms.MakeHeap v plain) used (Binds v) tt refl (λ h. absurd h)
  statement_tells s d (forms.New v class key) used = by_ownership s d (forms.New v class key) used (Binds v) tt refl (λ h. absurd h)
  statement_tells s d (forms.StrSub v text at len) used = by_ownership s d (forms.StrSub v text at len) used (Binds v) tt refl (λ h. absurd h)
  statement_tells s d x used = by_ownership s d x used (ownership_of x) tt refl (λ h. refl)

  -- ---- demands

  claim_same : (h k : Holder) (object : Option ℕ) → Same (claim_step st h object k).parts
  claim_same h k None = refl
  claim_same h k (Some o) = refl

  pack_same : (h k : Holder) (object : Option ℕ) → Same (pack_step t st h object k).parts
  pack_same h k None = refl
  pack_same h k (Some o) = refl

  end_step_same : Same (end_step t st).parts
  end_step_same = by (eqb t 0)
    where
      by : (b : Bool) → Same (cond b (record st.parts { flags = start_all st.parts.flags }) st.parts)
      by true = refl
      by false = refl

  phase_same : (p : Phase) (k : Kind) → Same (phase_step st t p k).parts
  phase_same p k = phase_case (λ (s : Step). Same s.parts) st t p k (record { woken = refl; due = refl; sleeps = λ d. refl; tests = λ r. refl; collects = λ l. refl })

  close_same : (k : Kind) → Same (close_step st k).parts
  close_same (of_run r) = refl
  close_same of_block = refl
  close_same (of_handler k) = refl

  fire_same : (i : ℕ) (x : Option Thing) → Same (fire st.parts i x)
  fire_same i None = refl
  fire_same i (Some x) = same_with i _ st.parts.objects

  fire_if_same : (i : Option ℕ) → Same (fire_if st.parts i)
  fire_if_same None = refl
  fire_if_same (Some i) = fire_same i (thing_at st.parts i)

  spend_same : (s : Script) (j : ℕ) (x : Option Thing) → Same (spend_if s st j x).parts
  spend_same s j None = refl
  spend_same s j (Some x) = either x.valid (invalidate_deal s st j x) (okay st.parts) (end_same s j x) refl

  phase_unsaid : (s : Script) (p : Phase) → class_if (statement_of s (phase_action p)) ≡ None
  phase_unsaid s (phases.Note a) = refl
  phase_unsaid s phases.Sources = refl
  phase_unsaid s phases.Timers = refl
  phase_unsaid s phases.Sleep = refl
  phase_unsaid s phases.Test = refl
  phase_unsaid s phases.Ran = refl

  module _ (s : Script) where
    abbrev Acted : List Frame → Demand → Type 0
    Acted fs d = StepTells (class_if (statement_of s (action_in s (facts_of st) t fs d))) (step_of s t st fs d)

    line_tells : (f : Frame) (fs : List Frame) (x : BlockLine)
        → slice_get (frame_lines s f.kind f.block) f.number ≡ Some x → Acted (f ∷ fs) (does x)
    line_tells f fs (begins v) e = quiet (step_of s t st (f ∷ fs) (does (begins v))) refl
    line_tells f fs (claims k v) e = quiet (step_of s t st (f ∷ fs) (does (claims k v))) (claim_same (parcel t k) (variable t (length fs) v) (first_held (parcel t k) st.edges))
    line_tells f fs (packs u k v) e = quiet (step_of s t st (f ∷ fs) (does (packs u k v))) (pack_same (packed_holder t (length fs) v) (parcel u k) (object_at f.bindings v))
    line_tells f fs (says x) e = rw (ap class_if (line_written s f x e)) (statement_tells s (length fs) x (used_objects f.bindings (says x)))

    frame_tells : (f : Frame) (fs : List Frame) (d : Demand) → FrameView s (facts_of st) t f d → Acted (f ∷ fs) d
    frame_tells f fs _ (is_call k c e) = quiet (step_of s t st (f ∷ fs) (calls k c)) (fire_if_same (item_of k))
    frame_tells f fs _ (is_line x e) = line_tells f fs x e
    frame_tells f fs _ (is_end e) = quiet (end_step t st) end_step_same
    frame_tells f fs _ (is_return k e last) = quiet (step_of s t st (f ∷ fs) returns) refl
    frame_tells f fs _ (is_phase r p e) = rw (phase_unsaid s p) (quiet (phase_step st t p f.kind) (phase_same p f.kind))
    frame_tells f fs _ (is_close r e) = quiet (close_step st f.kind) (close_same f.kind)

    work_tells : (fs : List Frame) (work : List Work) (d : Demand) → WorkView (facts_of st) work d → Acted fs d
    work_tells fs work _ (first_owes o h) = quiet (step_of s t st fs (owes o)) refl
    work_tells fs work _ (first_spends j h) = quiet (step_of s t st fs (spends j)) (spend_same s j (thing_at st.parts j))
    work_tells fs work _ (first_drops b k o e h) = quiet (step_of s t st fs (drops b k o)) refl

    demand_tells : (stand : Stand) (d : Demand) → StandView s (facts_of st) t stand d → Acted stand.frames d
    demand_tells stand d (of_work e view) = work_tells stand.frames stand.work d view
    demand_tells stand d (of_frame f fs e same view) = subst (λ (gs : List Frame). Acted gs d) (sym same) (frame_tells f fs d view)

-- ---- entries

abbrev EntryTells : Script → State → Entry → Type 0
EntryTells s st e = classes_of (after_action s e.thread st e.action).parts.objects ≡ classes_of st.parts.objects ++ option_to_list (told_in s e)

step_tells : (s : Script) (st : State) (e : Entry) → IsStep e.action → IsLegalStep s st e → EntryTells s st e
step_tells s st e step legal =
    let t = e.thread in
    let acts = next_is s st t e.action legal.next in
    let d = acts.demand in
    let does_it = step_of s t st (frames_at t st) d in
    let answer : e.answer ≡ step_answer does_it st = legal.answer ∙ ap (answer_if s t st) acts.demands in
    let tells = demand_tells t st s (stand_at t st.stands) d (stand_view s (facts_of st) t (stand_at t st.stands) d acts.demands) in
    let after : after_action s t st e.action ≡ done_by s t st d = step.after s t st ∙ ap (acted s t st) acts.demands in
    ap (λ (q : State). classes_of q.parts.objects) after ∙ tells
    ∙ ap (λ (p : Action × Answer). classes_of st.parts.objects ++ option_to_list (told_by (class_if (statement_of s p.0)) p.1)) (λ i. (acts.action i, sym answer i))

lead_tells : (s : Script) (st : State) (e : Entry) → class_if (statement_of s e.action) ≡ None
    → classes_of (after_action s e.thread st e.action).parts.objects ≡ classes_of st.parts.objects → EntryTells s st e
lead_tells s st e none same = same ∙ sym (append-nil (classes_of st.parts.objects)) ∙ ap (λ c. classes_of st.parts.objects ++ option_to_list c) (sym (ap (λ c. told_by c e.answer) none ∙ nothing_told e.answer))

tells_by : (s : Script) (st : State) (t : ℕ) (a : Action) (x : Answer) → ActionView a
    → IsLegalAs s st (record { thread = t; action = a; answer = x }) a
    → EntryTells s st (record { thread = t; action = a; answer = x })
tells_by s st t _ x (is_tick n) legal = lead_tells s st (record { thread = t; action = actions.Tick n; answer = x }) refl refl
tells_by s st t _ x is_stall legal = lead_tells s st (record { thread = t; action = actions.Stall; answer = x }) refl refl
tells_by s st t a x (is_step _ step) legal =
    let e : Entry = record { thread = t; action = a; answer = x } in
    step_tells s st e step (step.legal s st e legal)

classes_from : (s : Script) (st : State) (es : List Entry) → IsLegalPart s st es
    → classes_of (state_from s st es).parts.objects ≡ classes_of st.parts.objects ++ classes_told s es
classes_from s st [] legal = sym (append-nil (classes_of st.parts.objects))
classes_from s st (e ∷ es) legal =
    classes_from s (after_action s e.thread st e.action) es legal.1
    ∙ ap (λ cs. cs ++ classes_told s es) (tells_by s st e.thread e.action e.answer (action_view e.action) legal.0)
    ∙ append_assoc (classes_of st.parts.objects) (option_to_list (told_in s e)) (classes_told s es)

-- ---- counts

-- lists with as many of each number have as many items
times_here : (n : ℕ) (xs : List ℕ) → times n (n ∷ xs) ≡ 1 + times n xs
times_here n xs = ap (λ (b : Bool). cond {A = ℕ} b 1 0 + times n xs) (eq-eqb n n refl)

abbrev without_one : ℕ → List ℕ → List ℕ
without_one n [] = []
without_one n (x ∷ xs) = cond (eqb x n) xs (x ∷ without_one n xs)

still_some : (x n : ℕ) (xs : List ℕ) → eqb x n ≡ false → 0 < times n (x ∷ xs) → 0 < times n xs
still_some x n xs e some = omega (arith, some, ap (λ (b : Bool). cond {A = ℕ} b 1 0) e)

fewer_times : (n o : ℕ) (xs : List ℕ) → 0 < times n xs → times o (n ∷ without_one n xs) ≡ times o xs
fewer_times n o [] some = absurd (omega (arith, some))
fewer_times n o (x ∷ xs) some = by (eqb x n) refl (fewer_times n o xs)
  where
    by : (b : Bool) → eqb x n ≡ b → (0 < times n xs → times o (n ∷ without_one n xs) ≡ times o xs)
        → times o (n ∷ cond b xs (x ∷ without_one n xs)) ≡ times o (x ∷ xs)
    by true e rest = elim (eqb_tells x n) [
      | inl same ↦ ap (λ (m : ℕ). times o (m ∷ xs)) (sym same.1)
      | inr apart ↦ absurd cc
    ]
    by false e rest = omega (arith, rest (still_some x n xs e some))

one_fewer : (n : ℕ) (xs : List ℕ) → 0 < times n xs → length xs ≡ suc (length (without_one n xs))
one_fewer n [] some = absurd (omega (arith, some))
one_fewer n (x ∷ xs) some = by (eqb x n) refl (one_fewer n xs)
  where
    by : (b : Bool) → eqb x n ≡ b → (0 < times n xs → length xs ≡ suc (length (without_one n xs)))
        → suc (length xs) ≡ suc (length (cond b xs (x ∷ without_one n xs)))
    by true e rest = refl
    by false e rest = ap suc (rest (still_some x n xs e some))

same_length : (xs ys : List ℕ) → ((o : ℕ) → times o xs ≡ times o ys) → length xs ≡ length ys
same_length [] [] h = refl
same_length [] (y ∷ ys) h = absurd (omega (arith, h y, times_here y ys))
same_length (x ∷ xs) ys h =
    let some : 0 < times x ys = omega (arith, h x, times_here x xs) in
    ap suc (same_length xs (without_one x ys) (λ o. omega (arith, h o, fewer_times x o ys some))) ∙ sym (one_fewer x ys some)

final_times : (o : ℕ) (f : Option ℕ) (xs : List ℕ) → times o (option_to_list f ++ xs) ≡ one_at o f + times o xs
final_times o None xs = omega arith
final_times o (Some p) xs = refl

finals_told : (o : ℕ) (es : List Entry) → times o (finalised_in es) ≡ finals o es
finals_told o [] = refl
finals_told o (e ∷ es) = final_times o (final_of e) (finalised_in es) ∙ ap (λ n. one_at o (final_of e) + n) (finals_told o es)

-- ---- the law

pub objects_told : (s : Script) (es : List Entry) → IsLegal s es → ObjectsTold s es
objects_told s es legal =
    let final : (o : ℕ) → times o (After s es).parts.finalised ≡ finals o es = λ o. (let k = (kept s es legal).finals o in omega (arith, k)) in
    record {
      classes = classes_from s (start s) es (part_of_legal s (start s) es legal);
      finals = final;
      count = same_length (After s es).parts.finalised (finalised_in es) (λ o. final o ∙ sym (finals_told o es));
    }
