-- Along every legal journal of every script: the bits and numbers of the state are what the entries say.
use Rattle.std.proofs.Common.{◌≡◌, ℕ, Bool, true, false, cond, ◌&&◌, ◌||◌, not, List, [], ◌∷◌, ◌++◌, append-nil, append_assoc, length, Option, Some, None, eqb, ltb, refl, sym, ap, ◌∙◌, subst, arith}
use Rattle.std.specs.Prelude.{slice_get, is_some}
use Rattle.std.specs.List.{list_any}
use Rattle.std.proofs.lemmas.Bool.{and_parts}
use Rattle.std.proofs.lemmas.Bool.Decides.{nat_tests}
use Rattle.std.proofs.lemmas.List.Folds.{list_any-append}
use Rattle.cf_ids.specs.declared.answer.Answer.{Answer}
use Rattle.cf_ids.specs.declared.answer.Answer.TheVariants as answers
use Rattle.rl_base.specs.Dates.{has_come}
use Rattle.rl_base.specs.History.{holds_since}
use Rattle.rl_base.proofs.HistoryLemmas.{holds_since-append}
use Rattle.cf_syntax.specs.declared.script.Script.{Script}
use Rattle.cf_contents.specs.Contents.{Object}
use Rattle.cf_next.specs.declared.action.Action.{Action}
use Rattle.cf_next.specs.declared.action.Action.TheVariants as actions
use Rattle.cf_next.specs.Demands.{Demand, spends}
use Rattle.cf_next.specs.Next.{action_in}
use Rattle.cf_model.specs.declared.entry.Entry.{Entry}
use Rattle.cf_model.specs.Finals.{finals}
use Rattle.cf_model.specs.Known.{facts_of}
use Rattle.cf_model.specs.State.{Parts, State, start, is_made, is_live, stand_at, times}
use Rattle.cf_model.specs.Things.{Thing, thing_at, thing_of, is_signalled_thing, is_valid_thing, date_of_thing}
use Rattle.cf_model.specs.Own.{present_of}
use Rattle.cf_model.specs.Deals.{okay, answering, leaving, with_item, every_place}
use Rattle.cf_model.specs.Steps.{acted, answer_if, spend_if, done_by, frames_at, step_of, step_answer}
use Rattle.cf_model.specs.Journals.{After, after_action, state_from, ticked, uses_of, owners_of, MayUseAll, IsLegalStep, IsLegalAs, IsLegalEntry, IsLegal}
use Rattle.cf_model.proofs.Acting.{next_is}
use Rattle.cf_model.proofs.Entries.{ActionView, IsStep, is_tick, is_stall, is_step, action_view}
use Rattle.cf_model.proofs.Finality.{IsLegalPart, part_of_legal, kept_part}
use Rattle.cf_model.proofs.Legal.{not_skipped}
use Rattle.cf_model.proofs.Steady.{start_steady}
use Rattle.cf_model.proofs.Views.{stand_view}
use Rattle.cf_history.specs.History.{signals, calls, binds, makes_source, makes_item, invalidates, is_source_after, is_signalled_after, is_valid_after, is_made_after, is_live_after}
use Rattle.cf_history.specs.Timing.{time_in, time_from, time_after, Timing, timing_by, or_timing, timing_of, call_from, last_call, date_by, date_after_entries}
use Rattle.cf_history.specs.Laws.{SignalsAgree, ValidityAgrees, LivesAgree, DatesAgree}
use Rattle.cf_history.proofs.ItemLaws.{timing_of_thing, is_source_thing, Tells, Quiet, quiet_tells, made_same}
use Rattle.cf_history.proofs.ItemSteps.{event}
use Rattle.cf_history.proofs.DemandLaws.{SpendsMade, demand_tells}

-- ---- what a legal entry says

-- the finalised objects are no matter of it
with_finals : (s : Script) (i : ℕ) (e : Entry) (p q : Parts) (fs : List ℕ) → Tells s i e p q
    → Tells s i e p (record q { finalised = fs })
with_finals s i e p q fs h = record { time = h.time; made = h.made; some = h.some; source = h.source; signalled = h.signalled; valid = h.valid; new = h.new; gone = h.gone; called = h.called; timing = h.timing; date = h.date }

spend_answers : (s : Script) (st : State) (j : ℕ) (x : Option Thing) → (spend_if s st j x).answer ≡ answers.Skip → ⊥
spend_answers s st j None e = cc
spend_answers s st j (Some x) e = by x.valid x.valid e
  where
    by : (a b : Bool)
        → (cond a (cond b (leaving (with_item st.parts j false x.item) (present_of (every_place s j st.edges) st.edges)) (answering st.parts answers.Invalid)) (okay st.parts)).answer ≡ answers.Skip
        → ⊥
    by true true e = cc
    by true false e = cc
    by false b e = cc

module _ (s : Script) (i : ℕ) (st : State) where
  -- what is spent is live, since the entry is legal
  spent_made : (t : ℕ) (d : Demand)
      → MayUseAll st t (owners_of (action_in s (facts_of st) t (frames_at t st) d)) (uses_of (action_in s (facts_of st) t (frames_at t st) d) (step_answer (step_of s t st (frames_at t st) d) st))
      → SpendsMade s i t st d
  spent_made t (spends j) uses =
      let answer = step_answer (step_of s t st (frames_at t st) (spends j)) st in
      let used = subst (MayUseAll st t []) (not_skipped (actions.Spend j) answer (spend_answers s st j (thing_at st.parts j))) uses in
      (and_parts (is_made st.parts j) (eqb (times j st.parts.finalised) 0) used.0.live).0
  spent_made t d uses = tt

  step_tells : (t : ℕ) (a : Action) (x : Answer) → IsStep a → IsLegalStep s st (event t a x)
      → Tells s i (event t a x) st.parts (after_action s t st a).parts
  step_tells t a x step legal =
      let acts = next_is s st t a legal.next in
      let d = acts.demand in
      let fs = frames_at t st in
      let does_it = step_of s t st fs d in
      let b = action_in s (facts_of st) t fs d in
      let y = step_answer does_it st in
      let answer : x ≡ y = legal.answer ∙ ap (answer_if s t st) acts.demands in
      let uses = subst (λ (z : Answer). MayUseAll st t (owners_of b) (uses_of b z)) answer (subst (λ (c : Action). MayUseAll st t (owners_of c) (uses_of c x)) (sym acts.action) legal.uses) in
      let tells = demand_tells s i t st (stand_at t st.stands) d (spent_made t d uses) (stand_view s (facts_of st) t (stand_at t st.stands) d acts.demands) in
      let whole = with_finals s i (event t b y) st.parts does_it.parts (done_by s t st d).parts.finalised tells in
      let same : event t b y ≡ event t a x = ap (λ (c : Action). event t c y) acts.action ∙ ap (λ (z : Answer). event t a z) (sym answer) in
      subst (λ (q : State). Tells s i (event t a x) st.parts q.parts) (sym (step.after s t st ∙ ap (acted s t st) acts.demands))
      (subst (λ (e : Entry). Tells s i e st.parts (done_by s t st d).parts) same whole)

  lead_tells : (t : ℕ) (a : Action) (x : Answer) (q : Parts) → Quiet s i (event t a x) → x ≡ answers.Ok
      → q.time ≡ time_in st.parts.time a → q.objects ≡ st.parts.objects → Tells s i (event t a x) st.parts q
  lead_tells t a x q quiet ok time same =
      quiet_tells s i (event t a x) st.parts q quiet time
      (made_same st.parts q i (binds i (event t a x)) (ap length same) (ap (λ (y : Answer). binds i (event t a y)) ok)) (ap (λ (obs : List Object). thing_of (slice_get obs i)) same)

  tells_by : (t : ℕ) (a : Action) (x : Answer) → ActionView a → IsLegalAs s st (event t a x) a
      → Tells s i (event t a x) st.parts (after_action s t st a).parts
  tells_by t _ x (is_tick n) legal = lead_tells t (actions.Tick n) x (ticked n st).parts (record { signal = refl; call = refl; make = refl; source = refl; invalidation = refl; timing = refl }) legal.1 refl refl
  tells_by t _ x is_stall legal = lead_tells t actions.Stall x st.parts (record { signal = refl; call = refl; make = refl; source = refl; invalidation = refl; timing = refl }) legal.1 refl refl
  tells_by t a x (is_step _ step) legal = step_tells t a x step (step.legal s st (event t a x) legal)

  pub entry_tells : (e : Entry) → IsLegalEntry s st e → Tells s i e st.parts (after_action s e.thread st e.action).parts
  entry_tells e legal = tells_by e.thread e.action e.answer (action_view e.action) legal

-- ---- one entry more

any_more : (p : Entry → Bool) (es : List Entry) (e : Entry) → list_any p (es ++ e ∷ []) ≡ (list_any p es || p e)
any_more p es e = list_any-append p es (e ∷ []) ∙ tidy (list_any p es) (p e)
  where
    tidy : (b c : Bool) → (b || (c || false)) ≡ (b || c)
    tidy b c = grind arith

since_more : (begins ends : Entry → Bool) (es : List Entry) (e : Entry)
    → holds_since begins ends (es ++ e ∷ []) ≡ (begins e || (holds_since begins ends es && not (ends e)))
since_more begins ends es e = holds_since-append begins ends es (e ∷ []) ∙ tidy (begins e) (holds_since begins ends es) (ends e)
  where
    tidy : (b h c : Bool) → (((b && not false) || false) || (h && not (c || false))) ≡ (b || (h && not c))
    tidy b h c = grind arith

pub time_more : (now : ℕ) (es : List Entry) (e : Entry)
    → time_from now (es ++ e ∷ []) ≡ time_in (time_from now es) e.action
time_more now [] e = refl
time_more now (x ∷ es) e = time_more (time_in now x.action) es e

or_nothing : (t : Option Timing) → or_timing t None ≡ t
or_nothing None = refl
or_nothing (Some x) = refl

or_three : (t u v : Option Timing) → or_timing t (or_timing u v) ≡ or_timing (or_timing t u) v
or_three None u v = refl
or_three (Some x) u v = refl

timing_more : (s : Script) (i : ℕ) (es : List Entry) (e : Entry)
    → timing_of s (es ++ e ∷ []) i ≡ or_timing (timing_of s es i) (timing_by s i e)
timing_more s i [] e = or_nothing (timing_by s i e)
timing_more s i (x ∷ es) e = ap (or_timing (timing_by s i x)) (timing_more s i es e) ∙ or_three (timing_by s i x) (timing_of s es i) (timing_by s i e)

call_more : (i now : ℕ) (last : Option ℕ) (es : List Entry) (e : Entry)
    → call_from i now last (es ++ e ∷ []) ≡ cond (calls i e) (Some (time_from now es)) (call_from i now last es)
call_more i now last [] e = refl
call_more i now last (x ∷ es) e = call_more i (time_in now x.action) (cond (calls i x) (Some now) last) es e

-- ---- what holds along a journal

pub record Agrees (s : Script) (es : List Entry) (st : State) : Type 0 where
  pub time : st.parts.time ≡ time_after es
  pub made : (i : ℕ) → is_made st.parts i ≡ is_made_after es i
  pub some : (i : ℕ) → is_some (thing_at st.parts i) ≡ list_any (makes_item i) es
  pub source : (i : ℕ) → is_source_thing (thing_at st.parts i) ≡ is_source_after es i
  pub signalled : (i : ℕ) → is_signalled_thing (thing_at st.parts i) ≡ is_signalled_after es i
  pub valid : (i : ℕ) → is_valid_thing (thing_at st.parts i) ≡ is_valid_after es i
  pub early : (i : ℕ) → list_any (invalidates i) es ≡ true → is_made st.parts i ≡ true
  pub timing : (i : ℕ) → timing_of_thing (thing_at st.parts i) ≡ timing_of s es i
  pub last : (i : ℕ) → thing_at st.parts i ≡ None → last_call es i ≡ None
  pub date : (i : ℕ)
      → date_of_thing (thing_at st.parts i) ≡ date_by (timing_of_thing (thing_at st.parts i)) (last_call es i)

true_false : (b : Bool) → b ≡ true → b ≡ false → ⊥
true_false true e f = cc
true_false false e f = cc

valid_more : (v w m x made : Bool) → (m ≡ true → made ≡ false) → (w ≡ true → made ≡ true)
    → (((v && not w) || m) && not x) ≡ ((v || m) && not (w || x))
valid_more v true true x made new old = absurd (true_false made (old refl) (new refl))
valid_more v false true x made new old = grind arith
valid_more v true false x made new old = grind arith
valid_more v false false x made new old = grind arith

early_more : (w x made bound : Bool) → (w ≡ true → made ≡ true) → (x ≡ true → made ≡ true) → (w || x) ≡ true
    → (made || bound) ≡ true
early_more true x made bound old now e = by made (old refl)
  where
    by : (b : Bool) → b ≡ true → (b || bound) ≡ true
    by b e = grind arith
early_more false x made bound old now e = by made (now e)
  where
    by : (b : Bool) → b ≡ true → (b || bound) ≡ true
    by b e = grind arith

none_before : (x y : Option Thing) (m : Bool) → is_some y ≡ (is_some x || m) → y ≡ None → x ≡ None
none_before None y m e f = refl
none_before (Some x) y m e f = absurd (true_false true refl (sym (sym (ap is_some f) ∙ e)))

last_more : (called : Bool) (now last : Option ℕ) → (called ≡ true → ⊥) → last ≡ None → cond called now last ≡ None
last_more true now last h e = absurd (h refl)
last_more false now last h e = e

pub agrees_more : (s : Script) (es : List Entry) (st : State) (e : Entry) → Agrees s es st → IsLegalEntry s st e
    → Agrees s (es ++ e ∷ []) (after_action s e.thread st e.action)
agrees_more s es st e h legal =
    let next = after_action s e.thread st e.action in
    let tells : (i : ℕ) → Tells s i e st.parts next.parts = λ i. entry_tells s i st e legal in
    let calls_now : (i : ℕ) → last_call (es ++ e ∷ []) i ≡ cond (calls i e) (Some st.parts.time) (last_call es i) = λ i. call_more i 0 None es e ∙ ap (λ (n : ℕ). cond (calls i e) (Some n) (last_call es i)) (sym h.time) in
    record {
      time = (tells 0).time ∙ ap (λ (n : ℕ). time_in n e.action) h.time ∙ sym (time_more 0 es e);
      made = λ i. (tells i).made ∙ ap (λ (b : Bool). b || binds i e) (h.made i) ∙ sym (any_more (binds i) es e);
      some = λ i. (tells i).some ∙ ap (λ (b : Bool). b || makes_item i e) (h.some i) ∙ sym (any_more (makes_item i) es e);
      source = λ i. (tells i).source ∙ ap (λ (b : Bool). b || makes_source i e) (h.source i) ∙ sym (any_more (makes_source i) es e);
      signalled = λ i. (tells i).signalled ∙ ap (λ (b : Bool). signals i e || (b && not (calls i e))) (h.signalled i) ∙ sym (since_more (signals i) (calls i) es e);
      valid = λ i.
          (tells i).valid ∙ ap (λ (b : Bool). (b || makes_item i e) && not (invalidates i e)) (h.valid i)
          ∙ valid_more (list_any (makes_item i) es) (list_any (invalidates i) es) (makes_item i e) (invalidates i e) (is_made st.parts i) (tells i).new (h.early i)
          ∙ sym (ap (λ (b : Bool). b && not (list_any (invalidates i) (es ++ e ∷ []))) (any_more (makes_item i) es e) ∙ ap (λ (b : Bool). (list_any (makes_item i) es || makes_item i e) && not b) (any_more (invalidates i) es e));
      early = λ i some. (tells i).made ∙ early_more (list_any (invalidates i) es) (invalidates i e) (is_made st.parts i) (binds i e) (h.early i) (tells i).gone (sym (any_more (invalidates i) es e) ∙ some);
      timing = λ i. (tells i).timing ∙ ap (λ (t : Option Timing). or_timing t (timing_by s i e)) (h.timing i) ∙ sym (timing_more s i es e);
      last = λ i none.
          let before = none_before (thing_at st.parts i) (thing_at next.parts i) (makes_item i e) (tells i).some none in
          calls_now i ∙ last_more (calls i e) (Some st.parts.time) (last_call es i) (λ called. (tells i).called called before) (h.last i before);
      date = λ i. (tells i).date (last_call es i) (h.last i) (h.date i) ∙ ap (date_by (timing_of_thing (thing_at next.parts i))) (sym (calls_now i));
    }

pub agrees_from : (s : Script) (es : List Entry) (st : State) (more : List Entry) → Agrees s es st
    → IsLegalPart s st more → Agrees s (es ++ more) (state_from s st more)
agrees_from s es st [] h legal = rw (append-nil es) h
agrees_from s es st (e ∷ more) h legal = rw (← append_assoc es (e ∷ []) more) (agrees_from s (es ++ e ∷ []) (after_action s e.thread st e.action) more (agrees_more s es st e h legal.0) legal.1)

pub agrees_start : (s : Script) → Agrees s [] (start s)
agrees_start s = record {
  time = refl;
  made = λ i. not_below i;
  some = λ i. refl;
  source = λ i. refl;
  signalled = λ i. refl;
  valid = λ i. refl;
  early = λ i some. absurd cc;
  timing = λ i. refl;
  last = λ i none. refl;
  date = λ i. refl;
}
  where
    not_below : (i : ℕ) → ltb i 0 ≡ false
    not_below i = grind (arith, nat_tests)

pub agrees_part : (s : Script) (es : List Entry) → IsLegalPart s (start s) es → Agrees s es (After s es)
agrees_part s es legal = agrees_from s [] (start s) es (agrees_start s) legal

pub agrees_along : (s : Script) (es : List Entry) → IsLegal s es → Agrees s es (After s es)
agrees_along s es legal = agrees_part s es (part_of_legal s (start s) es legal)

-- ---- the laws

pub signals_agree : (s : Script) (es : List Entry) → IsLegal s es → SignalsAgree s es
signals_agree s es legal = (agrees_along s es legal).signalled

pub validity_agrees : (s : Script) (es : List Entry) → IsLegal s es → ValidityAgrees s es
validity_agrees s es legal = (agrees_along s es legal).valid

pub live_part : (s : Script) (es : List Entry) → IsLegalPart s (start s) es → (o : ℕ)
    → is_live (After s es).parts o ≡ is_live_after es o
live_part s es legal o =
    let k = (kept_part s (start s) es (start_steady s) legal).finals o in
    let same : times o (After s es).parts.finalised ≡ finals o es = omega (arith, k) in
    ap (λ (b : Bool). b && eqb (times o (After s es).parts.finalised) 0) ((agrees_part s es legal).made o) ∙ ap (λ (n : ℕ). is_made_after es o && eqb n 0) same

pub lives_agree : (s : Script) (es : List Entry) → IsLegal s es → LivesAgree s es
lives_agree s es legal = record { made = (agrees_along s es legal).made; live = live_part s es (part_of_legal s (start s) es legal) }

pub dates_agree : (s : Script) (es : List Entry) → IsLegal s es → DatesAgree s es
dates_agree s es legal =
    let h = agrees_along s es legal in
    let dated : (i : ℕ) → date_of_thing (thing_at (After s es).parts i) ≡ date_after_entries s es i = λ i. h.date i ∙ ap (λ (t : Option Timing). date_by t (last_call es i)) (h.timing i) in
    record {
      time = h.time;
      date = dated;
      due = λ i.
          ap (λ (b : Bool). b && has_come (date_of_thing (thing_at (After s es).parts i)) (After s es).parts.time) (h.valid i)
          ∙ ap (λ (d : Option ℕ). is_valid_after es i && has_come d (After s es).parts.time) (dated i)
          ∙ ap (λ (n : ℕ). is_valid_after es i && has_come (date_after_entries s es i) n) h.time;
    }
