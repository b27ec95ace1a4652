-- A run after an entry of a thread.
use Rattle.std.proofs.Common.{◌≡◌, ℕ, zero, suc, ◌+◌, ◌-◌, ◌^◌, ◌<◌, ◌≤◌, ◌⊎◌, Bool, true, false, ◌||◌, List, [], ◌∷◌, ◌++◌, length, length-append, Option, Some, None, refl, sym, ap, ◌∙◌, subst, arith, inl, inr, eqb}
use Rattle.std.specs.Prelude.{slice_index, slice_set, IsSomeAnd}
use Rattle.std.proofs.lemmas.Bool.{eq-eqb, cases_lt}
use Rattle.cf_ids.specs.declared.answer.Answer.{Answer}
use Rattle.cf_syntax.specs.declared.script.Script.{Script}
use Rattle.cf_syntax.proofs.BlockLaws.{owned_fits}
use Rattle.cf_graph.specs.Edges.{counted, degree}
use Rattle.cf_graph.specs.Flows.{gained_by, gains}
use Rattle.cf_graph.proofs.Flows.{degree-flow}
use Rattle.cf_contents.specs.Contents.{times}
use Rattle.cf_next.specs.declared.action.Action.{Action}
use Rattle.cf_next.specs.declared.action.Action.TheVariants as actions
use Rattle.cf_next.specs.Actions.{cut_of}
use Rattle.cf_model.specs.declared.entry.Entry.{Entry}
use Rattle.cf_model.specs.State.{State}
use Rattle.cf_model.specs.Steps.{Step, frames_at, done_by, step_of}
use Rattle.cf_model.specs.Journals.{After, IsLegal, IsLegalAs, IsLegalEntry, MayUseAll, action_uses, has_stalled, is_stall, owners_of}
use Rattle.cf_model.specs.Serial.{moved_by, picked, picked_or_lead, pointer_of}
use Rattle.cf_model.specs.Flowing.{flow_if, flow_in}
use Rattle.cf_model.proofs.Acting.{Done, legal_done}
use Rattle.cf_model.proofs.Adding.{entry_adds}
use Rattle.cf_model.proofs.Balance.{live_led}
use Rattle.cf_model.proofs.Entries.{ActionView, IsStep as IsThreads, action_view, is_stall as views_stall, is_step, is_tick}
use Rattle.cf_model.proofs.Finality.{kept, step_after}
use Rattle.cf_model.proofs.Growth.{grows_by}
use Rattle.cf_model.proofs.Limiting.{few_of_legal, few_of_owned}
use Rattle.cf_model.proofs.Listing.{gains_are_listed}
use Rattle.cf_model.proofs.Numbering.{picked_is, pointer_most}
use Rattle.cf_model.proofs.OwnedNext.{legal_next, next_uses}
use Rattle.cf_model.proofs.Sound.{sound}
use Rattle.cf_model.proofs.Steady.{IsSteady}
use Rattle.cf_world.specs.declared.next.Next.{Next}
use Rattle.cf_world.specs.declared.next.Next.TheVariants as nexts
use Rattle.cf_world.specs.Worlds.{WorldView, act_in, acting, ended_at, ended_in, edges_by, entered_by, entry_of, made_by, next_by, next_of}
use Rattle.cf_serial.specs.declared.run.Run.{Run}
use Rattle.cf_serial.specs.Numbers.{NumbersView}
use Rattle.cf_serial.specs.Serial.{AreDegrees, ClockFits}
use Rattle.cf_serial.specs.Running.{ActsNext, ClockKeeps, IsRun, IsStep, picked_by, picks}
use Rattle.cf_model.proofs.Cutting.{CutsAs, cut_size, cuts_are, demand_cuts, gains_none, one_cut}
use Rattle.cf_serial.proofs.Nexts.{MayAct, NextTells, next_tells, unstalled}
use Rattle.cf_serial.proofs.Raising.{index-past, index_lowered, size_lowered, times_le-length}
use Rattle.cf_serial.proofs.Timing.{MovesNoTime, fits_still}

-- ---- small facts

act_tells : (s : Script) (limit : ℕ) (es : List Entry) (t : ℕ) (a : Action) (n : Next) → NextTells s limit es t n
    → act_in n ≡ Some a → MayAct s limit es t a
act_tells s limit es t a (nexts.Act b) h e = subst (MayAct s limit es t) same h
  where
    same : b ≡ a
    same = cc
act_tells s limit es t a nexts.Asleep h e = absurd cc
act_tells s limit es t a nexts.Waiting h e = absurd cc
act_tells s limit es t a nexts.Done h e = absurd cc
act_tells s limit es t a nexts.Limit h e = absurd cc
act_tells s limit es t a nexts.Full h e = absurd cc

-- an action of a thread is no tick and no stall
threads_act : (s : Script) (st : State) (t : ℕ) (a : Action) (x : Answer) → t < 255 → ActionView a
    → IsLegalAs s st (record { thread = t; action = a; answer = x }) a → IsThreads a
threads_act s st t _ x lt (is_tick n) legal = absurd (omega (arith, lt, legal.0))
threads_act s st t _ x lt views_stall legal = absurd (omega (arith, lt, legal.0))
threads_act s st t a x lt (is_step _ step) legal = step

no_stall : (s : Script) (st : State) (t : ℕ) (a : Action) (x : Answer) → t < 255
    → IsLegalAs s st (record { thread = t; action = a; answer = x }) a → is_stall a ≡ false
no_stall s st t actions.Stall x lt legal = absurd (omega (arith, lt, legal.0))
no_stall s st t a x lt legal = refl

moves_none : (s : Script) (st : State) (t : ℕ) (a : Action) (x : Answer) → t < 255
    → IsLegalAs s st (record { thread = t; action = a; answer = x }) a → MovesNoTime a
moves_none s st t (actions.Tick n) x lt legal = absurd (omega (arith, lt, legal.0))
moves_none s st t a x lt legal = record { ticks = λ date ts. tt; left = λ ts. refl }

both_none : (a b : Bool) → a ≡ false → b ≡ false → (a || b) ≡ false
both_none true b e q = absurd cc
both_none false b e q = q

no_both : (b : Bool) → b ≡ true → b ≡ false → ⊥
no_both true e q = absurd cc
no_both false e q = absurd cc

none_unless : (n made o : ℕ) → (0 < n → o < made) → made ≤ o → n ≡ 0
none_unless zero made o h past = refl
none_unless (suc n) made o h past = absurd (omega (arith, h (omega arith), past))

module _ (r : Run) (run : IsRun r) (t : ℕ) (a : Action) (pick : picks r ≡ Some t) (acts : acting r.world t ≡ Some a) where
  abbrev s : Script
  s = run.script

  abbrev es : List Entry
  es = r.world.journal

  abbrev st : State
  st = After s es

  abbrev e : Entry
  e = entry_of s t st a

  picked_here : picked s st (pointer_of s es) ≡ Some t
  picked_here =
      ap (λ (p : ℕ). picked s st p) (sym run.pointer_is) ∙ ap (λ (o : Option Script). picked_by o es r.pointer) (sym run.begun) ∙ pick

  within : t < s.thread_count
  within = (picked_is s st (pointer_of s es) t (pointer_most s es) picked_here).0

  below_lead : t < 255
  below_lead = omega (arith, within, run.threads_are, run.few_threads)

  may : MayAct s r.world.limit es t a
  may = act_tells s r.world.limit es t a (next_of s r.world.limit es t) (next_tells s r.world.limit es t within) (ap (λ (o : Option Script). act_in (next_by o r.world t)) (sym run.begun) ∙ acts)

  not_stalled : has_stalled es ≡ false
  not_stalled = unstalled s r.world.limit es t within run.within run.asleep may.can

  entry : IsLegalEntry s st e
  entry = legal_next s st t a (owned_fits s run.owned) (sound s es run.owned) may.next may.room

  steady : IsSteady st
  steady = (kept s es run.serial.legal).steady

  threads : IsThreads a
  threads = threads_act s st t a e.answer below_lead (action_view a) entry

  done : Done s st e
  done = legal_done s st e steady (threads.legal s st e entry)

  abbrev step : Step
  step = step_of s t st (frames_at t st) done.acts.demand

  abbrev after : State
  after = After s (es ++ e ∷ [])

  after_is : after ≡ done_by s t st done.acts.demand
  after_is = (grows_by s es e).after ∙ step_after s st e threads done

  flow_is : flow_in s t st a ≡ step.flow
  flow_is = threads.flow s t st ∙ ap (flow_if s t st) done.acts.demands

  uses : MayUseAll st t (owners_of a) (action_uses a)
  uses = next_uses s st t a (owned_fits s run.owned) (sound s es run.owned) may.next

  cuts_as : CutsAs (cut_of a) step.flow
  cuts_as =
      let d = done.acts.demand in
      subst (λ (b : Action). CutsAs (cut_of b) step.flow) done.acts.action
      (demand_cuts s t st (frames_at t st) (owners_of a) d
      (subst (λ (b : Action). MayUseAll st t (owners_of a) (action_uses b)) (sym done.acts.action) uses))

  -- how many references lead to an object after it
  degrees : (o : ℕ) → degree o after.edges + one_cut o (cut_of a) ≡ degree o st.edges + gains o step.flow
  degrees o = omega (
    arith,
    ap (λ (x : State). degree o x.edges) after_is,
    degree-flow o step.flow st.edges done.fits.there,
    cuts_are (cut_of a) step.flow o cuts_as,
  )

  -- an object to which references lead was made
  made_before : (o : ℕ) → 0 < degree o st.edges → o < length st.parts.objects
  made_before o some = (live_led st o steady.balance some).1

  legal_after : IsLegal s (es ++ e ∷ [])
  legal_after = (grows_by s es e).legal run.serial.legal not_stalled entry

  made_after : (o : ℕ) → 0 < degree o after.edges → o < length after.parts.objects
  made_after o some = (live_led after o (kept s (es ++ e ∷ []) legal_after).steady.balance some).1

  still_unstalled : has_stalled (es ++ e ∷ []) ≡ false
  still_unstalled =
      (grows_by s es e).stalled ∙ both_none (has_stalled es) (is_stall a) not_stalled (no_stall s st t a e.answer below_lead entry)

  -- a world after the entry
  abbrev world_after : List ℕ → WorldView
  world_after gained = record { script = r.world.script; limit = r.world.limit; journal = es ++ e ∷ []; gained = gained; room = None }

  pub entered_is : (w : WorldView) (g : List ℕ → List ℕ → List ℕ)
      → w ≡ entered_by r.world.script (acting r.world t) t g r.world
      → w ≡ world_after (g r.world.gained (gained_by (flow_in s t st a)))
  entered_is w g is =
      is ∙ ap (λ (o : Option Script). entered_by o (acting r.world t) t g r.world) run.begun
      ∙ ap (λ (o : Option Action). entered_by (Some s) o t g r.world) acts

  -- a run after it
  abbrev run_of : WorldView → NumbersView → Run
  run_of w n = record { world = w; threads = r.threads; pointer = t + 1; numbers = n; stalled = r.stalled }

  grown : (gained : List ℕ) (n : NumbersView)
      → AreDegrees (length after.parts.objects) after.edges n.items → IsRun (run_of (world_after gained) n)
  grown gained n counts = record {
    script = s;
    begun = run.begun;
    owned = run.owned;
    most = run.most;
    within = omega (arith, may.below, length-append es (e ∷ []));
    serial = record {
      legal = legal_after;
      order = (grows_by s es e).order run.serial.order (ap picked_or_lead (sym picked_here));
    };
    threads_are = run.threads_are;
    few_threads = run.few_threads;
    stalled_is = run.stalled_is ∙ not_stalled ∙ sym still_unstalled;
    asleep = λ h. absurd (no_both (has_stalled (es ++ e ∷ [])) h still_unstalled);
    pointer_is = sym ((grows_by s es e).pointer ∙ ap (moved_by (pointer_of s es)) picked_here);
    numbers_are = counts;
    few_modes = run.few_modes;
  }

  stepped : (gained : List ℕ) (n : NumbersView) → IsRun (run_of (world_after gained) n)
      → IsStep r (run_of (world_after gained) n)
  stepped gained n h = record { run = h; script = refl; limit = refl; more = length-append es (e ∷ []) }

  pub clock_stays : (w : WorldView) (gained : List ℕ) (n : NumbersView) (now : Option (List ℕ)) → w ≡ world_after gained
      → ClockKeeps r (run_of w n) now now
  clock_stays w gained n now is script before begun fits =
      subst (λ (v : WorldView). ClockFits script v.journal before now) (sym is)
      (fits_still script es e before now (moves_none s st t a e.answer below_lead entry) fits)

  -- ---- an action that takes a reference away

  module _ (o : ℕ) (cut : cut_of a ≡ Some o) where
    cut_flow_is : CutsAs (Some o) step.flow
    cut_flow_is = subst (λ (c : Option ℕ). CutsAs c step.flow) cut cuts_as

    degree_cut : (p : ℕ) → degree p after.edges + counted (eqb o p) ≡ degree p st.edges
    degree_cut p = omega (arith, degrees p, ap (one_cut p) cut, gains_none o step.flow p cut_flow_is)

    degree_own : degree o after.edges + 1 ≡ degree o st.edges
    degree_own = omega (arith, degree_cut o, ap counted (eq-eqb o o refl))

    same_made : length after.parts.objects ≡ length st.parts.objects
    same_made = ap (λ (x : State). length x.parts.objects) after_is ∙ cut_size st step.parts o step.flow cut_flow_is done.fits.flow

    pub cut_made : o < length r.numbers.items
    cut_made = omega (arith, run.numbers_are.size, made_before o (omega (arith, degree_own)))

    at_cut : slice_index r.numbers.items o ≡ degree o st.edges
    at_cut = run.numbers_are.at o (omega (arith, run.numbers_are.size, cut_made))

    pub cut_some : 0 < slice_index r.numbers.items o
    cut_some = omega (arith, at_cut, degree_own)

    pub cut_ends : ended_at (slice_index r.numbers.items o) ≡ ended_in r.world o
    cut_ends = ap ended_at at_cut ∙ ap (λ (x : Option Script). ended_at (degree o (edges_by x es))) (sym run.begun)

    pub run_cut : (w : WorldView) (gained : List ℕ) (n : NumbersView) → w ≡ world_after gained
        → n.items ≡ slice_set r.numbers.items o (slice_index r.numbers.items o - 1) → IsStep r (run_of w n)
    run_cut w gained n is lowered =
        subst (λ (v : WorldView). IsStep r (run_of v n)) (sym is)
        (stepped gained n (grown gained n
        (record {
          size = ap length lowered ∙ size_lowered r.numbers.items o (slice_index r.numbers.items o - 1) ∙ run.numbers_are.size ∙ sym same_made;
          at = λ p h. omega (
            arith,
            ap (λ (xs : List ℕ). slice_index xs p) lowered,
            index_lowered r.numbers.items o p cut_made cut_some,
            degree_cut p,
            run.numbers_are.at p (omega (arith, same_made, h)),
          );
        })))

  -- ---- an action that takes none away

  module _ (cut : cut_of a ≡ None) where
    abbrev gained : List ℕ
    gained = gained_by (flow_in s t st a)

    gains_are : (p : ℕ) → gains p step.flow ≡ times p gained
    gains_are p = sym (ap (gains p) flow_is) ∙ (gains_are_listed s es e).listed p

    degree_gain : (p : ℕ) → degree p after.edges ≡ degree p st.edges + times p gained
    degree_gain p = omega (arith, degrees p, ap (one_cut p) cut, gains_are p)

    grows : (length after.parts.objects ≡ length st.parts.objects) ⊎ (length after.parts.objects ≡ length st.parts.objects + 1)
    grows =
        let size = ap (λ (x : State). length x.parts.objects) (grows_by s es e).after in
        elim (entry_adds s t st a).objects [
          | inl same ↦ inl (size ∙ same)
          | inr more ↦ inr (size ∙ more.1)
        ]

    -- an object that was not made has no number yet
    before_at : (p : ℕ) → slice_index r.numbers.items p ≡ degree p st.edges
    before_at p = elim (cases_lt p (length st.parts.objects)) [
      | inl here ↦ run.numbers_are.at p here
      | inr past ↦ index-past r.numbers.items p (omega (arith, run.numbers_are.size, past)) ∙ sym (none_unless (degree p st.edges) (length st.parts.objects) p (made_before p) (omega (arith, past)))
    ]

    pub made_is : (w : WorldView) (more : List ℕ) → w ≡ world_after more
        → made_by w.script w.journal ≡ length after.parts.objects
    made_is w more is =
        ap (λ (v : WorldView). made_by v.script v.journal) is ∙ ap (λ (x : Option Script). made_by x (es ++ e ∷ [])) run.begun

    pub made_least : length r.numbers.items ≤ length after.parts.objects
    made_least = elim grows [ inl e ↦ omega (arith, e, run.numbers_are.size) | inr e ↦ omega (arith, e, run.numbers_are.size) ]

    pub made_most : length after.parts.objects ≤ length r.numbers.items + 1
    made_most = elim grows [ inl e ↦ omega (arith, e, run.numbers_are.size) | inr e ↦ omega (arith, e, run.numbers_are.size) ]

    -- the numbers with one for the object that may be new
    module _ (now : List ℕ) (size : length now ≡ length after.parts.objects)
        (old : (p : ℕ) → p < length r.numbers.items → slice_index now p ≡ slice_index r.numbers.items p)
        (new : (p : ℕ) → length r.numbers.items ≤ p → p < length after.parts.objects → slice_index now p ≡ 0) where
      now_at : (p : ℕ) → p < length now → slice_index now p ≡ degree p st.edges
      now_at p h = elim (cases_lt p (length r.numbers.items)) [
        | inl here ↦ old p here ∙ before_at p
        | inr past ↦ new p (omega (arith, past)) (omega (arith, size, h)) ∙ sym (index-past r.numbers.items p (omega (arith, past))) ∙ before_at p
      ]

      pub gain_made : (p : ℕ) → 0 < times p gained → p < length now
      gain_made p some = omega (arith, size, made_after p (omega (arith, degree_gain p, some)))

      pub gain_fits : (p : ℕ) → p < length now → slice_index now p + length gained < 2 ^ 64
      gain_fits p h =
          omega (
            arith,
            now_at p h,
            (few_of_owned s es p run.owned).references run.few_modes,
            (gains_are_listed s es e).few,
            (few_of_legal s es run.serial.legal).objects,
            run.few_modes,
            run.within,
            run.most,
          )

      pub run_gained : (w : WorldView) (n : NumbersView) → w ≡ world_after gained
          → length n.items ≡ length now
          → ((p : ℕ) → p < length now → slice_index n.items p ≡ slice_index now p + times p gained) → IsStep r (run_of w n)
      run_gained w n is same at =
          subst (λ (v : WorldView). IsStep r (run_of v n)) (sym is)
          (stepped gained n (grown gained n
          (record {
            size = same ∙ size;
            at = λ p h. omega (arith, at p (omega (arith, size, h)), now_at p (omega (arith, size, h)), degree_gain p);
          })))

-- ---- the same of an action that may be done

pub some_act : (act : Option Action) (P : Action → Type 0) → IsSomeAnd act P → (a : Action) × ((act ≡ Some a) × P a)
some_act None P h = absurd h
some_act (Some a) P h = (a, (refl, h))

-- an action of the thread that is picked
pub record Acting (r : Run) (t : ℕ) (cut : Option ℕ) : Type 0 where
  pub action : Action
  pub acts : acting r.world t ≡ Some action
  pub cut_is : cut_of action ≡ cut

pub acting_of : (r : Run) (t : ℕ) (cut : Option ℕ) → ActsNext r t cut → Acting r t cut
acting_of r t cut h =
    let p = some_act (acting r.world t) (λ a. cut_of a ≡ cut) h.acts in
    record { action = p.0; acts = p.1.0; cut_is = p.1.1 }
