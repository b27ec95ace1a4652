-- A run where the pointer picks no thread: what the lead does, and the run after it.
use Rattle.std.proofs.Common.{◌≡◌, ℕ, ◌+◌, ◌-◌, ◌<◌, ◌≤◌, Bool, true, false, cond, ◌||◌, List, [], ◌∷◌, ◌++◌, length, length-append, Option, Some, None, eqb, refl, sym, ap, ◌∙◌, subst, arith, inl, inr, ◌⊎◌}
use Rattle.std.specs.Prelude.{IfSome}
use Rattle.std.specs.Option.{option_map}
use Rattle.std.proofs.lemmas.Bool.{and_parts}
use Rattle.std.proofs.lemmas.Bool.Decides.{nat_tests}
use Rattle.cf_ids.specs.declared.answer.Answer.TheVariants as answers
use Rattle.cf_syntax.specs.declared.script.Script.{Script}
use Rattle.cf_graph.specs.Edges.{degree}
use Rattle.cf_next.specs.declared.action.Action.{Action}
use Rattle.cf_next.specs.declared.action.Action.TheVariants as actions
use Rattle.cf_model.specs.declared.entry.Entry.{Entry}
use Rattle.cf_model.specs.declared.ending.Ending.TheVariants as endings
use Rattle.cf_model.specs.State.{State}
use Rattle.cf_model.specs.Journals.{After, IsLegal, IsWhole, all_done, all_sleep, due_date, has_stalled, is_none, is_stall, lead, lead_next, tick_or_stall}
use Rattle.cf_model.specs.Journals as journals
use Rattle.cf_model.specs.Serial.{moved_by, picked, picked_or_lead, pointer_of}
use Rattle.cf_model.proofs.Growth.{grows_by}
use Rattle.cf_model.proofs.Leading.{lead_tells}
use Rattle.cf_model.proofs.Numbering.{pointer_most}
use Rattle.cf_world.specs.declared.next.LeadNext.{LeadNext}
use Rattle.cf_world.specs.declared.next.LeadNext.TheVariants as leads
use Rattle.cf_world.specs.Worlds.{IsLegalWorld, IsTick, LegalBy, WorldView, lead_by, lead_in, lead_of, led}
use Rattle.cf_outside.specs.Times as clocks
use Rattle.cf_serial.specs.declared.run.Run.{Run}
use Rattle.cf_serial.specs.declared.run.Turn.{Turn}
use Rattle.cf_serial.specs.declared.run.Turn.TheVariants as turns
use Rattle.cf_serial.specs.Serial.{ClockFits}
use Rattle.cf_serial.specs.Running.{ClockKeeps, EndsBy, Goes, IsRun, IsStep, LeadsNext, lead_turn_by, picked_by, picks}
use Rattle.cf_serial.proofs.Timing.{fits_still, fits_tick, stall_still}

-- ---- what the lead does next, by the state

lead_over : (n : journals.LeadNext) → lead_of n ≡ leads.Over → n ≡ journals.over
lead_over journals.over e = refl
lead_over journals.busy e = absurd cc
lead_over (journals.ticks d) e = absurd cc
lead_over journals.stalls e = absurd cc

lead_busy : (n : journals.LeadNext) → lead_of n ≡ leads.Busy → n ≡ journals.busy
lead_busy journals.over e = absurd cc
lead_busy journals.busy e = refl
lead_busy (journals.ticks d) e = absurd cc
lead_busy journals.stalls e = absurd cc

lead_ticks : (n : journals.LeadNext) (date : ℕ) → lead_of n ≡ leads.Tick date → n ≡ journals.ticks date
lead_ticks journals.over date e = absurd cc
lead_ticks journals.busy date e = absurd cc
lead_ticks (journals.ticks d) date e = let same : d ≡ date = cc in ap (λ (m : ℕ). journals.ticks m) same
lead_ticks journals.stalls date e = absurd cc

lead_stalls : (n : journals.LeadNext) → lead_of n ≡ leads.Stall → n ≡ journals.stalls
lead_stalls journals.over e = absurd cc
lead_stalls journals.busy e = absurd cc
lead_stalls (journals.ticks d) e = absurd cc
lead_stalls journals.stalls e = refl

-- a date is due where the lead ticks
date_if : (o : Option ℕ) (date : ℕ) → tick_or_stall o ≡ journals.ticks date → o ≡ Some date
date_if None date e = absurd cc
date_if (Some d) date e = let same : d ≡ date = cc in ap (λ (m : ℕ). Some m) same

due_if : (over asleep : Bool) (o : Option ℕ) (date : ℕ)
    → cond over journals.over (cond asleep (tick_or_stall o) journals.busy) ≡ journals.ticks date → o ≡ Some date
due_if true asleep o date e = absurd cc
due_if false true o date e = date_if o date e
due_if false false o date e = absurd cc

-- the lead does nothing after a stall
over_if : (done stalled : Bool) (next : journals.LeadNext)
    → (cond (done || stalled) journals.over next ≡ journals.over) ⊎ (stalled ≡ false)
over_if true stalled next = inl refl
over_if false true next = inl refl
over_if false false next = inr refl

goes_unstalled : (s : Script) (es : List Entry) (n : journals.LeadNext) → lead_next s es ≡ n → (n ≡ journals.over → ⊥)
    → has_stalled es ≡ false
goes_unstalled s es n e not_over = elim (over_if (all_done s (After s es)) (has_stalled es) (cond (all_sleep s (After s es)) (tick_or_stall (due_date s (After s es))) journals.busy)) [
  | inl o ↦ absurd (not_over (sym e ∙ o))
  | inr f ↦ f
]

same_script : (s script : Script) → ◌≡◌ {A = Option Script} (Some s) (Some script) → s ≡ script
same_script s script e = cc

no_both : (b : Bool) → b ≡ true → b ≡ false → ⊥
no_both true e q = absurd cc
no_both false e q = absurd cc

module _ (r : Run) (run : IsRun r) (none : picks r ≡ None) where
  abbrev s : Script
  s = run.script

  abbrev es : List Entry
  es = r.world.journal

  abbrev st : State
  st = After s es

  none_here : picked s st (pointer_of s es) ≡ None
  none_here =
      ap (λ (p : ℕ). picked s st p) (sym run.pointer_is) ∙ ap (λ (o : Option Script). picked_by o es r.pointer) (sym run.begun) ∙ none

  lead_is : lead_of (lead_next s es) ≡ lead_in r.world
  lead_is = ap (λ (o : Option Script). lead_by o es) (sym run.begun)

  -- ---- endings

  ends_by : (ending : _) → EndsBy (Some s) r.world.limit es ending → EndsBy r.world.script r.world.limit es ending
  ends_by ending h = subst (λ (o : Option Script). EndsBy o r.world.limit es ending) (sym run.begun) h

  over_if_stalled : (b : Bool) → r.stalled ≡ b → lead_next s es ≡ journals.over
      → Goes r (lead_turn_by leads.Over b (r.world.limit - length es))
  over_if_stalled true e over = ends_by endings.Stalled ((sym run.stalled_is ∙ e), tt)
  over_if_stalled false e over = ends_by endings.Done ((lead_tells s es).whole run.owned run.serial.legal (sym run.stalled_is ∙ e) over, tt)

  not_whole : (n : journals.LeadNext) → lead_next s es ≡ n → (n ≡ journals.over → ⊥) → IsWhole s es → ⊥
  not_whole n e not_over whole = not_over (sym e ∙ (lead_tells s es).ended whole)

  below_if : (n : journals.LeadNext) (b : Bool) (turn : Turn) → lead_next s es ≡ n → (n ≡ journals.over → ⊥)
      → eqb (r.world.limit - length es) 0 ≡ b → (length es < r.world.limit → Goes r turn)
      → Goes r (cond b (turns.Over endings.Limit) turn)
  below_if n true turn e not_over full goes =
      let reached : r.world.limit - length es ≡ 0 = grind (arith, nat_tests) in
      ends_by endings.Limit ((goes_unstalled s es n e not_over, not_whole n e not_over, omega (arith, reached, run.within)), tt)
  below_if n false turn e not_over full goes =
      let some : 0 < r.world.limit - length es = grind (arith, nat_tests) in
      goes (omega (arith, some))

  goes_by : (lead : LeadNext) → lead_in r.world ≡ lead
      → Goes r (lead_turn_by lead r.stalled (r.world.limit - length es))
  goes_by leads.Over e = over_if_stalled r.stalled refl (lead_over (lead_next s es) (lead_is ∙ e))
  goes_by leads.Busy e = absurd ((lead_tells s es).waits (pointer_of s es) (pointer_most s es) none_here (lead_busy (lead_next s es) (lead_is ∙ e)))
  goes_by (leads.Tick date) e =
      below_if (journals.ticks date) (eqb (r.world.limit - length es) 0) (turns.Ticks date) (lead_ticks (lead_next s es) date (lead_is ∙ e)) (λ q. cc) refl
      (λ below. record { none = none; leads = e; below = below })
  goes_by leads.Stall e =
      below_if journals.stalls (eqb (r.world.limit - length es) 0) turns.Stalls (lead_stalls (lead_next s es) (lead_is ∙ e)) (λ q. cc) refl
      (λ below. record { none = none; leads = e; below = below })

  pub lead_goes : Goes r (lead_turn_by (lead_in r.world) r.stalled (r.world.limit - length es))
  lead_goes = goes_by (lead_in r.world) refl

  -- ---- an entry of the lead

  module _ (a : Action) (below : length es < r.world.limit) (legal : IsLegalWorld (led a r.world)) (unstalled : has_stalled es ≡ false) where
    abbrev e : Entry
    e = record { thread = lead; action = a; answer = answers.Ok }

    legal_now : IsLegal s (es ++ e ∷ [])
    legal_now = (subst (λ (o : Option Script). LegalBy o (es ++ e ∷ [])) run.begun legal).1

    stalled_now : has_stalled (es ++ e ∷ []) ≡ is_stall a
    stalled_now = (grows_by s es e).stalled ∙ ap (λ (b : Bool). b || is_stall a) unstalled

    abbrev run_of : Bool → Run
    run_of stalled = record { world = led a r.world; threads = r.threads; pointer = r.pointer; numbers = r.numbers; stalled = stalled }

    after_lead : (next : State) (stalled : Bool) → After s (es ++ e ∷ []) ≡ next → next.edges ≡ st.edges
        → next.parts.objects ≡ st.parts.objects → stalled ≡ is_stall a → (is_stall a ≡ true → all_sleep s next ≡ true)
        → IsStep r (run_of stalled)
    after_lead next stalled is edges objects mark asleep = record {
      run = record {
        script = s;
        begun = run.begun;
        owned = run.owned;
        most = run.most;
        within = omega (arith, below, length-append es (e ∷ []));
        serial = record {
          legal = legal_now;
          order = (grows_by s es e).order run.serial.order (ap picked_or_lead (sym none_here));
        };
        threads_are = run.threads_are;
        few_threads = run.few_threads;
        stalled_is = mark ∙ sym stalled_now;
        asleep = λ h. subst (λ (x : State). all_sleep s x ≡ true) (sym is) (asleep (sym stalled_now ∙ h));
        pointer_is = run.pointer_is ∙ sym ((grows_by s es e).pointer ∙ ap (moved_by (pointer_of s es)) none_here);
        numbers_are = record {
          size = run.numbers_are.size ∙ ap length (sym objects) ∙ ap (λ (x : State). length x.parts.objects) (sym is);
          at = λ o h. run.numbers_are.at o (omega (arith, h, ap (λ (x : State). length x.parts.objects) is, ap length objects))
              ∙ ap (degree o) (sym edges) ∙ ap (λ (x : State). degree o x.edges) (sym is);
        };
        few_modes = run.few_modes;
      };
      script = refl;
      limit = refl;
      more = length-append es (e ∷ []);
    }

  -- a stall
  module _ (h : LeadsNext r leads.Stall) (w : WorldView) (is : w ≡ led actions.Stall r.world) (legal : IsLegalWorld w) where
    stalls_here : lead_next s es ≡ journals.stalls
    stalls_here = lead_stalls (lead_next s es) (lead_is ∙ h.leads)

    abbrev stall_run : WorldView → Run
    stall_run v = record { world = v; threads = r.threads; pointer = r.pointer; numbers = r.numbers; stalled = true }

    pub run_stalled : IsStep r (stall_run w)
    run_stalled =
        subst (λ (v : WorldView). IsStep r (stall_run v)) (sym is)
        (after_lead actions.Stall h.below (subst IsLegalWorld is legal) (goes_unstalled s es journals.stalls stalls_here (λ q. cc)) st true
        ((grows_by s es (record { thread = lead; action = actions.Stall; answer = answers.Ok })).after) refl refl refl
        (λ q. (and_parts (all_sleep s st) (is_none (due_date s st)) ((lead_tells s es).stall stalls_here)).0))

    pub clock_stalled : (now : Option (List ℕ)) → ClockKeeps r (stall_run w) now now
    clock_stalled now script before begun fits =
        subst (λ (v : WorldView). ClockFits script v.journal before now) (sym is)
        (fits_still script es (record { thread = lead; action = actions.Stall; answer = answers.Ok }) before now stall_still fits)

  -- a tick
  module _ (date time : ℕ) (h : LeadsNext r (leads.Tick date)) where
    ticks_here : lead_next s es ≡ journals.ticks date
    ticks_here = lead_ticks (lead_next s es) date (lead_is ∙ h.leads)

    pub tick_due : date ≤ time → IsTick (lead_in r.world) time
    tick_due le = subst (λ (n : LeadNext). IsTick n time) (sym h.leads) le

    module _ (w : WorldView) (is : w ≡ led (actions.Tick time) r.world) (legal : IsLegalWorld w) where
      abbrev tick_run : WorldView → Run
      tick_run v = record { world = v; threads = r.threads; pointer = r.pointer; numbers = r.numbers; stalled = r.stalled }

      pub run_ticked : IsStep r (tick_run w)
      run_ticked =
          let unstalled = goes_unstalled s es (journals.ticks date) ticks_here (λ q. cc) in
          subst (λ (v : WorldView). IsStep r (tick_run v)) (sym is)
          (after_lead (actions.Tick time) h.below (subst IsLegalWorld is legal) unstalled (journals.ticked time st) r.stalled
          ((grows_by s es (record { thread = lead; action = actions.Tick time; answer = answers.Ok })).after) refl refl
          (run.stalled_is ∙ unstalled) (λ q. absurd (no_both false q refl)))

      pub clock_ticked : (now next : Option (List ℕ)) → IfSome now (λ ts. time ≡ clocks.reached date ts)
          → next ≡ option_map clocks.times_left now → ClockKeeps r (tick_run w) now next
      clock_ticked now next reached left script before begun fits =
          let due = due_if (all_done s st || has_stalled es) (all_sleep s st) (due_date s st) date ticks_here in
          let same : s ≡ script = same_script s script (sym run.begun ∙ begun) in
          subst (λ (v : WorldView). ClockFits script v.journal before next) (sym is)
          (fits_tick script es (record { thread = lead; action = actions.Tick time; answer = answers.Ok }) before now next date time refl
          (subst (λ (x : Script). due_date x (After x es) ≡ Some date) same due) reached left fits)
