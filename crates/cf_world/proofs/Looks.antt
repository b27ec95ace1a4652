-- What a thread does next, as it is looked up.
use Rattle.std.proofs.Common.{◌≡◌, ℕ, ◌+◌, ◌-◌, ◌<◌, ◌≤◌, ◌∙◌, Bool, true, false, cond, List, [], ◌∷◌, length, Option, Some, None, Ok, refl, sym, ap, subst, arith}
use Rattle.std.proofs.lemmas.Bool.Decides.{nat_tests}
use Rattle.std.specs.Prelude.{not, ◌&&◌, nat_le, IsTrue, slice_get}
use Rattle.std.specs.Option.{option_map}
use Rattle.cf_syntax.specs.declared.script.Script.{Script}
use Rattle.cf_syntax.specs.declared.statement.Statement.{Statement}
use Rattle.cf_syntax.specs.BlockLines.{says}
use Rattle.cf_next.specs.declared.action.Action.{Action}
use Rattle.cf_next.specs.declared.step.Step.{Step}
use Rattle.cf_next.specs.declared.step.Step.TheVariants as steps
use Rattle.cf_next.specs.Facts.{Facts}
use Rattle.cf_next.specs.Stands.{Frame, Stand}
use Rattle.cf_next.specs.Demands.{Demand, demand, work_demand, call_demand, kind_demand, or_else, frame_demand}
use Rattle.cf_next.specs.Next.{action_in, action_if, block_of, lines_before, top_frame}
use Rattle.cf_next.specs.Standing.{Standing}
use Rattle.cf_next.specs.Steps.{IsStep, IsLine, demand_of}
use Rattle.cf_next.specs.Ahead.{ahead}
use Rattle.cf_model.specs.declared.entry.Entry.{Entry}
use Rattle.cf_model.specs.State.{State, flags_at, stand_at}
use Rattle.cf_model.specs.Known.{facts_of}
use Rattle.cf_model.specs.Coming.{next_retains}
use Rattle.cf_model.specs.Steps.{demanded}
use Rattle.cf_model.specs.Journals.{After, Next, can_go, makes, makes_line, sleeps}
use Rattle.cf_world.specs.Worlds.{next_below, next_of}
use Rattle.cf_world.specs.Grounds.{GroundView, MayRun, known, state_of, statement_at}
use Rattle.cf_world.specs.Entering.{MayAct}
use Rattle.cf_world.specs.Kept.{IsKept, IsPlaced}
use Rattle.cf_world.specs.declared.next.Next.TheVariants as nexts
use Rattle.cf_world.specs.declared.found.Reserved.{Reserved}
use Rattle.cf_world.specs.Begun.{AreFrames, IsLooked, standing_at}
use Rattle.cf_world.proofs.Moving.{stand_here}
use Rattle.cf_next.proofs.StatementLaws.{frame_statement}

-- ---- a thread that demands nothing is done

none_left : (work call : Option Demand) (d : Demand) → or_else work (or_else call (Some d)) ≡ None → ⊥
none_left (Some w) call d e = cc
none_left None (Some c) d e = cc
none_left None None d e = cc

pub none_is_done : (s : Script) (facts : Facts) (t : ℕ) (stand : Stand) (f : Frame) (fs : List Frame)
    → stand.frames ≡ f ∷ fs → demand s facts t stand ≡ None → stand.is_done ≡ true
none_is_done s facts t stand f fs e none = by stand.is_done (subst (λ (gs : List Frame). cond stand.is_done None (or_else (work_demand facts stand.work) (frame_demand s facts t gs)) ≡ None) e none)
  where
    by : (b : Bool) → cond b None (or_else (work_demand facts stand.work) (frame_demand s facts t (f ∷ fs))) ≡ None
        → b ≡ true
    by true q = refl
    by false q = absurd (none_left (work_demand facts stand.work) (call_demand facts t f.kind f.collected) (kind_demand s facts t f.kind f.block f.number) q)

pub some_not_done : (s : Script) (facts : Facts) (t : ℕ) (stand : Stand) (d : Demand) → demand s facts t stand ≡ Some d
    → stand.is_done ≡ false
some_not_done s facts t stand d e = by stand.is_done e
  where
    by : (b : Bool)
        → cond b None (or_else (work_demand facts stand.work) (frame_demand s facts t stand.frames)) ≡ Some d
        → b ≡ false
    by true q = absurd cc
    by false q = refl

-- ---- what the world says of it

if_not : (b c : Bool) → b ≡ c → not b ≡ not c
if_not b c e = ap not e

module _ (s : Script) (limit : ℕ) (es : List Entry) (t : ℕ) where
  abbrev st : State
  st = After s es

  pub look_waiting : (flags_at t st.parts.flags).is_started ≡ false → nexts.Waiting ≡ next_of s limit es t
  look_waiting e = rw e refl

  module _ (started : (flags_at t st.parts.flags).is_started ≡ true) where
    pub look_done : (stand_at t st.stands).is_done ≡ true → nexts.Done ≡ next_of s limit es t
    look_done done = rw (started, done) refl

    module _ (going : (stand_at t st.stands).is_done ≡ false) where
      pub look_asleep : sleeps st t ≡ true → nexts.Asleep ≡ next_of s limit es t
      look_asleep asleep = rw (started, going, asleep) refl

      module _ (awake : sleeps st t ≡ false) where
        pub goes : can_go st t ≡ true
        goes = rw (started, going, awake) refl

        module _ (a : Action) (is : Next s st t ≡ Some a) where
          below_is : next_of s limit es t ≡ next_below s limit es t a
          below_is = rw (is, started, going, awake) refl

          pub look_limit : limit ≤ length es → nexts.Limit ≡ next_of s limit es t
          look_limit h = let at : nat_le limit (length es) ≡ true = grind (arith, nat_tests) in sym (below_is ∙ rw at refl)

          module _ (short : length es < limit) where
            below : nat_le limit (length es) ≡ false
            below = grind (arith, nat_tests)

            pub look_full : makes s st t ≡ true → nat_le 65536 (length st.parts.objects) ≡ true
                → nexts.Full ≡ next_of s limit es t
            look_full m full = sym (below_is ∙ rw (below, m, full) refl)

            pub look_acts : (makes s st t && nat_le 65536 (length st.parts.objects)) ≡ false
                → next_of s limit es t ≡ nexts.Act a
            look_acts room = below_is ∙ rw (below, room) refl

-- ---- what a look finds

module _ (g : GroundView) (limit t : ℕ) where
  abbrev was : State
  was = state_of g

  abbrev stand : Stand
  stand = stand_at t was.stands

  pub looked_waiting : (flags_at t was.parts.flags).is_started ≡ false
      → nexts.Waiting ≡ next_of g.script limit g.journal t
  looked_waiting e = look_waiting g.script limit g.journal t e

  pub looked_done : (flags_at t was.parts.flags).is_started ≡ true → stand.is_done ≡ true
      → nexts.Done ≡ next_of g.script limit g.journal t
  looked_done e done = look_done g.script limit g.journal t e done

  pub looked_asleep : (flags_at t was.parts.flags).is_started ≡ true → stand.is_done ≡ false → sleeps was t ≡ true
      → nexts.Asleep ≡ next_of g.script limit g.journal t
  looked_asleep e going asleep = look_asleep g.script limit g.journal t e going asleep

  module _ (started : (flags_at t was.parts.flags).is_started ≡ true) (awake : sleeps was t ≡ false) (d : Demand) (demands : demanded g.script was t ≡ Some d) where
    going : stand.is_done ≡ false
    going = some_not_done g.script (facts_of was) t stand d demands

    abbrev act : Action
    act = action_in g.script (facts_of was) t stand.frames d

    next_act : Next g.script was t ≡ Some act
    next_act = subst (λ (o : Option Demand). cond (can_go was t) (action_if g.script (facts_of was) t stand.frames o) None ≡ Some act) (sym demands) (rw (started, going, awake) refl)

    pub looked_limit : limit ≤ length g.journal → nexts.Limit ≡ next_of g.script limit g.journal t
    looked_limit at = look_limit g.script limit g.journal t started going awake act next_act at

    module _ (short : length g.journal < limit) where
      pub looked_full : makes_line (Some d) ≡ true → nat_le 65536 (length was.parts.objects) ≡ true
          → nexts.Full ≡ next_of g.script limit g.journal t
      looked_full m full = look_full g.script limit g.journal t started going awake act next_act short (ap makes_line demands ∙ m) full

      module _ (runs : MayRun g.script) (within : t < g.script.thread_count) (most : limit ≤ 4000000) (room : limit ≤ length g.journal + g.journal_room)
          (few : (makes_line (Some d) && nat_le 65536 (length was.parts.objects)) ≡ false) where
        few_made : (m : Bool) (n : ℕ) → (m && nat_le 65536 n) ≡ false → IsTrue m → n < 65536
        few_made true n e h = grind (arith, nat_tests)
        few_made false n e h = absurd cc

        pub looked_acts : (r : Reserved) → r.thread ≡ t → r.action ≡ act
            → IsKept g.script (facts_of was) t stand r.found → IsLooked g limit t (Ok tt) r
        looked_acts r thread action kept = (
          record {
            runs = runs;
            kept = subst (λ (u : ℕ). IsKept g.script (facts_of was) u (stand_at u was.stands) r.found) (sym thread) kept;
            acts = subst (λ (u : ℕ). MayAct g u r.action) (sym thread) (subst (MayAct g t) (sym action) (record {
              thread = within;
              next = next_act;
              few = few_made (makes g.script was t) (length was.parts.objects) (ap (λ (o : Option Demand). makes_line o && nat_le 65536 (length was.parts.objects)) demands ∙ few);
              room = omega (arith, short, room);
              short = omega (arith, short, most);
            }));
          },
          thread,
          look_acts g.script limit g.journal t started going awake act next_act short (ap (λ (o : Option Demand). makes_line o && nat_le 65536 (length was.parts.objects)) demands ∙ few)
              ∙ ap (λ (a : Action). nexts.Act a) (sym action),
        )

-- ---- what is ahead

module _ (s : Script) (st : State) (t k : ℕ) where
  none_at : (os : List ℕ) → os ≡ [] → None ≡ slice_get os k
  none_at os e = subst (λ (qs : List ℕ). None ≡ slice_get qs k) (sym e) refl

  pub none_ahead_waiting : (flags_at t st.parts.flags).is_started ≡ false → None ≡ slice_get (next_retains s st t) k
  none_ahead_waiting e = none_at (next_retains s st t) (rw e refl)

  pub none_ahead_asleep : (flags_at t st.parts.flags).is_started ≡ true → sleeps st t ≡ true
      → None ≡ slice_get (next_retains s st t) k
  none_ahead_asleep started asleep = none_at (next_retains s st t) (by (stand_at t st.stands).is_done)
    where
      by : (b : Bool)
          → cond ((flags_at t st.parts.flags).is_started && not b && not (sleeps st t)) (ahead s (facts_of st) t (stand_at t st.stands)) [] ≡ []
      by true = rw started refl
      by false = rw (started, asleep) refl

  pub ahead_goes : (flags_at t st.parts.flags).is_started ≡ true → sleeps st t ≡ false
      → ahead s (facts_of st) t (stand_at t st.stands) ≡ next_retains s st t
  ahead_goes started awake = by (stand_at t st.stands).is_done refl
    where
      by : (b : Bool) → (stand_at t st.stands).is_done ≡ b
          → ahead s (facts_of st) t (stand_at t st.stands) ≡ next_retains s st t
      by true e = rw (started, awake, e) refl
      by false e = rw (started, awake, e) refl

-- ---- what the frames of a thread find

module _ (g : GroundView) (t : ℕ) (frames : List Standing) (so : AreFrames g.script (state_of g) frames) (within : t < g.script.thread_count) (runs : MayRun g.script) (f : Standing) (is : f ≡ standing_at frames t) where
  abbrev now : State
  now = state_of g

  thread_is : f.thread ≡ t
  thread_is = ap (λ (h : Standing). h.thread) is ∙ so.thread t within

  stand_is : f.stand ≡ stand_at t now.stands
  stand_is = ap (λ (h : Standing). h.stand) is ∙ stand_here g.script now.stands frames t so

  -- what is said of the frames is said of the thread
  here : (P : Script → ℕ → Stand → Type 0) (script : Script) → script ≡ g.script → P script f.thread f.stand
      → P g.script t (stand_at t now.stands)
  here P script same h = subst (P g.script t) stand_is (subst (λ (u : ℕ). P g.script u f.stand) thread_is (subst (λ (s : Script). P s f.thread f.stand) same h))

  pub demand_here : (script : Script) (x : Option Step) → script ≡ g.script
      → option_map demand_of x ≡ demand script (known g) f.thread f.stand
      → option_map demand_of x ≡ demanded g.script now t
  demand_here script x same e = here (λ s u stand. option_map demand_of x ≡ demand s (known g) u stand) script same e

  pub step_found : (script : Script) (x : Step) → script ≡ g.script → IsStep script (known g) f.thread f.stand x
      → IsStep g.script (facts_of now) t (stand_at t now.stands) x
  step_found script x same h = here (λ s u stand. IsStep s (known g) u stand x) script same h

  pub block_here : (script : Script) (b : ℕ) → script ≡ g.script
      → b ≡ block_of script (top_frame f.stand.frames).kind (top_frame f.stand.frames).block
      → b ≡ block_of g.script (top_frame (stand_at t now.stands).frames).kind (top_frame (stand_at t now.stands).frames).block
  block_here script b same e = here (λ s u stand. b ≡ block_of s (top_frame stand.frames).kind (top_frame stand.frames).block) script same e

  pub action_here : (script : Script) (a : Action) (d : Demand) → script ≡ g.script
      → a ≡ action_in script (known g) f.thread f.stand.frames d
      → a ≡ action_in g.script (facts_of now) t (stand_at t now.stands).frames d
  action_here script a d same e = here (λ s u stand. a ≡ action_in s (known g) u stand.frames d) script same e

  -- there is a frame, and so a thread that demands nothing is done
  pub done_here : (depth : ℕ) → length f.stand.frames ≡ depth + 1 → demanded g.script now t ≡ None
      → (stand_at t now.stands).is_done ≡ true
  done_here depth some e = by (stand_at t now.stands).frames refl
    where
      by : (fs : List Frame) → (stand_at t now.stands).frames ≡ fs → (stand_at t now.stands).is_done ≡ true
      by [] none = absurd (omega (arith, some, ap (λ (x : Stand). length x.frames) stand_is, ap length none))
      by (top ∷ rest) there = none_is_done g.script (facts_of now) t (stand_at t now.stands) top rest there e

  -- a thread that is not done does something next
  pub goes_here : (limit depth : ℕ) → length f.stand.frames ≡ depth + 1 → (flags_at t now.parts.flags).is_started ≡ true → sleeps now t ≡ false
      → (stand_at t now.stands).is_done ≡ false
      → limit ≤ length g.journal → nexts.Limit ≡ next_of g.script limit g.journal t
  goes_here limit depth some started awake going at = by (demanded g.script now t) refl
    where
      by : (o : Option Demand) → demanded g.script now t ≡ o → nexts.Limit ≡ next_of g.script limit g.journal t
      by None e = let both = sym (done_here depth some e) ∙ going in absurd cc
      by (Some d) e = looked_limit g limit t started awake d e at

  pub is_done_here : (b : Bool) → b ≡ f.stand.is_done → b ≡ (stand_at t now.stands).is_done
  is_done_here b e = e ∙ ap (λ (stand : Stand). stand.is_done) stand_is

  line_there : (fs : List Frame) (x : Statement) (n b : ℕ) → IsLine g.script (says x) fs
      → n ≡ (top_frame fs).number - lines_before g.script (top_frame fs).kind (top_frame fs).block
      → b ≡ block_of g.script (top_frame fs).kind (top_frame fs).block → statement_at g.script b n ≡ Some x
  line_there [] x n b line number block = absurd line
  line_there (top ∷ rest) x n b line number block =
      rw (number, block) (frame_statement g.script top.kind top.block top.number x line)

  pub placed_here : (x : Step) (b : ℕ) → IsStep g.script (facts_of now) t (stand_at t now.stands) x
      → b ≡ block_of g.script (top_frame (stand_at t now.stands).frames).kind (top_frame (stand_at t now.stands).frames).block → IsPlaced g.script b x
  placed_here (steps.Says y used n) b h block =
      line_there (stand_at t now.stands).frames y.now n b h.line.0 h.line.1.numbered block
  placed_here _ b h block = tt

pub few_first : (m n : Bool) → m ≡ false → (m && n) ≡ false
few_first true n e = absurd cc
few_first false n e = refl

pub few_second : (m n : Bool) → n ≡ false → (m && n) ≡ false
few_second true n e = e
few_second false n e = refl
