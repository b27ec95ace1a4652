-- What an entry of a thread leaves of where the threads stand.
use Rattle.std.proofs.Common.{◌≡◌, ℕ, zero, suc, ◌<◌, ◌≤◌, ◌∙◌, ◌⊎◌, Bool, true, false, cond, List, [], ◌∷◌, ◌++◌, length, map, Option, Some, None, get_or, set, refl, sym, ap, subst, arith, inl, inr}
use Rattle.std.proofs.lemmas.List.{length-set, get_or_default, get_or-set_same, get_or-set_other}
use Rattle.std.proofs.lemmas.Bool.{cases_eq}
use Rattle.std.specs.Prelude.{◌&&◌, ◌==◌, IfSome}
use Rattle.std.specs.List.{All}
use Rattle.cf_ids.specs.Ranges.{IsObjectNumber}
use Rattle.cf_ids.specs.declared.answer.Answer.{Answer}
use Rattle.cf_syntax.specs.declared.script.Script.{Script}
use Rattle.cf_syntax.proofs.BlockLaws.{owned_fits}
use Rattle.cf_next.specs.declared.action.Action.{Action}
use Rattle.cf_next.specs.Stands.{Stand, stop_stand}
use Rattle.cf_next.specs.Standing.{Standing, HasRoom, HasRoomFor, is_retain}
use Rattle.cf_next.specs.declared.step.Step.{Step as Found}
use Rattle.cf_next.specs.Steps.{IsStep as Demands, StepRoom, StepLists, is_retain_step, step_posts}
use Rattle.cf_next.specs.Facts.{Facts}
use Rattle.cf_next.specs.Demands.{Demand}
use Rattle.cf_next.specs.Advance.{advanced}
use Rattle.cf_next.specs.Next.{action_in}
use Rattle.cf_model.specs.declared.entry.Entry.{Entry}
use Rattle.cf_model.specs.State.{State, at_or, with_at, blank, stand_at, with_stand}
use Rattle.cf_model.specs.Known.{facts_of}
use Rattle.cf_model.specs.Steps.{Step, step_of, frames_at, step_answer, step_finals, stopped_at, demanded, acted, done_by, answer_if}
use Rattle.cf_model.specs.Journals.{After, IsLegalAs, Next}
use Rattle.cf_model.proofs.Acting.{next_is}
use Rattle.cf_model.proofs.Entries.{IsStep, ActionView, is_tick, is_stall, is_step, action_view}
use Rattle.cf_model.proofs.Growth.{after-more}
use Rattle.cf_model.proofs.Sound.{sound}
use Rattle.cf_model.proofs.OwnedNext.{legal_next}
use Rattle.cf_world.specs.Worlds.{entry_of}
use Rattle.cf_world.specs.Grounds.{GroundView, state_of, MayRun}
use Rattle.cf_world.specs.Entering.{MayAct, HasEntered}
use Rattle.cf_world.specs.Begun.{most_listed, nobody, standing_at, StandSo, AreFrames, HasMoved, HasGone, IsFound}
use Rattle.cf_world.specs.declared.found.Reserved.{Reserved}

-- ---- where one of several stands

pub stand_is : (frames : List Standing) (t : ℕ)
    → (get_or frames t nobody).stand ≡ at_or blank t (map (λ (f : Standing). f.stand) frames)
stand_is [] zero = refl
stand_is [] (suc t) = refl
stand_is (f ∷ fs) zero = refl
stand_is (f ∷ fs) (suc t) = stand_is fs t

pub stand_here : (s : Script) (stands : List Stand) (frames : List Standing) (t : ℕ) → StandSo s stands frames
    → (standing_at frames t).stand ≡ stand_at t stands
stand_here s stands frames t h = stand_is frames t ∙ ap (stand_at t) h.stand

pub stand_set : (frames : List Standing) (t : ℕ) (f : Standing) → t < length frames
    → map (λ (g : Standing). g.stand) (set frames t f) ≡ with_at blank t f.stand (map (λ (g : Standing). g.stand) frames)
stand_set [] t f h = absurd (omega arith)
stand_set (g ∷ gs) zero f h = refl
stand_set (g ∷ gs) (suc t) f h = ap (λ (ss : List Stand). g.stand ∷ ss) (stand_set gs t f (omega arith))

-- one of the frames, as it is lent
pub lent_here : (frames : List Standing) (t i : ℕ) (f d : Standing) → f ≡ get_or frames i d → i ≡ t → t < length frames
    → f ≡ standing_at frames t
lent_here frames t i f d is same within = is ∙ ap (λ (k : ℕ). get_or frames k d) same ∙ get_or_default frames t d nobody within

-- one of them has another stand
pub moved_by : (s : Script) (stands : List Stand) (frames : List Standing) (t : ℕ) (f : Standing) (stand : Stand)
    → StandSo s stands frames → t < length frames
    → f.thread ≡ t → f.stand ≡ stand → HasMoved s stands t stand (set frames t f)
moved_by s stands frames t f stand h within thread is = record {
  count = length-set frames t f ∙ h.count;
  thread = λ u below. by u below (cases_eq u t);
  stand = stand_set frames t f within ∙ ap (λ (x : Stand). with_at blank t x (map (λ (g : Standing). g.stand) frames)) is ∙ ap (with_at blank t stand) h.stand;
}
  where
    by : (u : ℕ) → u < s.thread_count → (u ≡ t) ⊎ (u ≡ t → ⊥) → (get_or (set frames t f) u nobody).thread ≡ u
    by u below (inl e) = ap (λ (v : ℕ). (get_or (set frames t f) v nobody).thread) e ∙ ap (λ (g : Standing). g.thread) (get_or-set_same frames t f nobody within) ∙ thread ∙ sym e
    by u below (inr n) = ap (λ (g : Standing). g.thread) (get_or-set_other frames t u f nobody n) ∙ h.thread u below

-- the run of one of them is told to stop
pub within_some : (stopped : Option ℕ) (u : ℕ) (frames : List Standing) → stopped ≡ Some u
    → IfSome stopped (λ v. v < length frames) → u < length frames
within_some stopped u frames is h = subst (λ (o : Option ℕ). IfSome o (λ v. v < length frames)) is h

pub stopped_by : (s : Script) (stands : List Stand) (frames : List Standing) (u i : ℕ) (stopped : Option ℕ) (f : Standing)
    → StandSo s stands frames → u < length frames → stopped ≡ Some u → i ≡ u
    → f.thread ≡ (standing_at frames u).thread → f.stand ≡ stop_stand (standing_at frames u).stand
    → StandSo s (stopped_at stopped stands) (set frames i f)
stopped_by s stands frames u i stopped f so within is same thread stand =
    subst (λ (k : ℕ). StandSo s (stopped_at stopped stands) (set frames k f)) (sym same)
    (subst (λ (o : Option ℕ). StandSo s (stopped_at o stands) (set frames u f)) (sym is)
    (moved_by s stands frames u f (stop_stand (stand_at u stands)) so within
    (thread ∙ so.thread u (subst (λ (n : ℕ). u < n) so.count within)) (stand ∙ ap stop_stand (stand_here s stands frames u so))))

-- what a thread demands it demands where it stands
module _ (s : Script) (stands : List Stand) (frames : List Standing) (t : ℕ) (h : StandSo s stands frames) (within : t < s.thread_count) where
  pub within_frames : t < length frames
  within_frames = omega (arith, h.count, within)

  abbrev here : Standing
  here = standing_at frames t

  pub step_here : (facts : Facts) (x : Found) → Demands s facts t (stand_at t stands) x
      → Demands s facts here.thread here.stand x
  step_here facts x d =
      subst (λ (u : ℕ). Demands s facts u here.stand x) (sym (h.thread t within))
      (subst (λ (stand : Stand). Demands s facts t stand x) (sym (stand_here s stands frames t h)) d)

  pub go_moves : (facts : Facts) (d : Demand) (answer : Answer) (finals list : List ℕ) (f : Standing)
      → f.thread ≡ here.thread
      → f.stand ≡ advanced facts here.thread d answer finals list here.stand
      → HasMoved s stands t (advanced facts t d answer finals list (stand_at t stands)) (set frames t f)
  go_moves facts d answer finals list f thread is =
      moved_by s stands frames t f (advanced facts t d answer finals list (stand_at t stands)) h within_frames (thread ∙ h.thread t within)
      (is ∙ ap (λ (u : ℕ). advanced facts u d answer finals list here.stand) (h.thread t within)
      ∙ ap (advanced facts t d answer finals list) (stand_here s stands frames t h))

-- ---- room

if_room : (b : Bool) (P : Type 0) → P → cond b (Unit {0}) P
if_room true P h = tt
if_room false P h = h

pub room_of_step : (x : Found) (n : ℕ) (f : Standing) → HasRoom n f → StepRoom x n f
room_of_step x n f h = if_room (is_retain_step x && (n == 0)) (HasRoom n f) h

pub list_of_step : (x : Found) (list : List ℕ) → All IsObjectNumber list → StepLists x list
list_of_step x list h = if_room (step_posts x) (All IsObjectNumber list) h

pub room_two : (a : Action) (f : Standing) → is_retain a ≡ false → HasRoomFor a (most_listed a) f → HasRoom 2 f
room_two a f plain h = by (is_retain a) plain h
  where
    by : (b : Bool) → b ≡ false → cond (b && (cond {A = ℕ} b 0 2 == 0)) (Unit {0}) (HasRoom (cond {A = ℕ} b 0 2) f)
        → HasRoom 2 f
    by true e h = absurd cc
    by false e h = h

-- the same of so many
pub room_for : (a : Action) (more : ℕ) (f : Standing) → is_retain a ≡ false → HasRoomFor a more f → HasRoom more f
room_for a more f plain h = subst (λ (b : Bool). cond (b && (more == 0)) (Unit {0}) (HasRoom more f)) plain h

pub less_room : (n more : ℕ) (f : Standing) → n ≤ more → HasRoom more f → HasRoom n f
less_room n more f few h = record { frames = h.frames; bindings = h.bindings; callees = omega (arith, h.callees); work = omega (arith, h.work) }

-- ---- the entry of a thread

pub no_lead : (s : Script) (st : State) (t : ℕ) (a : Action) (x : Answer) → t < 64 → ActionView a
    → IsLegalAs s st (record { thread = t; action = a; answer = x }) a → IsStep a
no_lead s st t _ x within (is_tick n) h = absurd (omega (arith, within, h.0))
no_lead s st t _ x within is_stall h = absurd (omega (arith, within, h.0))
no_lead s st t _ x within (is_step a step) h = step

-- what a thread does next is an entry of a thread
pub next_steps : (g : GroundView) (t : ℕ) (a : Action) → MayRun g.script → MayAct g t a → IsStep a
next_steps g t a run may =
    let s = g.script in
    let st = state_of g in
    no_lead s st t a (answer_if s t st (demanded s st t)) (omega (arith, may.thread, run.numbered.threads)) (action_view a)
    (legal_next s st t a (owned_fits s run.owned) (sound s g.journal run.owned) may.next may.few)

pub after_entry : (s : Script) (es : List Entry) (t : ℕ) (a : Action) (x : Answer) (d : Demand) → IsStep a
    → demanded s (After s es) t ≡ Some d
    → After s (es ++ record { thread = t; action = a; answer = x } ∷ []) ≡ done_by s t (After s es) d
after_entry s es t a x d step e =
    after-more s es (record { thread = t; action = a; answer = x }) ∙ step.after s t (After s es) ∙ ap (acted s t (After s es)) e

-- ---- a step, as far as its thread moves on by it

pub record Moves (step : Step) (st : State) (answer : Answer) (finals list : List ℕ) : Type 0 where
  pub answer_is : step_answer step st ≡ answer
  pub finals_are : step_finals step st ≡ finals
  pub list_is : step.list ≡ list
  pub stops : step.stops ≡ None

abbrev pub IsMove : Script → ℕ → State → Demand → Answer → (finals list : List ℕ) → Type 0
IsMove s t st d answer finals list = Moves (step_of s t st (frames_at t st) d) st answer finals list

pub moved_stands : (s : Script) (t : ℕ) (st : State) (d : Demand) (answer : Answer) (finals list : List ℕ)
    → IsMove s t st d answer finals list
    → (done_by s t st d).stands ≡ with_stand t (advanced (facts_of st) t d answer finals list (stand_at t st.stands)) st.stands
moved_stands s t st d answer finals list h =
    let step = step_of s t st (frames_at t st) d in
    let stand = stand_at t st.stands in
    ap (λ (o : Option ℕ). stopped_at o (with_stand t (advanced (facts_of st) t d (step_answer step st) (step_finals step st) step.list stand) st.stands)) h.stops
    ∙ ap (λ (x : Answer). with_stand t (advanced (facts_of st) t d x (step_finals step st) step.list stand) st.stands) h.answer_is
    ∙ ap (λ (fs : List ℕ). with_stand t (advanced (facts_of st) t d answer fs step.list stand) st.stands) h.finals_are
    ∙ ap (λ (os : List ℕ). with_stand t (advanced (facts_of st) t d answer finals os stand) st.stands) h.list_is

-- the threads stand as after the entry
pub stand_after_entry : (g g' : GroundView) (t : ℕ) (a : Action) (d : Demand) (answer : Answer) (finals list : List ℕ)
    (frames : List Standing) → MayRun g.script → MayAct g t a
    → HasEntered t a g g' → demanded g.script (state_of g) t ≡ Some d → IsMove g.script t (state_of g) d answer finals list
    → HasMoved g.script (state_of g).stands t (advanced (facts_of (state_of g)) t d answer finals list (stand_at t (state_of g).stands)) frames
    → AreFrames g'.script (state_of g') frames
stand_after_entry g g' t a d answer finals list frames run may entered e h moved =
    let s = g.script in
    let st = state_of g in
    let es = g.journal ++ entry_of s t st a ∷ [] in
    let states : state_of g' ≡ After s es = ap (λ (c : Script). After c g'.journal) entered.script ∙ ap (After s) entered.journal in
    let stands : (state_of g').stands ≡ with_stand t (advanced (facts_of st) t d answer finals list (stand_at t st.stands)) st.stands =
    ap (λ (x : State). x.stands) (states ∙ after_entry s g.journal t a (answer_if s t st (demanded s st t)) d (next_steps g t a run may) e) ∙ moved_stands s t st d answer finals list h in
    record {
      count = moved.count ∙ sym (ap (λ (c : Script). c.thread_count) entered.script);
      thread = λ u below. moved.thread u (subst (λ (c : Script). u < c.thread_count) entered.script below);
      stand = moved.stand ∙ sym stands;
    }

-- the action of what a thread demands
pub action_of_demand : (s : Script) (st : State) (t : ℕ) (a : Action) (d : Demand) → Next s st t ≡ Some a
    → demanded s st t ≡ Some d → action_in s (facts_of st) t (frames_at t st) d ≡ a
action_of_demand s st t a d next e =
    let acts = next_is s st t a next in
    ap (action_in s (facts_of st) t (frames_at t st)) (same d acts.demand (sym e ∙ acts.demands)) ∙ acts.action
  where
    same : (d d' : Demand) → ◌≡◌ {A = Option Demand} (Some d) (Some d') → d ≡ d'
    same d d' q = cc

-- the world has gone on, if the threads have moved by what was found
pub gone_by : (g g' : GroundView) (r : Reserved) (d : Demand) (answer answer' : Answer) (finals finals' list : List ℕ)
    (frames : List Standing) → IsFound g r
    → HasEntered r.thread r.action g g' → demanded g.script (state_of g) r.thread ≡ Some d → IsMove g.script r.thread (state_of g) d answer finals list
    → answer' ≡ answer → finals' ≡ finals
    → HasMoved g.script (state_of g).stands r.thread (advanced (facts_of (state_of g)) r.thread d answer' finals' list (stand_at r.thread (state_of g).stands)) frames
    → HasGone r g g' frames
gone_by g g' r d answer answer' finals finals' list frames found entered e h same_answer same_finals moved = record {
  entered = entered;
  frames =
      let t = r.thread in
      let st = state_of g in
      let of = λ (x : Answer) (fs : List ℕ). HasMoved g.script st.stands t (advanced (facts_of st) t d x fs list (stand_at t st.stands)) frames in
      stand_after_entry g g' t r.action d answer finals list frames found.runs found.acts entered e h
      (subst (λ (x : Answer). of x finals) same_answer (subst (λ (fs : List ℕ). of answer' fs) same_finals moved));
}
