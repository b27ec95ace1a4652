-- A world goes on by a statement over run loops.
use Rattle.std.proofs.Common.{◌≡◌, ℕ, ◌+◌, ◌<◌, ◌≤◌, ◌∙◌, Bool, true, false, cond, List, [], ◌∷◌, ◌++◌, length, map, Option, Some, None, refl, sym, ap, subst, arith, length-append, ◌^◌}
use Rattle.std.specs.Prelude.{IfSome, IsSomeAnd, is_some}
use Rattle.std.specs.Option.{option_map}
use Rattle.std.specs.List.{All}
use Rattle.std.proofs.lemmas.List.{length-map}
use Rattle.cf_ids.specs.Ranges.{IsObjectNumber}
use Rattle.cf_ids.specs.declared.answer.Answer.{Answer}
use Rattle.cf_ids.specs.declared.answer.Answer.TheVariants as answers
use Rattle.cf_syntax.specs.declared.script.Script.{Script}
use Rattle.cf_syntax.specs.declared.statement.Statement.{Statement}
use Rattle.cf_syntax.specs.declared.statement.Statement.TheVariants as forms
use Rattle.cf_syntax.specs.declared.mention.Ownership.TheVariants.{Keeps, Retains}
use Rattle.cf_syntax.specs.declared.mention.ThreadWord.{ThreadWord}
use Rattle.cf_syntax.specs.declared.mention.ThreadWord.TheVariants.{Own, Named}
use Rattle.cf_syntax.specs.Mentions.{first_of, ownership_of}
use Rattle.cf_syntax.specs.Numbered.{NamesOwn, NamesThread, thread_word}
use Rattle.cf_syntax.specs.BlockLines.{says}
use Rattle.cf_next.specs.declared.object.Used.{Used}
use Rattle.cf_next.specs.Facts.{Facts}
use Rattle.cf_next.specs.Stands.{Frame, Kind, Stand, Turn, has_run, is_run, of_block, of_handler, of_run}
use Rattle.cf_next.specs.Standing.{Standing, innermost_run, run_or}
use Rattle.cf_next.specs.Demands.{does}
use Rattle.cf_next.specs.Advance.{advanced}
use Rattle.cf_next.specs.Next.{top_frame}
use Rattle.cf_graph.specs.Edges.{Reference}
use Rattle.cf_next.specs.Steps.{SaysList, SaysRoom, says_retain}
use Rattle.cf_next.specs.Views.{objects_of}
use Rattle.cf_model.specs.declared.entry.Entry.{Entry}
use Rattle.cf_model.specs.State.{State, stand_at, with_stand}
use Rattle.cf_model.specs.Known.{facts_of}
use Rattle.cf_model.specs.Deals.{Deal, answering, deal_of, okay, posts_of, stop_deal, thread_in, wake_parts, with_used}
use Rattle.cf_model.specs.Steps.{Step, answer_if, deal_step, demanded, done_by, frames_at, statement_step, step_answer, step_finals, step_of, stopped_at}
use Rattle.cf_model.specs.Journals.{After}
use Rattle.cf_scene.specs.Acts.{TellsRun}
use Rattle.cf_scene.proofs.OverLoops.{deal_posts_none}
use Rattle.cf_scene.specs.Needs.{FitsCommon, GainsAtMost, MovesAtMost, acts_on_loops}
use Rattle.cf_world.specs.Worlds.{entry_of}
use Rattle.cf_world.specs.Grounds.{GroundView, PlaceIf, state_of, statement_at}
use Rattle.cf_world.specs.Entering.{HasEntered, IsDealing, IsLastAnswer, listed_if, listed_in, stop_named, stops_of, used_in}
use Rattle.cf_world.specs.declared.found.Found.TheVariants as kept
use Rattle.cf_world.specs.declared.found.Reserved.{Reserved}
use Rattle.cf_world.specs.Begun.{AreFrames, AreMost, HasGone, HasLists, HasMoved, IsFound, IsReadyFor, MovesIf, StandSo, standing_at}
use Rattle.cf_world.proofs.Apart.{deals_keep}
use Rattle.cf_world.proofs.Going.{Said, kept_as, last_told, number_fits, retains_var, objects_are, says_list, says_more, statement_is}
use Rattle.cf_world.proofs.Moving.{after_entry, next_steps}
use Rattle.cf_world.proofs.Naming.{said_names}
use Rattle.cf_world.proofs.Timing.{StopsNone, deal_still, said_time}

-- ---- whose run it stops

has_innermost : (fs : List Frame) → has_run fs ≡ is_some (innermost_run fs)
has_innermost [] = refl
has_innermost (f ∷ fs) = by f.kind (has_innermost fs)
  where
    by : (k : Kind) → has_run fs ≡ is_some (innermost_run fs)
        → cond (is_run k) true (has_run fs) ≡ is_some (run_or k (innermost_run fs))
    by of_block h = h
    by (of_handler c) h = h
    by (of_run r) h = refl

-- a thread has a run if there is a mode of its innermost run
pub runs_told : (fs : List Frame) (m : Option ℕ) → m ≡ option_map (λ (r : Turn). r.mode) (innermost_run fs)
    → has_run fs ≡ is_some m
runs_told fs m e = has_innermost fs ∙ by (innermost_run fs) e
  where
    by : (o : Option Turn) → m ≡ option_map (λ (r : Turn). r.mode) o → is_some o ≡ is_some m
    by None q = sym (ap is_some q)
    by (Some r) q = sym (ap is_some q)

-- the thread that a word names is one of so many
pub named_within : (t n : ℕ) (u : ThreadWord) (w : ℕ) → thread_in t u ≡ Some w → t < n
    → IfSome (thread_word u) (λ v. v < n) → w < n
named_within t n Own w e own named = let same : t ≡ w = cc in subst (λ (v : ℕ). v < n) same own
named_within t n (Named o) w e own named = subst (λ (q : Option ℕ). IfSome q (λ v. v < n)) e named

-- a thread that is named stops, if it has a run
pub named_stops : (stands : List Stand) (o : Option ℕ) (w : ℕ) → o ≡ Some w → has_run (stand_at w stands).frames ≡ true
    → Some w ≡ stop_named stands o
named_stops stands o w e run =
    subst (λ (q : Option ℕ). Some w ≡ stop_named stands q) (sym e) (sym (ap (λ (b : Bool). cond b (Some w) None) run))

pub named_stays : (stands : List Stand) (o : Option ℕ) (w : ℕ) → o ≡ Some w → has_run (stand_at w stands).frames ≡ false
    → None ≡ stop_named stands o
named_stays stands o w e run =
    subst (λ (q : Option ℕ). None ≡ stop_named stands q) (sym e) (sym (ap (λ (b : Bool). cond b (Some w) None) run))

-- what a `stop` stops that stands there
pub stop_there : (t : ℕ) (stands : List Stand) (o : Option Statement) (x : Statement) (u : ThreadWord) (stopped : Option ℕ)
    → Some x ≡ o → x ≡ forms.Stop u → stopped ≡ stop_named stands (thread_in t u)
    → IfSome o (λ y. stopped ≡ stops_of t stands y)
stop_there t stands o x u stopped there is told =
    subst (λ (q : Option Statement). IfSome q (λ y. stopped ≡ stops_of t stands y)) there
    (subst (λ (y : Statement). stopped ≡ stops_of t stands y) (sym is) told)

-- the thread that it names is there
pub stop_within : (t n : ℕ) (o : Option Statement) (x : Statement) (u : ThreadWord) (w : ℕ) → Some x ≡ o
    → x ≡ forms.Stop u → thread_in t u ≡ Some w → t < n → IfSome o (NamesThread n) → w < n
stop_within t n o x u w there is e own named =
    named_within t n u w e own
    (subst (NamesThread n) is (subst (λ (q : Option Statement). IfSome q (NamesThread n)) (sym there) named))

-- another statement stops none
pub stops_other : (t : ℕ) (stands : List Stand) (x : Statement) → StopsNone x → stops_of t stands x ≡ None
stops_other t stands (forms.Stop u) none = absurd none
stops_other t stands x none = refl

-- whose run is stopped is there
stop_below : (stands : List Stand) (o : Option ℕ) (n : ℕ) → IfSome o (λ v. v < n) → IfSome (stop_named stands o) (λ v. v < n)
stop_below stands None n h = tt
stop_below stands (Some u) n h = by (has_run (stand_at u stands).frames)
  where
    by : (b : Bool) → IfSome (cond {A = Option ℕ} b (Some u) None) (λ v. v < n)
    by true = h
    by false = tt

word_below : (t n : ℕ) (u : ThreadWord) → t < n → IfSome (thread_word u) (λ v. v < n) → IfSome (thread_in t u) (λ v. v < n)
word_below t n Own own named = own
word_below t n (Named o) own named = named

stops_below : (t n : ℕ) (stands : List Stand) (x : Statement) → t < n → NamesThread n x
    → IfSome (stops_of t stands x) (λ v. v < n)
stops_below t n stands (forms.Stop u) own named = stop_below stands (thread_in t u) n (word_below t n u own named)
stops_below t n stands x own named = tt

-- whether the thread that is named has a run, by whose run is stopped
tells_stop : (stands : List Stand) (o : Option ℕ) → IfSome o (λ u. is_some (stop_named stands o) ≡ has_run (stand_at u stands).frames)
tells_stop stands None = tt
tells_stop stands (Some u) = by (has_run (stand_at u stands).frames)
  where
    by : (b : Bool) → is_some (cond {A = Option ℕ} b (Some u) None) ≡ b
    by true = refl
    by false = refl

pub tells_run : (t : ℕ) (st : State) (x : Statement) → TellsRun st t (is_some (stops_of t st.stands x)) x
tells_run t st (forms.Stop u) = tells_stop st.stands (thread_in t u)
tells_run t st x = tt

-- the deal stops that run
stop_told : (st : State) (o : Option ℕ) → (with_used st.parts o (stop_deal st)).stops ≡ stop_named st.stands o
stop_told st None = refl
stop_told st (Some u) = by (has_run (stand_at u st.stands).frames)
  where
    by : (b : Bool) → (cond b (record (okay (wake_parts st.parts u)) { stops = Some u }) (answering st.parts answers.Idle)).stops ≡ cond {A = Option ℕ} b (Some u) None
    by true = refl
    by false = refl

deal_stops : (s : Script) (t : ℕ) (st : State) (x : Statement) (used : List (Option ℕ))
    → (deal_of s t st x used).stops ≡ stops_of t st.stands x
deal_stops s t st (forms.Stop u) used = stop_told st (thread_in t u)
deal_stops s t st x used = (deal_still s t st x used tt).1

-- ---- how much it moves at most

common_more : (st : State) (o : Option ℕ) (more most : ℕ) → more ≤ most → FitsCommon st o more → FitsCommon st o most
common_more st None more most le h = tt
common_more st (Some w) more most le h = omega (arith, le, h)

gains_more : (st : State) (t : ℕ) (x : Statement) (more most : ℕ) → more ≤ most → GainsAtMost st t x more
    → GainsAtMost st t x most
gains_more st t (forms.Common u m) more most le h = common_more st (thread_in t u) more most le h
gains_more st t x more most le h = tt

pub moves_more : (s : Script) (t : ℕ) (st : State) (x : Statement) (used : List (Option ℕ)) (more most : ℕ) → more ≤ most
    → MovesAtMost s t st x used more → MovesAtMost s t st x used most
moves_more s t st x used more most le h = record {
  deal = record { enters = omega (arith, le, h.deal.enters); leaves = omega (arith, le, h.deal.leaves) };
  common = gains_more st t x more most le h.common;
}

pub moves_if_more : (g : GroundView) (t : ℕ) (used : List (Option ℕ)) (more most : ℕ) (o : Option Statement) → more ≤ most
    → MovesIf g t used more o → MovesIf g t used most o
moves_if_more g t used more most None le h = tt
moves_if_more g t used more most (Some x) le h = moves_more g.script t (state_of g) x used more most le h

-- ---- what was found is such a statement

module _ (g : GroundView) (r : Reserved) (found : IsFound g r) (b n : ℕ) (used : Used) (is : r.found ≡ kept.Deals b n used) where
  pub deals_here : Said g r true b n used
  deals_here = kept_as g r (kept.Deals b n used) found is

  abbrev x : Statement
  x = deals_here.statement

  abbrev t : ℕ
  t = r.thread

  names : NamesOwn g.script x
  names = said_names g.script (state_of g) t found.runs.numbered x deals_here.demands

  -- what is so of it is so of the statement that stands there
  at_place : (P : Statement → Type 0) → P x → IfSome (statement_at g.script b n) P
  at_place P h = subst (λ (o : Option Statement). IfSome o P) (sym deals_here.at) h

  pub names_thread : IfSome (statement_at g.script b n) (NamesThread g.script.thread_count)
  names_thread = at_place (NamesThread g.script.thread_count) names.thread

  pub acts_there : IfSome (statement_at g.script b n) (λ y. acts_on_loops y ≡ true)
  acts_there = at_place (λ y. acts_on_loops y ≡ true) deals_here.acts

  pub most_here : (more most : ℕ) → more ≤ most → MovesIf g t (objects_of used) more (statement_at g.script b n)
      → AreMost g t most r.found
  most_here more most le h = subst (AreMost g t most) (sym is) (moves_if_more g t (objects_of used) more most (statement_at g.script b n) le h)

  objects_same : objects_of used ≡ used_in g t x
  objects_same = objects_are g r found b n used true deals_here

  fits : (more : ℕ) → AreMost g t more r.found → MovesAtMost g.script t (state_of g) x (used_in g t x) more
  fits more h =
      let there : MovesIf g t (objects_of used) more (statement_at g.script b n) = subst (AreMost g t more) is h in
      let here : MovesAtMost g.script t (state_of g) x (objects_of used) more = subst (MovesIf g t (objects_of used) more) deals_here.at there in
      subst (λ (us : List (Option ℕ)). MovesAtMost g.script t (state_of g) x us more) objects_same here

  pub fits_there : (more most : ℕ) → more ≤ most → AreMost g t more r.found
      → IfSome (statement_at g.script b n) (λ y. MovesAtMost g.script t (state_of g) y (used_in g t y) most)
  fits_there more most le h =
      at_place (λ y. MovesAtMost g.script t (state_of g) y (used_in g t y) most)
      (moves_more g.script t (state_of g) x (used_in g t x) more most le (fits more h))

  pub dealing_there : (object : Option ℕ) (stopped : Option ℕ) → object ≡ first_of (objects_of used)
      → IfSome (statement_at g.script b n) (λ y. stopped ≡ stops_of t (state_of g).stands y)
      → IsReadyFor g t r.found
      → IsSomeAnd (statement_at g.script b n) (IsDealing g t object (is_some stopped))
  dealing_there object stopped told stops ready =
      let place : PlaceIf g t (statement_at g.script b n) = subst (IsReadyFor g t) is ready in
      let stop : stopped ≡ stops_of t (state_of g).stands x = subst (λ (o : Option Statement). IfSome o (λ y. stopped ≡ stops_of t (state_of g).stands y)) deals_here.at stops in
      subst (λ (o : Option Statement). IsSomeAnd o (IsDealing g t object (is_some stopped))) (sym deals_here.at)
      (record {
        demands = deals_here.demands;
        acts = deals_here.acts;
        object_is = ap first_of (sym objects_same) ∙ sym told;
        runs_is = subst (λ (o : Option ℕ). TellsRun (state_of g) t (is_some o) x) (sym stop) (tells_run t (state_of g) x);
        place = subst (PlaceIf g t) deals_here.at place;
      })

  keeps : ownership_of x ≡ Keeps
  keeps = deals_keep x deals_here.acts

  abbrev deal : Deal
  deal = deal_of g.script t (state_of g) x (used_in g t x)

  step_is : step_of g.script t (state_of g) (frames_at t (state_of g)) (does (says x)) ≡ deal_step t deal (posts_of (state_of g).parts x (used_in g t x))
  step_is = ap (statement_step g.script t _ (state_of g) x (used_in g t x)) keeps

  plain : says_retain x ≡ false
  plain = by (says_retain x) refl
    where
      apart : (v : ℕ) → Retains v ≡ Keeps → ⊥
      apart v e = cc

      by : (c : Bool) → says_retain x ≡ c → c ≡ false
      by true e = let h = retains_var x e in absurd (apart h.0 (sym h.1 ∙ keeps))
      by false e = refl

  -- a thread goes on by it
  module _ (frames : List Standing) (so : AreFrames g.script (state_of g) frames) (y : Statement) (there : Some y ≡ statement_at g.script b n) where
    same : x ≡ y
    same = statement_is g r found b n used true deals_here y there

    pub number_here : (top_frame (standing_at frames t).stand.frames).number + 1 < 2 ^ 32
    number_here = number_fits g r found b n used true deals_here frames so

    pub room_here : (gained_room list_room k : ℕ) → (lists : HasLists g frames gained_room list_room r) → k ≤ lists.more
        → SaysRoom y None k (standing_at frames t)
    room_here gained_room list_room k lists few =
        subst (λ (z : Statement). SaysRoom z None k (standing_at frames t)) same
        (says_more g r found b n used true deals_here frames lists.more k plain lists.room few)

    pub list_here : (list : List ℕ) → All IsObjectNumber list → SaysList y list
    list_here list h = subst (λ (z : Statement). SaysList z list) same (says_list g r found b n used true deals_here list h)

  pub listed_few : (more : ℕ) → AreMost g t more r.found → length (listed_in g t) ≤ more
  listed_few more h =
      let posts = deal_posts_none g.script t (state_of g) x (used_in g t x) deals_here.acts in
      let out = map (λ (q : Reference). q.object) deal.leaves in
      omega (
        arith,
        ap length (ap (listed_if g.script t (state_of g)) deals_here.demands ∙ ap (λ (z : Step). z.list) step_is ∙ ap (λ (ps : List ℕ). out ++ ps) posts),
        length-append out [],
        length-map deal.leaves (λ (q : Reference). q.object),
        (fits more h).deal.leaves,
      )

  -- the world has gone on, if its threads have moved by the entry and the run that it stops is told so
  module _ (g' : GroundView) (frames moved stood : List Standing) (entered : HasEntered t r.action g g') (so : AreFrames g.script (state_of g) frames) (y : Statement) (there : Some y ≡ statement_at g'.script b n) where
    abbrev told : Answer
    told = answer_if g.script t (state_of g) (demanded g.script (state_of g) t)

    abbrev step : Step
    step = step_of g.script t (state_of g) (frames_at t (state_of g)) (does (says x))

    abbrev es : List Entry
    es = g.journal ++ entry_of g.script t (state_of g) r.action ∷ []

    states : state_of g' ≡ done_by g.script t (state_of g) (does (says x))
    states =
        ap (λ (c : Script). After c g'.journal) entered.script ∙ ap (After g.script) entered.journal
        ∙ after_entry g.script g.journal t r.action told (does (says x)) (next_steps g t r.action found.runs found.acts) deals_here.demands

    same_statement : x ≡ y
    same_statement = statement_is g r found b n used true deals_here y (there ∙ ap (λ (c : Script). statement_at c b n) entered.script)

    finals_none : step_finals step (state_of g) ≡ []
    finals_none = ap (λ (z : Step). step_finals z (state_of g)) step_is

    answer_told : told ≡ step_answer step (state_of g)
    answer_told = ap (answer_if g.script t (state_of g)) deals_here.demands

    abbrev stand_by : Answer → List ℕ → List ℕ → Stand
    stand_by a finals list = advanced (facts_of (state_of g)) t (does (says x)) a finals list (stand_at t (state_of g).stands)

    -- how the threads stand after the entry alone
    abbrev SaysOn : List ℕ → Type 0
    SaysOn list = (s : Script) (stands : List Stand) (facts : Facts) (answer : Answer) → StandSo s stands frames → facts.time ≡ (state_of g').parts.time
        → IsLastAnswer g'.journal (Some answer)
        → HasMoved s stands t (advanced facts t (does (says y)) answer [] list (stand_at t stands)) moved

    moves : (list : List ℕ) → SaysOn list → HasMoved g.script (state_of g).stands t (stand_by told [] list) moved
    moves list on =
        let st = state_of g in
        let time : st.parts.time ≡ (state_of g').parts.time = sym (ap (λ (z : State). z.parts.time) states ∙ said_time g.script t st x) in
        subst (λ (z : Statement). HasMoved g.script st.stands t (advanced (facts_of st) t (does (says z)) told [] list (stand_at t st.stands)) moved) (sym same_statement)
        (on g.script st.stands (facts_of st) told so time (last_told g g' frames frames r found entered b n used true deals_here so))

    abbrev Stops : Option ℕ → Type 0
    Stops stopped = IfSome (statement_at g.script b n) (λ z. stopped ≡ stops_of t (state_of g).stands z)

    stops_is : (stopped : Option ℕ) → Stops stopped → stopped ≡ stops_of t (state_of g).stands x
    stops_is stopped stops = subst (λ (o : Option Statement). IfSome o (λ z. stopped ≡ stops_of t (state_of g).stands z)) deals_here.at stops

    -- the thread whose run is stopped is there
    pub stops_within : (list : List ℕ) (stopped : Option ℕ) → Stops stopped → SaysOn list
        → IfSome stopped (λ u. u < length moved)
    stops_within list stopped stops on =
        subst (λ (k : ℕ). IfSome stopped (λ u. u < k)) (sym (moves list on).count)
        (subst (λ (o : Option ℕ). IfSome o (λ u. u < g.script.thread_count)) (sym (stops_is stopped stops))
        (stops_below t g.script.thread_count (state_of g).stands x found.acts.thread names.thread))

    pub deal_gone : (list : List ℕ) (stopped : Option ℕ) → list ≡ listed_in g t → Stops stopped → SaysOn list
        → ((s : Script) (stands : List Stand) → StandSo s stands moved → StandSo s (stopped_at stopped stands) stood)
        → HasGone r g g' stood
    deal_gone list stopped listed stops on stop =
        let st = state_of g in
        let by_step : stopped ≡ step.stops = stops_is stopped stops ∙ sym (ap (λ (z : Step). z.stops) step_is ∙ deal_stops g.script t st x (used_in g t x)) in
        let listed_by : list ≡ step.list = listed ∙ ap (listed_if g.script t st) deals_here.demands in
        let there_now : StandSo g.script (stopped_at stopped (with_stand t (stand_by told [] list) st.stands)) stood = stop g.script (with_stand t (stand_by told [] list) st.stands) (moves list on) in
        let stands : stopped_at stopped (with_stand t (stand_by told [] list) st.stands) ≡ (state_of g').stands =
        ap (λ (o : Option ℕ). stopped_at o (with_stand t (stand_by told [] list) st.stands)) by_step
        ∙ ap (λ (a : Answer). stopped_at step.stops (with_stand t (stand_by a [] list) st.stands)) answer_told
        ∙ ap (λ (fs : List ℕ). stopped_at step.stops (with_stand t (stand_by (step_answer step st) fs list) st.stands)) (sym finals_none)
        ∙ ap (λ (ls : List ℕ). stopped_at step.stops (with_stand t (stand_by (step_answer step st) (step_finals step st) ls) st.stands)) listed_by
        ∙ ap (λ (z : State). z.stands) (sym states) in
        record {
          entered = entered;
          frames = subst (λ (c : Script). StandSo c (state_of g').stands stood) (sym entered.script) (subst (λ (ss : List Stand). StandSo g.script ss stood) stands there_now);
        }
