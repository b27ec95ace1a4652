-- What a deal over run loops leaves. This project's own.
use Rattle.std.specs.Prelude.{◌≡◌, ℕ, List, map, replicate}
use Rattle.rl_modes.specs.Loops.{Loop}
use Rattle.rl_base.specs.declared.places.Place.{Place}
use Rattle.cf_ids.specs.declared.answer.Answer.{Answer}
use Rattle.cf_syntax.specs.declared.script.Script.{Script}
use Rattle.cf_contents.specs.Stores.{Held}
use Rattle.cf_model.specs.State.{State, Parts}
use Rattle.cf_model.specs.Things.{thing_at}
use Rattle.cf_model.specs.Deals.{Deal, add_deal, common_deal, drop_deal, invalidate_deal, signal_deal, thing_deal}
use Rattle.cf_model.specs.Steps.{spend_if}
use Rattle.cf_loops.specs.Following.{AfterDeal}
use Rattle.cf_scene.specs.Scenes.{Mirrors}
use Rattle.cf_scene.specs.declared.dealt.Dealt.{Dealt}

-- ---- deals by the number of an object, which may be that of no item

abbrev pub adding : Script → State → (t : ℕ) → Place → ℕ → Deal
adding s st t place i = thing_deal st.parts i (λ o x. add_deal s st t place o x) (thing_at st.parts i)

abbrev pub dropping : Script → State → (t : ℕ) → Place → ℕ → Deal
dropping s st t place i = thing_deal st.parts i (λ o x. drop_deal s st t place o) (thing_at st.parts i)

abbrev pub invalidating : Script → State → ℕ → Deal
invalidating s st i = thing_deal st.parts i (λ o x. invalidate_deal s st o x) (thing_at st.parts i)

abbrev pub spending : Script → State → ℕ → Deal
spending s st i = spend_if s st i (thing_at st.parts i)

abbrev pub signalling : Parts → ℕ → Deal
signalling p i = thing_deal p i (λ o x. signal_deal p o x.valid x.item) (thing_at p i)

-- ---- what is left

-- a deal is done to bodies and loops: its answer, how often what it moved came into places and went out of them, and
-- what there is after it
pub record IsDone (s : Script) (st : State) (by : ℕ) (deal : Deal) (x : Dealt) (bodies : List Held) (loops : List Loop)
    : Type 0 where
  pub answer : x.answer ≡ deal.answer
  pub came : map (λ r. r.object) deal.enters ≡ replicate x.came x.item
  pub went : map (λ r. r.object) deal.leaves ≡ replicate x.went x.item
  pub mirrors : Mirrors deal.parts bodies
  pub loops_are : AfterDeal s st by deal loops

-- a mode became a common one: its answer, and the loops after it
pub record IsCommonNow (s : Script) (st : State) (by t m : ℕ) (answer : Answer) (loops : List Loop) : Type 0 where
  pub answer_is : answer ≡ (common_deal st t m).answer
  pub loops_are : AfterDeal s st by (common_deal st t m) loops

-- a source is signalled: the answer, and the bodies after it
pub record IsSignalled (p : Parts) (i : ℕ) (answer : Answer) (bodies : List Held) : Type 0 where
  pub answer_is : answer ≡ (signalling p i).answer
  pub mirrors : Mirrors (signalling p i).parts bodies
