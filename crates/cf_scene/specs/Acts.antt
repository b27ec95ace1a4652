-- What statements over run loops leave. This project's own.
use Rattle.std.specs.Prelude.{◌≡◌, ℕ, Bool, List, map, replicate, IfSome}
use Rattle.rl_modes.specs.Loops.{Loop}
use Rattle.cf_syntax.specs.declared.script.Script.{Script}
use Rattle.cf_syntax.specs.declared.statement.Statement.{Statement}
use Rattle.cf_syntax.specs.declared.statement.Statement.TheVariants as forms
use Rattle.cf_contents.specs.Stores.{Held}
use Rattle.cf_next.specs.Stands.{has_run}
use Rattle.cf_model.specs.State.{State, stand_at}
use Rattle.cf_model.specs.Deals.{Deal, thread_in}
use Rattle.cf_loops.specs.Following.{AfterDeal}
use Rattle.cf_scene.specs.Scenes.{Mirrors, all_flags}
use Rattle.cf_scene.specs.declared.dealt.Dealt.{Dealt}
use Rattle.cf_scene.specs.declared.flags.Flags.{Flags}

-- of a `stop` it is told whether the thread that it names has a run
abbrev pub TellsRun : State → (t : ℕ) → (runs : Bool) → Statement → Type 0
TellsRun st t runs (forms.Stop thread) =
    IfSome (thread_in t thread) (λ u. runs ≡ has_run (stand_at u st.stands).frames)
TellsRun st t runs _ = Unit {0}

-- what comes into places is one item so often; but for `common`, which brings a mode each common item
abbrev pub Brings : Statement → Deal → Dealt → Type 0
Brings (forms.Common thread mode) deal x = x.came ≡ 0
Brings _ deal x = map (λ r. r.object) deal.enters ≡ replicate x.came x.item

-- what a statement deals is done to bodies, loops and flags: its answer, how often what it moved came into places and
-- went out of them, and what there is after it
pub record IsDealt (s : Script) (st : State) (by : ℕ) (deal : Deal) (statement : Statement) (x : Dealt)
    (bodies : List Held) (loops : List Loop) (flags : List Flags) : Type 0 where
  pub answer : x.answer ≡ deal.answer
  pub came : Brings statement deal x
  pub went : map (λ r. r.object) deal.leaves ≡ replicate x.went x.item
  pub mirrors : Mirrors deal.parts bodies
  pub flags_are : all_flags flags ≡ deal.parts.flags
  pub loops_are : AfterDeal s st by deal loops
