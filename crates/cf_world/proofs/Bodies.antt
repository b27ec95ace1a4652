-- Statements that act on bodies alone.
use Rattle.std.proofs.Common.{◌≡◌, ℕ, true, false, List, Option}
use Rattle.cf_syntax.specs.declared.script.Script.{Script}
use Rattle.cf_syntax.specs.declared.statement.Statement.{Statement}
use Rattle.cf_syntax.specs.declared.statement.Statement.TheVariants as forms
use Rattle.cf_syntax.specs.declared.mention.Ownership.TheVariants.{Keeps}
use Rattle.cf_syntax.specs.Mentions.{ownership_of}
use Rattle.cf_syntax.specs.Stage.{is_of_stage}
use Rattle.cf_model.specs.State.{State}
use Rattle.cf_model.specs.Plain.{ActsOnBodies, DealsPlainly}
use Rattle.cf_model.proofs.PlainDeals.{deals_plainly}
use Rattle.cf_scene.specs.Needs.{acts_on_loops}

-- a statement that the reader takes acts on bodies alone, if it keeps the counts and acts on no run loop
acts_on_bodies : (x : Statement) → is_of_stage x ≡ true → acts_on_loops x ≡ false → ownership_of x ≡ Keeps
    → ActsOnBodies x
acts_on_bodies (forms.MakeSource v order handler info) of apart keeps = absurd cc
acts_on_bodies (forms.MakeTimer v first interval handler info) of apart keeps = absurd cc
acts_on_bodies (forms.MakeObserver v mask repeats order handler info) of apart keeps = absurd cc
acts_on_bodies (forms.Add item thread mode) of apart keeps = absurd cc
acts_on_bodies (forms.Drop item thread mode) of apart keeps = absurd cc
acts_on_bodies (forms.Common thread mode) of apart keeps = absurd cc
acts_on_bodies (forms.Signal source) of apart keeps = absurd cc
acts_on_bodies (forms.Invalidate item) of apart keeps = absurd cc
acts_on_bodies (forms.Wake thread) of apart keeps = absurd cc
acts_on_bodies (forms.Stop thread) of apart keeps = absurd cc
acts_on_bodies (forms.Run mode limit once) of apart keeps = absurd cc
acts_on_bodies (forms.Observe observer handler name object) of apart keeps = absurd cc
acts_on_bodies (forms.Forget observer name object) of apart keeps = absurd cc
acts_on_bodies (forms.Post name info) of apart keeps = absurd cc
acts_on_bodies x of apart keeps = tt

-- so it does what its deed says and no more
pub bodies_plainly : (s : Script) (t : ℕ) (st : State) (x : Statement) (used : List (Option ℕ)) → is_of_stage x ≡ true
    → acts_on_loops x ≡ false → ownership_of x ≡ Keeps → DealsPlainly s t st x used
bodies_plainly s t st x used of apart keeps = deals_plainly s t st x used (acts_on_bodies x of apart keeps)
