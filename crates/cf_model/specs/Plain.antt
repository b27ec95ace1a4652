-- Statements that act on bodies alone: each does what its deed says. This project's own.
use Rattle.std.specs.Prelude.{◌≡◌, ℕ, Bool, false, List, [], Option, None}
use Rattle.cf_syntax.specs.declared.script.Script.{Script}
use Rattle.cf_syntax.specs.declared.statement.Statement.{Statement}
use Rattle.cf_syntax.specs.declared.statement.Statement.TheVariants as forms
use Rattle.cf_syntax.specs.Mentions.{first_of}
use Rattle.cf_syntax.specs.BlockLines.{says}
use Rattle.cf_contents.specs.Deeds.{Deed, deed_at}
use Rattle.cf_next.specs.Advance.{is_post, run_frames}
use Rattle.cf_model.specs.State.{Parts, State}
use Rattle.cf_model.specs.Deals.{Deal, change_unless_skipped, change_deal, deal_of, posts_of}
use Rattle.cf_model.specs.Steps.{item_made}

-- a statement acts on no run loop and on no notice, and makes no item of a run loop
abbrev pub ActsOnBodies : Statement → Type 0
ActsOnBodies (forms.MakeSource v order handler info) = ⊥
ActsOnBodies (forms.MakeTimer v first interval handler info) = ⊥
ActsOnBodies (forms.MakeObserver v mask repeats order handler info) = ⊥
ActsOnBodies (forms.Add item thread mode) = ⊥
ActsOnBodies (forms.Drop item thread mode) = ⊥
ActsOnBodies (forms.Common thread mode) = ⊥
ActsOnBodies (forms.Signal source) = ⊥
ActsOnBodies (forms.Invalidate item) = ⊥
ActsOnBodies (forms.Wake thread) = ⊥
ActsOnBodies (forms.Stop thread) = ⊥
ActsOnBodies (forms.Run mode limit once) = ⊥
ActsOnBodies (forms.Observe observer handler name object) = ⊥
ActsOnBodies (forms.Forget observer name object) = ⊥
ActsOnBodies (forms.Post name info) = ⊥
ActsOnBodies _ = Unit {0}

-- what a statement does by the objects that it uses
abbrev pub deed_in : Script → State → Statement → List (Option ℕ) → Deed
deed_in s st x used = deed_at s.classes st.parts.objects x used

-- the deal of a statement's deed
abbrev pub deed_deal : Parts → Deed → List (Option ℕ) → Deal
deed_deal p deed used = change_deal p deed.answer (first_of used) (change_unless_skipped deed.answer deed.change)

-- a statement does what its deed says and no more: its deal is that of its deed, where a skipped one changes nothing
-- anyway; it posts to nobody, makes no item, and begins no run
pub record DealsPlainly (s : Script) (t : ℕ) (st : State) (x : Statement) (used : List (Option ℕ)) : Type 0 where
  pub deal : deal_of s t st x used ≡ deed_deal st.parts (deed_in s st x used) used
  pub skips :
      change_unless_skipped (deed_in s st x used).answer (deed_in s st x used).change ≡ (deed_in s st x used).change
  pub posts : posts_of st.parts x used ≡ []
  pub made : item_made x ≡ None
  pub post : is_post (says x) ≡ false
  pub runs : (time : ℕ) (entered : Bool) → run_frames time (says x) entered ≡ []
