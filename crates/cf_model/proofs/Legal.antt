-- What a legal entry of a thread tells of the objects that it uses: they are live.
use Rattle.std.proofs.Common.{◌≡◌, ℕ, zero, suc, List, [], ◌∷◌, length, Option, Some, None, eqb, ltb, refl, subst}
use Rattle.std.specs.Prelude.{IsTrue}
use Rattle.std.proofs.lemmas.Bool.{and_parts, eqb-true, ltb-true}
use Rattle.cf_ids.specs.declared.answer.Answer.{Answer}
use Rattle.cf_ids.specs.declared.answer.Answer.TheVariants as answers
use Rattle.cf_syntax.specs.declared.statement.Statement.{Statement}
use Rattle.cf_syntax.specs.declared.statement.Statement.TheVariants as forms
use Rattle.cf_syntax.specs.declared.mention.Ownership.{Ownership}
use Rattle.cf_syntax.specs.declared.mention.Ownership.TheVariants.{Releases}
use Rattle.cf_syntax.specs.Mentions.{ownership_of, used_at}
use Rattle.cf_graph.specs.declared.edge.Owner.{Owner}
use Rattle.cf_next.specs.declared.action.Action.{Action}
use Rattle.cf_next.specs.Actions.{Site, action_of}
use Rattle.cf_model.specs.State.{State, times, is_live}
use Rattle.cf_model.specs.Journals.{Use, reaches, takes, knows, uses_if, reaches_all, action_uses, uses_of, MayUse, MayUseAll}
use Rattle.cf_model.proofs.Balance.{IsLive}

pub live_of_test : (st : State) (o : ℕ) → IsTrue (is_live st.parts o) → IsLive st o
live_of_test st o h =
    let p = and_parts (ltb o (length st.parts.objects)) (eqb (times o st.parts.finalised) 0) h in
    (eqb-true (times o st.parts.finalised) 0 p.1, ltb-true o (length st.parts.objects) p.0)

module _ (st : State) (t : ℕ) (owners : List Owner) where
  pub reached_live : (o : ℕ) → MayUse st t owners (reaches o) → IsLive st o
  reached_live o h = live_of_test st o h.live

  pub taken_live : (o : ℕ) → MayUse st t owners (takes o) → IsLive st o
  taken_live o h = live_of_test st o h.live

  pub known_live : (o : ℕ) → MayUse st t owners (knows o) → IsLive st o
  known_live o h = live_of_test st o h

  -- of objects that are all used each is live
  pub all_live : (used : List (Option ℕ)) → MayUseAll st t owners (reaches_all used) → (i o : ℕ)
      → used_at used i ≡ Some o → IsLive st o
  all_live [] h i o e = absurd cc
  all_live (None ∷ us) h zero o e = absurd cc
  all_live (None ∷ us) h (suc i) o e = all_live us h i o e
  all_live (Some p ∷ us) h zero o e = let same : p ≡ o = cc in subst (IsLive st) same (reached_live p h.0)
  all_live (Some p ∷ us) h (suc i) o e = all_live us h.1 i o e

  pub if_live : (how : ℕ → Use) (each : (o : ℕ) → MayUse st t owners (how o) → IsLive st o) (p : Option ℕ)
      → MayUseAll st t owners (uses_if how p) → (o : ℕ) → p ≡ Some o → IsLive st o
  if_live how each None h o e = absurd cc
  if_live how each (Some p) h o e = let same : p ≡ o = cc in subst (IsLive st) same (each p h.0)

-- what a statement of each kind uses
abbrev pub LiveBy : State → Ownership → List (Option ℕ) → Type 0
LiveBy st (Releases v) used = Unit {0}
LiveBy st _ used = (i o : ℕ) → used_at used i ≡ Some o → IsLive st o

pub statement_live : (st : State) (t : ℕ) (owners : List Owner) (x : Statement) (site : Site)
    → MayUseAll st t owners (action_uses (action_of x site)) → LiveBy st (ownership_of x) site.used
statement_live st t owners (forms.Release v) site h = tt
statement_live st t owners x site h = all_live st t owners site.used h

-- an entry that does not skip uses what its action does
pub not_skipped : (a : Action) (answer : Answer) → (answer ≡ answers.Skip → ⊥) → uses_of a answer ≡ action_uses a
not_skipped a answers.Skip h = absurd (h refl)
not_skipped a _ h = refl
