-- The deal of a change.
use Rattle.std.proofs.Common.{◌≡◌, ℕ, zero, suc, ◌<◌, ◌≤◌, List, [], ◌∷◌, length, map, get_or, slice_get, Option, Some, None, refl, sym, ap, ◌∙◌, arith}
use Rattle.std.specs.Prelude.{slice_set}
use Rattle.cf_ids.specs.declared.answer.Answer.{Answer}
use Rattle.cf_ids.specs.declared.answer.Answer.TheVariants as answers
use Rattle.cf_graph.specs.Edges.{held_by}
use Rattle.cf_graph.specs.Holders.{slot}
use Rattle.cf_contents.specs.Contents.{Object}
use Rattle.cf_contents.specs.Deeds.{Change, unchanged, given_out, object_after, objects_after, taken_in, with_change}
use Rattle.cf_contents.proofs.ContentLaws.{objects_after-unchanged}
use Rattle.cf_model.specs.State.{Parts}
use Rattle.cf_state.proofs.Altering.{changed-past}
use Rattle.cf_model.specs.Deals.{Deal, answering, change_deal, change_unless_skipped, skipping}

past : (objects : List Object) (o : ℕ) → slice_get objects o ≡ None → length objects ≤ o
past [] o h = omega arith
past (x ∷ xs) zero h = absurd (cc)
past (x ∷ xs) (suc o) h = omega (arith, past xs o h)

-- ---- the deal of a change

pub unless-not : (a : Answer) (change : Change) → (a ≡ answers.Skip → ⊥) → change_unless_skipped a change ≡ change
unless-not answers.Skip change h = absurd (h refl)
unless-not _ change h = refl

nothing-in : (ob : Option Object) → taken_in ob unchanged ≡ []
nothing-in None = refl
nothing-in (Some ob) = refl

nothing-out : (ob : Option Object) → given_out ob unchanged ≡ []
nothing-out None = refl
nothing-out (Some ob) = refl

abbrev deal-of : Parts → Answer → List Object → ℕ → List ℕ → List ℕ → Deal
deal-of p a objects b enters leaves = record {
  answer = a;
  parts = record p { objects = objects };
  enters = map (held_by (slot b)) enters;
  leaves = map (held_by (slot b)) leaves;
  stops = None;
}

-- a statement that is skipped changes nothing
pub skipped-deal : (p : Parts) (body : Option ℕ) → skipping p ≡ change_deal p answers.Skip body unchanged
skipped-deal p None = refl
skipped-deal p (Some b) = sym (
    ap (λ os. deal-of p answers.Skip os b (taken_in (slice_get p.objects b) unchanged) (given_out (slice_get p.objects b) unchanged)) (objects_after-unchanged (Some b) p.objects)
    ∙ ap (λ es. deal-of p answers.Skip p.objects b es (given_out (slice_get p.objects b) unchanged)) (nothing-in (slice_get p.objects b))
    ∙ ap (λ ls. deal-of p answers.Skip p.objects b [] ls) (nothing-out (slice_get p.objects b))
    )

-- an object that is not there is not changed
pub absent-deal : (p : Parts) (a : Answer) (b : ℕ) (change : Change) → slice_get p.objects b ≡ None
    → answering p a ≡ change_deal p a (Some b) change
absent-deal p a b change none = sym (
    ap (λ os. deal-of p a os b (taken_in (slice_get p.objects b) change) (given_out (slice_get p.objects b) change)) (sym (changed-past b change p.objects (past p.objects b none)))
    ∙ ap (λ o. deal-of p a p.objects b (taken_in o change) (given_out o change)) none
    )
