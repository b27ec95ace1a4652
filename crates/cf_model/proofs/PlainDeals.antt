-- What statements do that act on bodies alone: each deals as its deed says, and leaves loops and notices alone.
use Rattle.std.proofs.Common.{◌≡◌, ℕ, zero, suc, Bool, true, false, List, [], Option, None, refl, sym}
use Rattle.std.specs.Prelude.{slice_get}
use Rattle.cf_ids.specs.declared.answer.Answer.{Answer}
use Rattle.cf_ids.specs.declared.answer.Answer.TheVariants as answers
use Rattle.cf_syntax.specs.declared.script.Script.{Script}
use Rattle.cf_syntax.specs.declared.statement.Statement.{Statement}
use Rattle.cf_syntax.specs.declared.statement.Statement.TheVariants as forms
use Rattle.cf_syntax.specs.Mentions.{used_at}
use Rattle.cf_syntax.specs.BlockLines.{says}
use Rattle.cf_contents.specs.Contents.{Object}
use Rattle.cf_contents.specs.Keys.{numbered}
use Rattle.cf_contents.specs.Deeds.{Origin, nowhere, fresh, there, Change}
use Rattle.cf_contents.proofs.FormLaws.{form_fits, MakesNoItem, SkipsAll}
use Rattle.cf_next.specs.Advance.{is_post, run_frames}
use Rattle.cf_model.specs.State.{Parts, State}
use Rattle.cf_model.specs.Things.{thing_of}
use Rattle.cf_model.specs.Deals.{change_unless_skipped, deal_of, posts_of}
use Rattle.cf_model.specs.Steps.{item_made, made_from}
use Rattle.cf_model.specs.Plain.{ActsOnBodies, deed_in, deed_deal, DealsPlainly}
use Rattle.cf_model.proofs.DeedLaws.{no_item}

-- ---- a deed that is skipped changes nothing

skipped_alike : (a : Answer) (change : Change) → SkipsAll a change → change_unless_skipped a change ≡ change
skipped_alike answers.Skip change h = sym h
skipped_alike _ change h = refl

pub deed_fits : (s : Script) (st : State) (x : Statement) (used : List (Option ℕ))
    → (change_unless_skipped (deed_in s st x used).answer (deed_in s st x used).change ≡ (deed_in s st x used).change) × MakesNoItem (deed_in s st x used).origin
deed_fits s st x used =
    let fits = form_fits s.classes x (numbered st.parts.objects (used_at used 0)) (numbered st.parts.objects (used_at used 1)) (numbered st.parts.objects (used_at used 2)) in
    (skipped_alike (deed_in s st x used).answer (deed_in s st x used).change fits.skips, fits.items)

-- ---- the deal of a statement

plain_deal : (s : Script) (t : ℕ) (st : State) (x : Statement) (used : List (Option ℕ)) → ActsOnBodies x
    → deal_of s t st x used ≡ deed_deal st.parts (deed_in s st x used) used
plain_deal s t st (forms.Add item thread mode) used h = absurd h
plain_deal s t st (forms.Drop item thread mode) used h = absurd h
plain_deal s t st (forms.Common thread mode) used h = absurd h
plain_deal s t st (forms.Signal source) used h = absurd h
plain_deal s t st (forms.Invalidate item) used h = absurd h
plain_deal s t st (forms.Wake thread) used h = absurd h
plain_deal s t st (forms.Stop thread) used h = absurd h
plain_deal s t st (forms.Run mode limit once) used h = absurd h
plain_deal s t st (forms.Observe observer handler name object) used h = absurd h
plain_deal s t st (forms.Forget observer name object) used h = absurd h
plain_deal s t st (forms.Post name info) used h = absurd h
plain_deal s t st x used h = refl

plain_posts : (p : Parts) (x : Statement) (used : List (Option ℕ)) → ActsOnBodies x → posts_of p x used ≡ []
plain_posts p (forms.Post name info) used h = absurd h
plain_posts p x used h = refl

plain_made : (x : Statement) → ActsOnBodies x → item_made x ≡ None
plain_made (forms.MakeSource v order handler info) h = absurd h
plain_made (forms.MakeTimer v first interval handler info) h = absurd h
plain_made (forms.MakeObserver v mask repeats order handler info) h = absurd h
plain_made x h = refl

plain_post : (x : Statement) → ActsOnBodies x → is_post (says x) ≡ false
plain_post (forms.Post name info) h = absurd h
plain_post x h = refl

plain_runs : (x : Statement) → ActsOnBodies x → (time : ℕ) (entered : Bool)
    → run_frames time (says x) entered ≡ []
plain_runs (forms.Run mode limit once) h time entered = absurd h
plain_runs x h time true = refl
plain_runs x h time false = refl

pub deals_plainly : (s : Script) (t : ℕ) (st : State) (x : Statement) (used : List (Option ℕ)) → ActsOnBodies x
    → DealsPlainly s t st x used
deals_plainly s t st x used h = record {
  deal = plain_deal s t st x used h;
  skips = (deed_fits s st x used).0;
  posts = plain_posts st.parts x used h;
  made = plain_made x h;
  post = plain_post x h;
  runs = plain_runs x h;
}

-- ---- what a deed makes is no item

-- no object of a list is an item
abbrev pub NoThings : List Object → Type 0
NoThings obs = (i : ℕ) → thing_of (slice_get obs i) ≡ None

none_there : NoThings []
none_there zero = refl
none_there (suc i) = refl

pub made_no_things : (origin : Origin) → MakesNoItem origin → NoThings (made_from origin)
made_no_things nowhere h i = none_there i
made_no_things (fresh ob) h zero = no_item ob.content h
made_no_things (fresh ob) h (suc i) = none_there i
made_no_things (there o) h i = none_there i
