-- The step of what a thread demands fits, where its entry is legal.
use Rattle.std.proofs.Common.{◌≡◌, ℕ, ◌<◌, ◌⊎◌, Bool, true, false, cond, List, [], length, drop, map, Option, Some, None, refl, sym, ap, ◌∙◌, arith, inl, inr}
use Rattle.std.specs.Prelude.{slice_get, ◌&&◌, not}
use Rattle.cf_ids.specs.declared.answer.Answer.{Answer}
use Rattle.cf_ids.specs.declared.answer.Answer.TheVariants as answers
use Rattle.cf_syntax.specs.declared.script.Script.{Script}
use Rattle.cf_syntax.specs.declared.statement.Statement.{Statement}
use Rattle.cf_syntax.specs.declared.statement.Statement.TheVariants as forms
use Rattle.cf_syntax.specs.Mentions.{used_at, first_of}
use Rattle.cf_contents.specs.Contents.{Object, times, slots_at}
use Rattle.cf_contents.specs.Deeds.{Change, unchanged, deed_at, taken_in, given_out}
use Rattle.cf_contents.proofs.ContentLaws.{with_change-unchanged}
use Rattle.cf_contents.specs.Keys.{numbered, with_number_of, number_of}
use Rattle.cf_contents.proofs.SlotLaws.{taken_most}
use Rattle.cf_contents.proofs.FormLaws.{form_fits}
use Rattle.cf_graph.specs.Holders.{slot}
use Rattle.cf_graph.specs.Edges.{held_by}
use Rattle.cf_model.specs.State.{State}
use Rattle.rl_base.specs.declared.places.Place.{Place}
use Rattle.cf_contents.specs.Items.{kind_of}
use Rattle.cf_model.specs.Things.{Thing, thing_at}
use Rattle.cf_model.specs.Deals.{Deal, answering, skipping, change_unless_skipped, change_deal, thread_in, place_in, add_deal, deal_of, with_thing, thing_deal, with_used, stays_in_one, is_elsewhere, holds_at}
use Rattle.cf_model.proofs.Balance.{IsLive}
use Rattle.cf_model.proofs.DealLaws.{FitsDeal, same_bodies, quiet_fits, used_fits, thing_fits, filter_fits, change_fits, add_fits, drop_fits, common_fits, signal_fits, invalidate_fits, wake_fits, stop_fits}
use Rattle.cf_model.proofs.Steady.{IsSteady}

number_is : (objects : List Object) (used : Option ℕ) (o : ℕ) → number_of (numbered objects used) ≡ Some o
    → used ≡ Some o
number_is objects None o e = absurd cc
number_is objects (Some p) o e = by (slice_get objects p) e
  where
    by : (ob : Option Object) → number_of (with_number_of p ob) ≡ Some o → Some p ≡ Some o
    by None e = absurd cc
    by (Some ob) e = e

-- what a deed takes in is among the objects that its statement uses
taken_used : (s : Script) (st : State) (x : Statement) (used : List (Option ℕ)) (b o : ℕ)
    → 0 < times o (taken_in (slice_get st.parts.objects b) (deed_at s.classes st.parts.objects x used).change)
    → (used_at used 1 ≡ Some o) ⊎ (used_at used 2 ≡ Some o)
taken_used s st x used b o some =
    let deed = deed_at s.classes st.parts.objects x used in
    let fits = form_fits s.classes x (numbered st.parts.objects (used_at used 0)) (numbered st.parts.objects (used_at used 1)) (numbered st.parts.objects (used_at used 2)) in
    elim (fits.used.among o (omega (arith, some, taken_most o deed.change (slice_get st.parts.objects b)))) [
      | inl e ↦ inl (number_is st.parts.objects (used_at used 1) o e)
      | inr e ↦ inr (number_is st.parts.objects (used_at used 2) o e)
    ]

module _ (s : Script) (t : ℕ) (st : State) (h : IsSteady st) where
  -- a change by a deed, where what is used is live; a statement that is skipped changes nothing
  skipped_quiet : (b : Option ℕ) → FitsDeal st (change_deal st.parts answers.Skip b unchanged)
  skipped_quiet None = quiet_fits st _ refl refl (same_bodies st)
  skipped_quiet (Some b) = quiet_fits st _ (none_in (slice_get st.parts.objects b)) (none_out (slice_get st.parts.objects b)) (record { shape = record { finalised = refl; size = ap length (with_change-unchanged b st.parts.objects); dropped = refl }; left = λ a. ap (λ obs. drop (times a st.parts.dropped) (slots_at (slice_get obs a))) (with_change-unchanged b st.parts.objects) })
    where
      none_in : (ob : Option Object) → map (held_by (slot b)) (taken_in ob unchanged) ≡ []
      none_in None = refl
      none_in (Some ob) = refl

      none_out : (ob : Option Object) → map (held_by (slot b)) (given_out ob unchanged) ≡ []
      none_out None = refl
      none_out (Some ob) = refl

  deed_fits : (x : Statement) (used : List (Option ℕ)) (answer : Answer)
      → ((answer ≡ answers.Skip → ⊥) → (i o : ℕ) → used_at used i ≡ Some o → IsLive st o)
      → FitsDeal st (change_deal st.parts answer (first_of used) (change_unless_skipped answer (deed_at s.classes st.parts.objects x used).change))
  deed_fits x used answers.Skip live = skipped_quiet (first_of used)
  deed_fits x used answer live = change_fits st answer (first_of used) _ h.slotted
      (λ b is. let l = live (λ q. absurd cc) 0 b is in (l.0, h.undropped b l.0))
      (λ b o is some. elim (taken_used s st x used b o some) [ inl a ↦ live (λ q. absurd cc) 1 o a | inr a ↦ live (λ q. absurd cc) 2 o a ])

  change_answer : (answer : Answer) (b : Option ℕ) (change : Change)
      → (change_deal st.parts answer b change).answer ≡ answer
  change_answer answer None change = refl
  change_answer answer (Some b) change = refl

  -- what is used is live where the deal does not skip
  abbrev LiveIf : List (Option ℕ) → Deal → Type 0
  LiveIf used deal = (deal.answer ≡ answers.Skip → ⊥) → (i o : ℕ) → used_at used i ≡ Some o → IsLive st o

  no_skip : (b : Bool) (x y : Deal) → (x.answer ≡ answers.Skip → ⊥) → (y.answer ≡ answers.Skip → ⊥)
      → (cond b x y).answer ≡ answers.Skip → ⊥
  no_skip true x y h k = h
  no_skip false x y h k = k

  add_answers : (u : ℕ) (p : Place) (i : ℕ) (x : Thing) → (add_deal s st u p i x).answer ≡ answers.Skip → ⊥
  add_answers u p i x =
      no_skip (not x.valid) (answering st.parts answers.Invalid) _ (λ q. absurd cc)
      (no_skip (stays_in_one (kind_of x.item) && is_elsewhere s u i st.edges) (answering st.parts answers.Elsewhere) _ (λ q. absurd cc)
      (no_skip (holds_at u i st.edges p) (answering st.parts answers.Present) _ (λ q. absurd cc) (λ q. absurd cc)))

  add_case : (used : List (Option ℕ)) (p : Place) (first w : Option ℕ) → first_of used ≡ first
      → LiveIf used (with_thing st.parts first (λ i x. with_used st.parts w (λ u. add_deal s st u p i x)))
      → FitsDeal st (with_thing st.parts first (λ i x. with_used st.parts w (λ u. add_deal s st u p i x)))
  add_case used p None w e live = quiet_fits st (skipping st.parts) refl refl (same_bodies st)
  add_case used p (Some i) w e live = by (thing_at st.parts i) live
    where
      in_loop : (x : Thing) (w : Option ℕ) → LiveIf used (with_used st.parts w (λ u. add_deal s st u p i x))
          → FitsDeal st (with_used st.parts w (λ u. add_deal s st u p i x))
      in_loop x None live = quiet_fits st (skipping st.parts) refl refl (same_bodies st)
      in_loop x (Some u) live = add_fits s st u p i x (live (add_answers u p i x) 0 i e)

      by : (x : Option Thing)
          → LiveIf used (thing_deal st.parts i (λ i x. with_used st.parts w (λ u. add_deal s st u p i x)) x)
          → FitsDeal st (thing_deal st.parts i (λ i x. with_used st.parts w (λ u. add_deal s st u p i x)) x)
      by None live = quiet_fits st (skipping st.parts) refl refl (same_bodies st)
      by (Some x) live = in_loop x w live

  -- the deal of each statement fits
  pub deal_of_fits : (x : Statement) (used : List (Option ℕ)) → LiveIf used (deal_of s t st x used)
      → FitsDeal st (deal_of s t st x used)
  deal_of_fits (forms.Add v u m) used live = add_case used (place_in m) (first_of used) (thread_in t u) refl live
  deal_of_fits (forms.Drop v u m) used live = thing_fits st (first_of used) _ (λ i x e. used_fits st (thread_in t u) _ (λ w f. drop_fits s st w (place_in m) i))
  deal_of_fits (forms.Common u m) used live = used_fits st (thread_in t u) _ (λ w f. common_fits st w m h.balance)
  deal_of_fits (forms.Signal v) used live = thing_fits st (first_of used) _ (λ i x e. signal_fits st i x.valid x.item)
  deal_of_fits (forms.Invalidate v) used live = thing_fits st (first_of used) _ (λ i x e. invalidate_fits s st i x)
  deal_of_fits (forms.Wake u) used live = used_fits st (thread_in t u) _ (λ w f. wake_fits st w)
  deal_of_fits (forms.Stop u) used live = used_fits st (thread_in t u) _ (λ w f. stop_fits st w)
  deal_of_fits (forms.Run m limit once) used live = quiet_fits st _ refl refl (same_bodies st)
  deal_of_fits (forms.Observe v k name x) used live =
      used_fits st (first_of used) _ (λ o e. filter_fits st x (used_at used 1) _ (λ q. quiet_fits st _ refl refl (record { shape = record { finalised = refl; size = refl; dropped = refl }; left = λ b. refl })))
  deal_of_fits (forms.Forget v name x) used live =
      used_fits st (first_of used) _ (λ o e. filter_fits st x (used_at used 1) _ (λ q. quiet_fits st _ refl refl (record { shape = record { finalised = refl; size = refl; dropped = refl }; left = λ b. refl })))
  deal_of_fits (forms.Post name info) used live = quiet_fits st _ refl refl (same_bodies st)
  deal_of_fits x used live =
      let answer = (deed_at s.classes st.parts.objects x used).answer in
      let change = change_unless_skipped answer (deed_at s.classes st.parts.objects x used).change in
      deed_fits x used answer (λ no_skip. live (λ q. no_skip (sym (change_answer answer (first_of used) change) ∙ q)))
