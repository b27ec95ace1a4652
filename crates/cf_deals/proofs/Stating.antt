-- The deal of a statement of a form that acts on bodies alone.
use Rattle.std.proofs.Common.{◌≡◌, ℕ, Bool, List, Option, refl}
use Rattle.cf_syntax.specs.declared.script.Script.{Script}
use Rattle.cf_syntax.specs.declared.mention.ModeWord.{ModeWord}
use Rattle.cf_syntax.specs.declared.mention.ThreadWord.{ThreadWord}
use Rattle.cf_syntax.specs.declared.statement.Statement.{Statement}
use Rattle.cf_syntax.specs.declared.statement.Statement.TheVariants as forms
use Rattle.cf_syntax.specs.Mentions.{first_of}
use Rattle.cf_contents.specs.Deeds.{deed_at}
use Rattle.cf_model.specs.Deals.{Deal, change_deal, change_unless_skipped, deal_of}
use Rattle.cf_model.specs.State.{State}

-- the deal of a change of a body
abbrev pub body_deal : Script → State → Statement → List (Option ℕ) → Deal
body_deal s st x used =
    let deed = deed_at s.classes st.parts.objects x used in
    change_deal st.parts deed.answer (first_of used) (change_unless_skipped deed.answer deed.change)

-- it is that of each statement but of those on loops, threads and notices
pub other-deal : (s : Script) (t : ℕ) (st : State) (x : Statement) (used : List (Option ℕ))
    → ((i : ℕ) (u : ThreadWord) (m : ModeWord) → x ≡ forms.Add i u m → ⊥)
    → ((i : ℕ) (u : ThreadWord) (m : ModeWord) → x ≡ forms.Drop i u m → ⊥)
    → ((u : ThreadWord) (m : ℕ) → x ≡ forms.Common u m → ⊥)
    → ((v : ℕ) → x ≡ forms.Signal v → ⊥)
    → ((v : ℕ) → x ≡ forms.Invalidate v → ⊥)
    → ((u : ThreadWord) → x ≡ forms.Wake u → ⊥)
    → ((u : ThreadWord) → x ≡ forms.Stop u → ⊥)
    → ((m : ℕ) (limit : Option ℕ) (once : Bool) → x ≡ forms.Run m limit once → ⊥)
    → ((v h : ℕ) (name filter : Option ℕ) → x ≡ forms.Observe v h name filter → ⊥)
    → ((v : ℕ) (name filter : Option ℕ) → x ≡ forms.Forget v name filter → ⊥)
    → ((n : ℕ) (info : Option ℕ) → x ≡ forms.Post n info → ⊥)
    → body_deal s st x used ≡ deal_of s t st x used
other-deal s t st (forms.Add i u m) used not_add not_drop not_common not_signal not_invalidate not_wake not_stop not_run not_observe not_forget not_post = absurd (not_add i u m refl)
other-deal s t st (forms.Drop i u m) used not_add not_drop not_common not_signal not_invalidate not_wake not_stop not_run not_observe not_forget not_post = absurd (not_drop i u m refl)
other-deal s t st (forms.Common u m) used not_add not_drop not_common not_signal not_invalidate not_wake not_stop not_run not_observe not_forget not_post = absurd (not_common u m refl)
other-deal s t st (forms.Signal v) used not_add not_drop not_common not_signal not_invalidate not_wake not_stop not_run not_observe not_forget not_post = absurd (not_signal v refl)
other-deal s t st (forms.Invalidate v) used not_add not_drop not_common not_signal not_invalidate not_wake not_stop not_run not_observe not_forget not_post = absurd (not_invalidate v refl)
other-deal s t st (forms.Wake u) used not_add not_drop not_common not_signal not_invalidate not_wake not_stop not_run not_observe not_forget not_post = absurd (not_wake u refl)
other-deal s t st (forms.Stop u) used not_add not_drop not_common not_signal not_invalidate not_wake not_stop not_run not_observe not_forget not_post = absurd (not_stop u refl)
other-deal s t st (forms.Run m limit once) used not_add not_drop not_common not_signal not_invalidate not_wake not_stop not_run not_observe not_forget not_post = absurd (not_run m limit once refl)
other-deal s t st (forms.Observe v h name filter) used not_add not_drop not_common not_signal not_invalidate not_wake not_stop not_run not_observe not_forget not_post = absurd (not_observe v h name filter refl)
other-deal s t st (forms.Forget v name filter) used not_add not_drop not_common not_signal not_invalidate not_wake not_stop not_run not_observe not_forget not_post = absurd (not_forget v name filter refl)
other-deal s t st (forms.Post n info) used not_add not_drop not_common not_signal not_invalidate not_wake not_stop not_run not_observe not_forget not_post = absurd (not_post n info refl)
other-deal s t st x used not_add not_drop not_common not_signal not_invalidate not_wake not_stop not_run not_observe not_forget not_post = refl
