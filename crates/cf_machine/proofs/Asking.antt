-- What a thread does next, by its frames.
use Rattle.std.proofs.Common.{◌≡◌, ℕ, Bool, true, false, cond, Option, Some, None, sym, ap, subst, ◌∙◌}
use Rattle.std.specs.Prelude.{MatchOption}
use Rattle.cf_syntax.specs.declared.script.Script.{Script}
use Rattle.cf_next.specs.declared.action.Action.{Action}
use Rattle.cf_next.specs.declared.step.Step.{Step}
use Rattle.cf_next.specs.Facts.{Facts}
use Rattle.cf_next.specs.Next.{action_if, action_in, next}
use Rattle.cf_next.specs.Stands.{Stand}
use Rattle.cf_next.specs.Steps.{IsStep, demand_of}
use Rattle.cf_model.specs.Journals.{Next, can_go}
use Rattle.cf_model.specs.Known.{facts_of}
use Rattle.cf_model.specs.State.{State, blank, stand_at}

-- what frames tell of their thread: a step if it is the one, else that it is not
abbrev pub Tells : Script → Facts → ℕ → Stand → Action → Option Action → Option Step → Type 0
Tells s facts t stand a q r = MatchOption r (q ≡ Some a → ⊥) (λ x. (q ≡ Some a) × IsStep s facts t stand x)

pub carried : (s : Script) (st : State) (t : ℕ) (a : Action) (facts : Facts) (who : ℕ) (stand : Stand) (r : Option Step)
    → can_go st t ≡ true → facts ≡ facts_of st → who ≡ t → stand ≡ stand_at t st.stands
    → Tells s facts who stand a (next s facts who stand) r
    → Tells s (facts_of st) t (stand_at t st.stands) a (Next s st t) r
carried s st t a facts who stand r go f w d h =
    let one = subst (λ (k : Facts). Tells s k who stand a (next s k who stand) r) f h in
    let two = subst (λ (k : ℕ). Tells s (facts_of st) k stand a (next s (facts_of st) k stand) r) w one in
    let three = subst (λ (k : Stand). Tells s (facts_of st) t k a (next s (facts_of st) t k) r) d two in
    let same : Next s st t ≡ next s (facts_of st) t (stand_at t st.stands) =
    ap (λ (b : Bool). cond b (next s (facts_of st) t (stand_at t st.stands)) None) go in
    subst (λ (q : Option Action). Tells s (facts_of st) t (stand_at t st.stands) a q r) (sym same) three

-- a thread that can't go on, or is not there, does nothing next
pub resting : (s : Script) (st : State) (t : ℕ) (a : Action) → can_go st t ≡ false → Next s st t ≡ Some a → ⊥
resting s st t a h is =
    let none : Next s st t ≡ None = ap (λ (b : Bool). cond b (next s (facts_of st) t (stand_at t st.stands)) None) h in cc

pub absent : (s : Script) (st : State) (t : ℕ) (a : Action) → can_go st t ≡ true → stand_at t st.stands ≡ blank
    → Next s st t ≡ Some a → ⊥
absent s st t a go h is =
    let none : Next s st t ≡ None = (λ i. cond (go i) (next s (facts_of st) t (h i)) None) in cc

-- what a step's action is
pub acts : (s : Script) (facts : Facts) (t : ℕ) (stand : Stand) (x : Step) → IsStep s facts t stand x
    → next s facts t stand ≡ Some (action_in s facts t stand.frames (demand_of x))
acts s facts t stand x h = ap (action_if s facts t stand.frames) h.demand

pub differs : (s : Script) (facts : Facts) (t : ℕ) (stand : Stand) (x : Step) (a : Action) → IsStep s facts t stand x
    → (action_in s facts t stand.frames (demand_of x) ≡ a → ⊥) → next s facts t stand ≡ Some a → ⊥
differs s facts t stand x a h not is =
    let e : Some (action_in s facts t stand.frames (demand_of x)) ≡ Some a = sym (acts s facts t stand x h) ∙ is in
    not (cc)
