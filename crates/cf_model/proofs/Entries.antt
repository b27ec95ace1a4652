-- Entries of the lead and of threads told apart, and that a legal journal is determined by its choices.
use Rattle.std.proofs.Common.{◌≡◌, ℕ, List, [], ◌∷◌, ◌++◌, drop, Option, Some, refl, sym, ap, ◌∙◌, subst}
use Rattle.cf_ids.specs.declared.answer.Answer.{Answer}
use Rattle.cf_syntax.specs.declared.script.Script.{Script}
use Rattle.cf_next.specs.declared.action.Action.{Action}
use Rattle.cf_next.specs.declared.action.Action.TheVariants as actions
use Rattle.cf_model.specs.declared.entry.Entry.{Entry}
use Rattle.cf_model.specs.State.{State, start}
use Rattle.cf_model.specs.Steps.{demanded, acted}
use Rattle.cf_model.specs.Journals.{after_action, state_from, IsLegalStep, IsLegalAs, IsLegalEntry, IsLegalFrom, IsLegal}
use Rattle.cf_model.specs.Flowing.{flow_if, flow_in}
use Rattle.cf_model.specs.Choices.{Choice, steps, moves_time, stops_all, choice_in, choices_of}

-- an action of a thread
pub record IsStep (a : Action) : Type 0 where
  pub legal : (s : Script) (st : State) (e : Entry) → IsLegalAs s st e a → IsLegalStep s st e
  pub choice : (t : ℕ) → choice_in t a ≡ steps t
  pub after : (s : Script) (t : ℕ) (st : State) → after_action s t st a ≡ acted s t st (demanded s st t)
  pub flow : (s : Script) (t : ℕ) (st : State) → flow_in s t st a ≡ flow_if s t st (demanded s st t)

pub data ActionView : Action → Type 0 where
  is_tick : (n : ℕ) → ActionView (actions.Tick n)
  is_stall : ActionView actions.Stall
  is_step : (a : Action) → IsStep a → ActionView a

pub action_view : (a : Action) → ActionView a
action_view (actions.Tick n) = is_tick n
action_view actions.Stall = is_stall
action_view a = is_step a (record { legal = λ s st e h. h; choice = λ t. refl; after = λ s t st. refl; flow = λ s t st. refl })

-- ---- legal journals with the same choices

abbrev entry : ℕ → Action → Answer → Entry
entry t a x = record { thread = t; action = a; answer = x }

entries_same : (t : ℕ) (a b : Action) (x y : Answer) → a ≡ b → x ≡ y → entry t a x ≡ entry t b y
entries_same t a b x y e f = ap (λ (c : Action). entry t c x) e ∙ ap (λ (z : Answer). entry t b z) f

action_is : (a b : Action) → ◌≡◌ {A = Option Action} (Some a) (Some b) → a ≡ b
action_is a b e = cc

step_same : (s : Script) (st : State) (t : ℕ) (a b : Action) (x y : Answer) → IsLegalStep s st (entry t a x)
    → IsLegalStep s st (entry t b y) → entry t a x ≡ entry t b y
step_same s st t a b x y h k = entries_same t a b x y (action_is a b (sym h.next ∙ k.next)) (h.answer ∙ sym k.answer)

choice_thread : (t u : ℕ) → steps t ≡ steps u → t ≡ u
choice_thread t u e = cc

choice_time : (m n : ℕ) → moves_time m ≡ moves_time n → m ≡ n
choice_time m n e = cc

no_time : (t n : ℕ) → steps t ≡ moves_time n → ⊥
no_time t n e = cc

no_stop : (t : ℕ) → steps t ≡ stops_all → ⊥
no_stop t e = cc

time_no_stop : (n : ℕ) → moves_time n ≡ stops_all → ⊥
time_no_stop n e = cc

module _ (s : Script) (st : State) where
  same_by : (t u : ℕ) (a b : Action) (x y : Answer) → ActionView a → ActionView b → IsLegalAs s st (entry t a x) a
      → IsLegalAs s st (entry u b y) b → choice_in t a ≡ choice_in u b → entry t a x ≡ entry u b y
  same_by t u _ _ x y (is_tick n) (is_tick m) h k e =
      subst (λ (w : ℕ). entry t (actions.Tick n) x ≡ entry w (actions.Tick m) y) (h.0 ∙ sym k.0)
      (entries_same t (actions.Tick n) (actions.Tick m) x y (ap (λ (z : ℕ). actions.Tick z) (choice_time n m e)) (h.1 ∙ sym k.1))
  same_by t u _ _ x y (is_tick n) is_stall h k e = absurd (time_no_stop n e)
  same_by t u _ b x y (is_tick n) (is_step _ q) h k e = absurd (no_time u n (sym (q.choice u) ∙ sym e))
  same_by t u _ _ x y is_stall (is_tick m) h k e = absurd (time_no_stop m (sym e))
  same_by t u _ _ x y is_stall is_stall h k e =
      subst (λ (w : ℕ). entry t actions.Stall x ≡ entry w actions.Stall y) (h.0 ∙ sym k.0)
      (entries_same t actions.Stall actions.Stall x y refl (h.1 ∙ sym k.1))
  same_by t u _ b x y is_stall (is_step _ q) h k e = absurd (no_stop u (sym (q.choice u) ∙ sym e))
  same_by t u a _ x y (is_step _ p) (is_tick m) h k e = absurd (no_time t m (sym (p.choice t) ∙ e))
  same_by t u a _ x y (is_step _ p) is_stall h k e = absurd (no_stop t (sym (p.choice t) ∙ e))
  same_by t u a b x y (is_step _ p) (is_step _ q) h k e =
      let same : t ≡ u = choice_thread t u (sym (p.choice t) ∙ e ∙ q.choice u) in
      let second = subst (λ (w : ℕ). IsLegalStep s st (entry w b y)) (sym same) (q.legal s st (entry u b y) k) in
      subst (λ (w : ℕ). entry t a x ≡ entry w b y) same (step_same s st t a b x y (p.legal s st (entry t a x) h) second)

  pub same_entry : (e f : Entry) → IsLegalEntry s st e → IsLegalEntry s st f
      → choice_in e.thread e.action ≡ choice_in f.thread f.action
      → e ≡ f
  same_entry e f h k c = same_by e.thread f.thread e.action f.action e.answer f.answer (action_view e.action) (action_view f.action) h k c

head_is : (a b : Choice) (xs ys : List Choice) → a ∷ xs ≡ b ∷ ys → a ≡ b
head_is a b xs ys e = cc

tail_is : (a b : Choice) (xs ys : List Choice) → a ∷ xs ≡ b ∷ ys → xs ≡ ys
tail_is a b xs ys e = ap (drop 1) e

no_head : (a : Choice) (xs : List Choice) → [] ≡ a ∷ xs → ⊥
no_head a xs e = cc

determined_from : (s : Script) (st : State) (es fs : List Entry) → IsLegalFrom s st es → IsLegalFrom s st fs
    → choices_of es ≡ choices_of fs → es ≡ fs
determined_from s st [] [] h k e = refl
determined_from s st [] (f ∷ fs) h k e = absurd (no_head _ _ e)
determined_from s st (x ∷ es) [] h k e = absurd (no_head _ _ (sym e))
determined_from s st (x ∷ es) (f ∷ fs) h k e =
    let same = same_entry s st x f h.0 k.0 (head_is _ _ _ _ e) in
    let rest = subst (λ (y : Entry). IsLegalFrom s (after_action s y.thread st y.action) fs) (sym same) k.2 in
    let tails = determined_from s (after_action s x.thread st x.action) es fs h.2 rest (tail_is _ _ _ _ e) in
    ap (λ (y : Entry). y ∷ es) same ∙ ap (λ (ys : List Entry). f ∷ ys) tails

pub determined : (s : Script) (es fs : List Entry) → IsLegal s es → IsLegal s fs → choices_of es ≡ choices_of fs
    → es ≡ fs
determined s es fs h k e = determined_from s (start s) es fs h k e

-- ---- the state after two lists of entries

pub state-append : (s : Script) (st : State) (es more : List Entry)
    → state_from s st (es ++ more) ≡ state_from s (state_from s st es) more
state-append s st [] more = refl
state-append s st (e ∷ es) more = state-append s (after_action s e.thread st e.action) es more
