-- What an entry does to registrations: each stays or is forgotten, and one that is new is of objects that its
-- statement uses.
use Rattle.std.proofs.Common.{◌&&◌, ◌++◌, ◌<◌, ◌∙◌, ◌∷◌, ◌≡◌, ◌≤◌, ◌⊎◌, Bool, List, None, Option, Some, [], ap, arith, cond, false, inl, inr, length, length-append, map, not, refl, subst, suc, sym, true, zero, ℕ}
use Rattle.std.specs.Prelude.{slice_index_or}
use Rattle.cf_ids.specs.declared.answer.Answer.{Answer}
use Rattle.rl_base.specs.Receivers.{forgets, is_there_and}
use Rattle.rl_base.specs.declared.registrations.Registration.{Registration}
use Rattle.cf_syntax.specs.Mentions.{first_of, used_at}
use Rattle.cf_syntax.specs.declared.script.Script.{Script}
use Rattle.cf_syntax.specs.declared.statement.Statement.{Statement}
use Rattle.cf_syntax.specs.declared.statement.Statement.TheVariants as forms
use Rattle.cf_contents.specs.Deeds.{Change, deed_at}
use Rattle.cf_contents.specs.Items.{Item, kind_of, source_item}
use Rattle.cf_next.specs.Stands.{has_run}
use Rattle.cf_model.specs.Deals.{Deal, change_deal, change_unless_skipped, deal_of, forget_deal, holds_at, is_elsewhere, observe_deal, place_in, signal_deal, stays_in_one, thing_deal, thread_in, with_filter, with_thing, with_used}
use Rattle.cf_model.specs.State.{State, is_common, stand_at}
use Rattle.cf_model.specs.Things.{Thing, thing_at}

abbrev pub at_number : List (Option Registration) → ℕ → Option Registration
at_number rs n = slice_index_or rs n None

pub record RegistrationsGo (IsNew : Registration → Type 0) (rs ss : List (Option Registration)) : Type 0 where
  pub size : length rs ≤ length ss
  pub goes : (n : ℕ) → n < length rs → (at_number ss n ≡ at_number rs n) ⊎ (at_number ss n ≡ None)
  pub from : (n : ℕ) (r : Registration) → at_number ss n ≡ Some r → (at_number rs n ≡ Some r) ⊎ IsNew r

-- ---- lists

more_at : (rs : List (Option Registration)) (x : Option Registration) (n : ℕ) → n < length rs
    → at_number (rs ++ x ∷ []) n ≡ at_number rs n
more_at [] x n near = absurd (omega arith)
more_at (r ∷ rs) x zero near = refl
more_at (r ∷ rs) x (suc n) near = more_at rs x n (omega arith)

more_from : (rs : List (Option Registration)) (x r : Registration) (n : ℕ) → at_number (rs ++ Some x ∷ []) n ≡ Some r
    → (at_number rs n ≡ Some r) ⊎ (x ≡ r)
more_from [] x r zero e = inr (some_is x r e)
  where
    some_is : (a b : Registration) → ◌≡◌ {A = Option Registration} (Some a) (Some b) → a ≡ b
    some_is a b e = cc
more_from [] x r (suc n) e = inl e
more_from (q ∷ rs) x r zero e = inl e
more_from (q ∷ rs) x r (suc n) e = more_from rs x r n e

abbrev forget_if : (Registration → Bool) → Option Registration → Option Registration
forget_if gone r = cond (is_there_and gone r) None r

fewer_at : (gone : Registration → Bool) (rs : List (Option Registration)) (n : ℕ) → n < length rs
    → (at_number (map (forget_if gone) rs) n ≡ at_number rs n) ⊎ (at_number (map (forget_if gone) rs) n ≡ None)
fewer_at gone [] n near = absurd (omega arith)
fewer_at gone (r ∷ rs) zero near = by (is_there_and gone r)
  where
    by : (b : Bool) → (cond b None r ≡ r) ⊎ (cond b None r ≡ None)
    by true = inr refl
    by false = inl refl
fewer_at gone (r ∷ rs) (suc n) near = fewer_at gone rs n (omega arith)

fewer_from : (gone : Registration → Bool) (rs : List (Option Registration)) (r : Registration) (n : ℕ)
    → at_number (map (forget_if gone) rs) n ≡ Some r → at_number rs n ≡ Some r
fewer_from gone [] r n e = e
fewer_from gone (q ∷ rs) r zero e = by (is_there_and gone q) e
  where
    by : (b : Bool) → cond b None q ≡ Some r → q ≡ Some r
    by true e = absurd cc
    by false e = e
fewer_from gone (q ∷ rs) r (suc n) e = fewer_from gone rs r n e

fewer_size : (gone : Registration → Bool) (rs : List (Option Registration))
    → length (map (forget_if gone) rs) ≡ length rs
fewer_size gone [] = refl
fewer_size gone (r ∷ rs) = ap suc (fewer_size gone rs)

-- ---- deals

abbrev left_in : Deal → List (Option Registration)
left_in deal = deal.parts.registrations

module _ (IsNew : Registration → Type 0) (st : State) where
  abbrev before : List (Option Registration)
  before = st.parts.registrations

  abbrev Go : Deal → Type 0
  Go deal = RegistrationsGo IsNew before (left_in deal)

  pub same_go : (ss : List (Option Registration)) → ss ≡ before → RegistrationsGo IsNew before ss
  same_go ss e = record {
    size = omega (arith, ap length e);
    goes = λ n near. inl (ap (λ (rs : List (Option Registration)). at_number rs n) e);
    from = λ n r is. inl (ap (λ (rs : List (Option Registration)). at_number rs n) (sym e) ∙ is);
  }

  observe_go : (h : ℕ) (name : Option ℕ) (o : ℕ) (object : Option ℕ)
      → IsNew (record { observer = o; handler = h; name = name; filter = object })
      → Go (observe_deal st.parts h name o object)
  observe_go h name o object new =
      let x : Registration = record { observer = o; handler = h; name = name; filter = object } in
      record {
        size = omega (arith, length-append before (Some x ∷ []));
        goes = λ n near. inl (more_at before (Some x) n near);
        from = λ n r is. elim (more_from before x r n is) [ inl old ↦ inl old | inr e ↦ inr (subst IsNew e new) ];
      }

  forget_go : (name : Option ℕ) (o : ℕ) (object : Option ℕ) → Go (forget_deal st.parts name o object)
  forget_go name o object =
      let gone = forgets o name object in
      record {
        size = omega (arith, fewer_size gone before);
        goes = fewer_at gone before;
        from = λ n r is. inl (fewer_from gone before r n is);
      }

  either_go : (b : Bool) (x y : Deal) → Go x → Go y → Go (cond b x y)
  either_go true x y h k = h
  either_go false x y h k = k

  used_go : (used : Option ℕ) (deal : ℕ → Deal) → ((o : ℕ) → used ≡ Some o → Go (deal o))
      → Go (with_used st.parts used deal)
  used_go None deal h = same_go before refl
  used_go (Some o) deal h = h o refl

  thing_go : (used : Option ℕ) (deal : ℕ → Thing → Deal) → ((i : ℕ) (x : Thing) → Go (deal i x))
      → Go (with_thing st.parts used deal)
  thing_go None deal h = same_go before refl
  thing_go (Some i) deal h = by (thing_at st.parts i)
    where
      by : (x : Option Thing) → Go (thing_deal st.parts i deal x)
      by None = same_go before refl
      by (Some x) = h i x

  filter_go : (v object : Option ℕ) (deal : Option ℕ → Deal)
      → ((f : Option ℕ) → ((o : ℕ) → f ≡ Some o → object ≡ Some o) → Go (deal f))
      → Go (with_filter st.parts v object deal)
  filter_go None object deal h = h None (λ o e. absurd cc)
  filter_go (Some v) object deal h = used_go object (λ o. deal (Some o)) (λ o e. h (Some o) (λ p q. e ∙ q))

  signal_go : (i : ℕ) (valid : Bool) (item : Item) → Go (signal_deal st.parts i valid item)
  signal_go i true (source_item order on) = same_go before refl
  signal_go i false (source_item order on) = same_go before refl
  signal_go i valid _ = same_go before refl

  change_go : (answer : Answer) (b : Option ℕ) (change : Change) → Go (change_deal st.parts answer b change)
  change_go answer None change = same_go before refl
  change_go answer (Some b) change = same_go before refl

  -- a registration that is new has the first object that is used for its observer, and the second for its filter, if
  -- any
  pub deal_go : (s : Script) (t : ℕ) (x : Statement) (used : List (Option ℕ))
      → ((h o : ℕ) (name filter : Option ℕ) → first_of used ≡ Some o → ((p : ℕ) → filter ≡ Some p → used_at used 1 ≡ Some p) → IsNew (record { observer = o; handler = h; name = name; filter = filter }))
      → Go (deal_of s t st x used)
  deal_go s t (forms.Add v u m) used new = thing_go (first_of used) _ (λ i x. used_go (thread_in t u) _ (λ w e.
      either_go (not x.valid) _ _ (same_go before refl)
      (either_go (stays_in_one (kind_of x.item) && is_elsewhere s w i st.edges) _ _ (same_go before refl)
      (either_go (holds_at w i st.edges (place_in m)) _ _ (same_go before refl) (same_go before refl)))))
  deal_go s t (forms.Drop v u m) used new = thing_go (first_of used) _ (λ i x. used_go (thread_in t u) _ (λ w e.
      either_go (holds_at w i st.edges (place_in m)) _ _ (same_go before refl) (same_go before refl)))
  deal_go s t (forms.Common u m) used new = used_go (thread_in t u) _ (λ w e. either_go (is_common w st.parts.commons m) _ _ (same_go before refl) (same_go before refl))
  deal_go s t (forms.Signal v) used new = thing_go (first_of used) _ (λ i x. signal_go i x.valid x.item)
  deal_go s t (forms.Invalidate v) used new = thing_go (first_of used) _ (λ i x. either_go x.valid _ _ (same_go before refl) (same_go before refl))
  deal_go s t (forms.Wake u) used new = used_go (thread_in t u) _ (λ w e. same_go before refl)
  deal_go s t (forms.Stop u) used new = used_go (thread_in t u) _ (λ w e. either_go (has_run (stand_at w st.stands).frames) _ _ (same_go before refl) (same_go before refl))
  deal_go s t (forms.Run m limit once) used new = same_go before refl
  deal_go s t (forms.Observe v h name x) used new =
      used_go (first_of used) _ (λ o e. filter_go x (used_at used 1) _ (λ f is. observe_go h name o f (new h o name f e is)))
  deal_go s t (forms.Forget v name x) used new = used_go (first_of used) _ (λ o e. filter_go x (used_at used 1) _ (λ f is. forget_go name o f))
  deal_go s t (forms.Post name info) used new = same_go before refl
  deal_go s t x used new =
      let deed = deed_at s.classes st.parts.objects x used in
      change_go deed.answer (first_of used) (change_unless_skipped deed.answer deed.change)
