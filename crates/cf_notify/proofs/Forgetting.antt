-- The loop that forgets the registrations of an observer.
use Rattle.std.proofs.Common.{◌≡◌, ℕ, suc, ◌+◌, ◌<◌, ◌≤◌, Bool, true, false, cond, List, [], ◌∷◌, ◌++◌, length, get_or, Option, Some, None, refl, sym, ap, ◌∙◌, ⊎_elim, arith, length-append}
use Rattle.std.specs.List.{slice_set}
use Rattle.std.proofs.lemmas.Bool.{cases_lt, both_ways}
use Rattle.std.proofs.lemmas.List.{get_or_past}
use Rattle.std.proofs.lemmas.Option.{same_Some, none-some}
use Rattle.rl_base.specs.declared.registrations.Registration.{Registration}
use Rattle.rl_base.specs.Receivers.{forgets, is_there_and}
use Rattle.cf_notify.specs.Centres.{Notices, without}
use Rattle.cf_notify.specs.Links.{IsNext, is_mark}
use Rattle.cf_notify.specs.Registered.{observer_mark, is_by, passes, upto, forgotten_upto, place_or, left_from}
use Rattle.cf_notify.proofs.Numbers.{upto_more, upto_gap, upto_most, forgotten_at, forgotten_more, forgotten_gap, forgotten_all}

by_below : (o : ℕ) (made : List (Option Registration)) (k : ℕ) → is_by o made k ≡ true → k < length made
by_below o made k t = ⊎_elim (λ lt. lt) (λ ge. let none : is_by o made k ≡ false = rw (get_or_past made k None ge)
    refl in absurd (both_ways _ none t)) (cases_lt k (length made))

-- what an observer forgets is its own
forgets_by : (o : ℕ) (name filter : Option ℕ) (made : List (Option Registration)) (j : ℕ) → is_by o made j ≡ false
    → passes (forgets o name filter) made j ≡ false
forgets_by o name filter made j f = own (get_or made j None) f
  where
    own : (r : Option Registration) → is_mark o (observer_mark r) ≡ false
        → is_there_and (forgets o name filter) r ≡ false
    own None g = refl
    own (Some r) g = rw g refl

-- the first registrations are dealt with, up to the one that is next
pub record IsForgetting (o : ℕ) (name filter : Option ℕ) (old now : Notices) (gone : ℕ) (at : Option ℕ) : Type 0 where
  pub left : now.made ≡ forgotten_upto (place_or at (length old.made)) (forgets o name filter) old.made
  pub room : now.room ≡ old.room
  pub count : gone ≡ length (upto (passes (forgets o name filter) old.made) (place_or at (length old.made)))
  pub its : (k : ℕ) → at ≡ Some k → is_by o old.made k ≡ true

-- none of the observer's stands between a number and its next one
none_between : (o : ℕ) (made : List (Option Registration)) (from : ℕ) (at : Option ℕ) → IsNext (is_by o made) from at
    → (j : ℕ) → from ≤ j → j < place_or at (length made) → is_by o made j ≡ false
none_between o made from None next j le lt = next j le
none_between o made from (Some k) next j le lt = next.2 j le lt

its_next : (o : ℕ) (made : List (Option Registration)) (from : ℕ) (at : Option ℕ) → IsNext (is_by o made) from at
    → (k : ℕ) → at ≡ Some k → is_by o made k ≡ true
its_next o made from None next k e = absurd (none-some k e)
its_next o made from (Some n) next k e = rw (← same_Some n k e) next.1

-- the next one is still there
pub its_now : (o : ℕ) (name filter : Option ℕ) (old now : Notices) (gone k : ℕ)
    → IsForgetting o name filter old now gone (Some k) → is_by o now.made k ≡ true
its_now o name filter old now gone k so_far =
    ap (λ r. is_mark o (observer_mark r)) (ap (λ ms. get_or ms k None) so_far.left ∙ forgotten_at k
    (forgets o name filter) old.made k (omega arith)) ∙ so_far.its k refl

pub forgetting_from : (o : ℕ) (name filter : Option ℕ) (old : Notices) (at : Option ℕ)
    → IsNext (is_by o old.made) 0 at → IsForgetting o name filter old old 0 at
forgetting_from o name filter old at next =
    let none : (j : ℕ) → 0 ≤ j → j < place_or at (length old.made) → passes (forgets o name filter) old.made j
    ≡ false = λ j le lt. forgets_by o name filter old.made j (none_between o old.made 0 at next j le lt) in
    record {
      left = sym (forgotten_gap (forgets o name filter) old.made 0 (place_or at (length old.made)) (omega arith) none);
      room = refl;
      count = sym (ap length (upto_gap (passes (forgets o name filter) old.made) 0 (place_or at (length old.made))
          (omega arith) none));
      its = its_next o old.made 0 at next;
    }

module _ (o : ℕ) (name filter : Option ℕ) (old now new : Notices) (gone more k : ℕ) (at : Option ℕ) (so_far : IsForgetting o name filter old now gone (Some k)) (next : IsNext (is_by o now.made) (k + 1) at) (step : new ≡ record now { made = cond (passes (forgets o name filter) now.made k) (slice_set now.made k None) now.made }) (counts : more ≡ gone + cond (passes (forgets o name filter) now.made k) 1 0) where
  abbrev test : Registration → Bool
  test = forgets o name filter

  short : k < length old.made
  short = by_below o old.made k (so_far.its k refl)

  same_at : (j : ℕ) → k ≤ j → get_or now.made j None ≡ get_or old.made j None
  same_at j le = ap (λ ms. get_or ms j None) so_far.left ∙ forgotten_at k test old.made j le

  here : passes test now.made k ≡ passes test old.made k
  here = ap (is_there_and test) (same_at k (omega arith))

  next_old : IsNext (is_by o old.made) (k + 1) at
  next_old = over at next
    where
      same_by : (j : ℕ) → k + 1 ≤ j → is_by o old.made j ≡ is_by o now.made j
      same_by j le = ap (λ r. is_mark o (observer_mark r)) (sym (same_at j (omega arith)))

      over : (r : Option ℕ) → IsNext (is_by o now.made) (k + 1) r → IsNext (is_by o old.made) (k + 1) r
      over None h = λ j le. same_by j le ∙ h j le
      over (Some n) h = (h.0, same_by n h.0 ∙ h.1, λ j le lt. same_by j le ∙ h.2 j le lt)

  further : k + 1 ≤ place_or at (length old.made)
  further = past at next_old
    where
      past : (r : Option ℕ) → IsNext (is_by o old.made) (k + 1) r → k + 1 ≤ place_or r (length old.made)
      past None h = omega (arith, short)
      past (Some n) h = h.0

  none : (j : ℕ) → k + 1 ≤ j → j < place_or at (length old.made) → passes test old.made j ≡ false
  none j le lt = forgets_by o name filter old.made j (none_between o old.made (k + 1) at next_old j le lt)

  pub forgetting_more : IsForgetting o name filter old new more at
  forgetting_more =
      let one : suc k ≡ k + 1 = omega arith in
      let made : new.made ≡ forgotten_upto (k + 1) test old.made = ap {A = Notices} (λ v. v.made) step
      ∙ (rw (here, so_far.left, ← one) (sym (forgotten_more k test old.made))) in
      record {
        left = made ∙ sym (forgotten_gap test old.made (k + 1) (place_or at (length old.made)) further none);
        room = ap {A = Notices} (λ v. v.room) step ∙ so_far.room;
        count = counts ∙ (rw (here, so_far.count) (sym (ap length (upto_gap (passes test old.made) (k + 1)
            (place_or at (length old.made)) further none ∙ upto_more (passes test old.made) k) ∙ pushed
            (passes test old.made k))));
        its = its_next o old.made (k + 1) at next_old;
      }
    where
      pushed : (t : Bool) → length (upto (passes test old.made) k ++ cond t (k ∷ []) []) ≡ length
          (upto (passes test old.made) k) + cond t 1 0
      pushed true = length-append (upto (passes test old.made) k) (k ∷ [])
      pushed false = length-append (upto (passes test old.made) k) []

  -- fewer are left
  pub forgetting_less : left_from at (length old.made) < left_from (Some k) (length old.made)
  forgetting_less = fewer at next_old
    where
      fewer : (r : Option ℕ) → IsNext (is_by o old.made) (k + 1) r
          → left_from r (length old.made) < left_from (Some k) (length old.made)
      fewer None h = omega (arith, short)
      fewer (Some n) h = omega (arith, short, h.0)

pub forgetting_room : (o : ℕ) (name filter : Option ℕ) (old now : Notices) (gone k : ℕ)
    → IsForgetting o name filter old now gone (Some k) → gone ≤ k
forgetting_room o name filter old now gone k so_far = omega (
  arith,
  so_far.count,
  upto_most
      (passes (forgets o name filter) old.made) k,
)

pub forgotten_now : (o : ℕ) (name filter : Option ℕ) (old now : Notices) (gone : ℕ) → IsForgetting o name filter old
    now gone None → now ≡ record old { made = without (forgets o name filter) old.made }
forgotten_now o name filter old now gone so_far = rw (
  ← so_far.room,
  ← forgotten_all (forgets o name filter) old.made,
  ← so_far.left,
) refl
