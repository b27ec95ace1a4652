-- The loop that collects the receivers of a notice.
use Rattle.std.proofs.Common.{◌≡◌, ◌≢◌, ◌⊎◌, ℕ, ◌+◌, ◌-◌, ◌<◌, ◌≤◌, Bool, true, false, cond, eqb, ltb, List, [], ◌∷◌, ◌++◌, length, get_or, Option, Some, None, Vec, vec_len, vec_capacity, refl, sym, ap, ◌∙◌, inl, inr, ⊎_elim, arith, length-append, append_assoc, append-nil}
use Rattle.std.proofs.lemmas.Bool.{cases_lt, cases_eq, cases_Bool, both_ways, false_from_ne_true, eqb-true, eq-eqb, ltb-true, ltb-false}
use Rattle.std.proofs.lemmas.List.{get_or_past}
use Rattle.std.proofs.lemmas.Option.{same_Some, none-some}
use Rattle.rl_base.specs.declared.registrations.Registration.{Registration}
use Rattle.rl_base.specs.Receivers.{takes, matches, is_there_and, receivers}
use Rattle.cf_notify.specs.Centres.{count_there}
use Rattle.cf_notify.specs.Links.{IsNext, is_mark}
use Rattle.cf_notify.specs.Registered.{list_of, name_mark, is_named, passes, upto, least, left_from}
use Rattle.cf_notify.proofs.Numbers.{upto_more, upto_gap, upto_le, passes_most, mark_is}

-- what receives a notice is registered for its name or for any
received_named : (name : ℕ) (object : Option ℕ) (made : List (Option Registration)) (j : ℕ)
    → is_named (name + 1) made j ≡ false → is_named 0 made j ≡ false → passes (matches name object) made j ≡ false
received_named name object made j named any = own (get_or made j None) named any
  where
    by_name : (r : Registration) (n : Option ℕ) → eqb (list_of n) (name + 1) ≡ false → eqb (list_of n) 0 ≡ false
        → takes n (Some name) ≡ false
    by_name r None f g = absurd (both_ways _ g refl)
    by_name r (Some n) f g = false_from_ne_true _ (λ t. both_ways _ f (eq-eqb (n + 1) (name + 1)
        (let e : n ≡ name = eqb-true n name t in rw e refl)))

    own : (r : Option Registration) → is_mark (name + 1) (name_mark r) ≡ false → is_mark 0 (name_mark r) ≡ false
        → is_there_and (matches name object) r ≡ false
    own None f g = refl
    own (Some r) f g = rw (by_name r r.name f g) refl

is_it : (r : Option ℕ) (j : ℕ) → (r ≡ Some j) ⊎ (r ≢ Some j)
is_it None j = inr (λ e. none-some j e)
is_it (Some k) j = ⊎_elim (λ e. inl (ap Some e)) (λ ne. inr (λ e. ne (same_Some k j e))) (cases_eq k j)

one_list : (l m : ℕ) (made : List (Option Registration)) (k : ℕ) → is_named l made k ≡ true → is_named m made k ≡ true
    → l ≡ m
one_list l m made k s t = same_Some l m (sym (mark_is l _ s) ∙ mark_is m _ t)

named_below : (l : ℕ) (made : List (Option Registration)) (k : ℕ) → is_named l made k ≡ true → k < length made
named_below l made k t = ⊎_elim (λ lt. lt) (λ ge. let none : is_named l made k ≡ false =
    rw (get_or_past made k None ge) refl in absurd (both_ways _ none t)) (cases_lt k (length made))

-- the registrations below a bound are dealt with, and the next ones of both lists are known
pub record IsCollecting (name : ℕ) (object : Option ℕ) (made : List (Option Registration)) {Y : Type 0}
    (old now : Vec ℕ Y) (named any : Option ℕ) : Type 0 where
  pub bound : ℕ
  pub within : bound ≤ length made
  pub items : now.items ≡ old.items ++ upto (passes (matches name object) made) bound
  pub len : vec_len now ≡ vec_len old + length (upto (passes (matches name object) made) bound)
  pub capacity : vec_capacity now ≡ vec_capacity old
  pub next_named : IsNext (is_named (name + 1) made) bound named
  pub next_any : IsNext (is_named 0 made) bound any

-- ---- the lesser of two next ones

module _ (test other : ℕ → Bool) where
  none_before : (named any : Option ℕ) (bound k : ℕ) → IsNext test bound named → IsNext other bound any
      → least named any ≡ Some k → (bound ≤ k) × ((j : ℕ) → bound ≤ j → j < k → test j ≡ false)
      × ((j : ℕ) → bound ≤ j → j < k → other j ≡ false)
  none_before None None bound k next next' e = absurd (none-some k e)
  none_before None (Some n) bound k next next' e =
      let same : n ≡ k = same_Some n k e in
      (rw (← same) next'.0, λ j le lt. next j le, rw (← same) next'.2)
  none_before (Some m) None bound k next next' e =
      let same : m ≡ k = same_Some m k e in
      (rw (← same) next.0, rw (← same) next.2, λ j le lt. next' j le)
  none_before (Some m) (Some n) bound k next next' e =
      ⊎_elim
      (λ t. let same : m ≡ k = same_Some m k (rw t at e) in
      let below = ltb-true m n t in
      (omega (arith, next.0), λ j le lt. next.2 j le (omega arith), λ j le lt. next'.2 j le (omega arith)))
      (λ f. let same : n ≡ k = same_Some n k (rw f at e) in
      let above = ltb-false m n f in
      (omega (arith, next'.0), λ j le lt. next.2 j le (omega arith), λ j le lt. next'.2 j le (omega arith)))
      (cases_Bool (ltb m n))

  -- the first of the two is the lesser one, so the second, if it is another number, is higher
  higher : (n k : ℕ) (any : Option ℕ) → n ≢ k → least (Some k) any ≡ Some k → any ≡ Some n → k + 1 ≤ n
  higher n k None apart e is = absurd (none-some n is)
  higher n k (Some m) apart e is =
      let same : m ≡ n = same_Some m n is in
      ⊎_elim
      (λ t. let below = ltb-true k m t in omega arith)
      (λ f. absurd (apart (sym same ∙ same_Some m k (rw f at e))))
      (cases_Bool (ltb k m))

  higher' : (m k : ℕ) (named : Option ℕ) → named ≢ Some k → least named (Some k) ≡ Some k → named ≡ Some m → k + 1 ≤ m
  higher' m k None apart e is = absurd (none-some m is)
  higher' m k (Some n) apart e is =
      let same : n ≡ m = same_Some n m is in
      ⊎_elim
      (λ t. absurd (apart (ap Some (same_Some n k (rw t at e)))))
      (λ f. let above = ltb-false n k f in
      ⊎_elim (λ g. absurd (apart (ap Some g))) (λ ne. omega arith) (cases_eq n k))
      (cases_Bool (ltb n k))

second_is : (named any : Option ℕ) (k : ℕ) → named ≢ Some k → least named any ≡ Some k → any ≡ Some k
second_is None any k apart e = e
second_is (Some m) None k apart e = absurd (apart e)
second_is (Some m) (Some n) k apart e =
    ⊎_elim
    (λ t. absurd (apart (ap Some (same_Some m k (rw t at e)))))
    (λ f. rw f at e)
    (cases_Bool (ltb m n))

none_both : (named any : Option ℕ) → least named any ≡ None → (named ≡ None) × (any ≡ None)
none_both None None e = (refl, refl)
none_both None (Some n) e = absurd (none-some n (sym e))
none_both (Some m) None e = absurd (none-some m (sym e))
none_both (Some m) (Some n) e = absurd (none-some _ (sym e))

next_later : (test : ℕ → Bool) (bound later : ℕ) (r : Option ℕ) → bound ≤ later → ((n : ℕ) → r ≡ Some n → later ≤ n)
    → IsNext test bound r → IsNext test later r
next_later test bound later None le past next = λ j ge. next j (omega arith)
next_later test bound later (Some n) le past next = (past n refl, next.1, λ j ge lt. next.2 j (omega arith) lt)

next_at : (test : ℕ → Bool) (bound k : ℕ) (r : Option ℕ) → IsNext test bound r → r ≡ Some k → test k ≡ true
next_at test bound k None next e = absurd (none-some k e)
next_at test bound k (Some n) next e = rw (← same_Some n k e) next.1

-- ---- the loop

module _ (name : ℕ) (object : Option ℕ) (made : List (Option Registration)) {Y : Type 0} (old now : Vec ℕ Y) (named any : Option ℕ) (so_far : IsCollecting name object made old now named any) where
  abbrev pass : ℕ → Bool
  pass = passes (matches name object) made

  module _ (k : ℕ) (pick : least named any ≡ Some k) where
    between : (so_far.bound ≤ k) × ((j : ℕ) → so_far.bound ≤ j → j < k → is_named (name + 1) made j ≡ false)
        × ((j : ℕ) → so_far.bound ≤ j → j < k → is_named 0 made j ≡ false)
    between = none_before (is_named (name + 1) made) (is_named 0 made) named any so_far.bound k so_far.next_named
        so_far.next_any pick

    short : k < length made
    short = ⊎_elim
        (λ g. named_below (name + 1) made k (next_at (is_named (name + 1) made) so_far.bound k named so_far.next_named
        g))
        (λ apart. named_below 0 made k (next_at (is_named 0 made) so_far.bound k any so_far.next_any
        (second_is named any k apart pick)))
        (is_it named k)

    upto_k : upto pass (k + 1) ≡ upto pass so_far.bound ++ cond (pass k) (k ∷ []) []
    upto_k = upto_more pass k ∙ ap (λ ns. ns ++ cond (pass k) (k ∷ []) [])
        (upto_gap pass so_far.bound k between.0 (λ j le lt. received_named name object made j (between.1 j le lt)
        (between.2 j le lt)))

    -- there is room for one that passes
    pub collecting_room : vec_len old + count_there made ≤ vec_capacity old → pass k ≡ true
        → vec_len now < vec_capacity now
    collecting_room room t =
        let more : length (upto pass (k + 1)) ≡ length (upto pass so_far.bound) + 1 = ap length upto_k
        ∙ (rw t (length-append (upto pass so_far.bound) (k ∷ []))) in
        let gap : (k + 1) + (length made - (k + 1)) ≡ length made = omega (arith, short) in
        let all : length (upto pass (k + 1)) ≤ length (upto pass (length made)) =
        rw gap at (upto_le pass (length made - (k + 1)) (k + 1)) in
        omega (arith, room, more, all, passes_most (matches name object) made, so_far.len, so_far.capacity)

    module _ (new : Vec ℕ Y) (items : new.items ≡ cond (pass k) (now.items ++ k ∷ []) now.items) (len : vec_len new ≡ cond (pass k) (vec_len now + 1) (vec_len now)) (capacity : vec_capacity new ≡ vec_capacity now) where
      items_now : new.items ≡ old.items ++ upto pass (k + 1)
      items_now = items ∙ (rw (upto_k, so_far.items) (pushed (pass k)))
        where
          pushed : (t : Bool) → cond t ((old.items ++ upto pass so_far.bound) ++ k ∷ [])
              (old.items ++ upto pass so_far.bound) ≡ old.items ++ (upto pass so_far.bound ++ cond t (k ∷ []) [])
          pushed true = append_assoc old.items (upto pass so_far.bound) (k ∷ [])
          pushed false = ap (λ ns. old.items ++ ns) (sym (append-nil (upto pass so_far.bound)))

      len_now : vec_len new ≡ vec_len old + length (upto pass (k + 1))
      len_now = len ∙ (rw (upto_k, so_far.len) (pushed (pass k)))
        where
          pushed : (t : Bool) → cond t (vec_len old + length (upto pass so_far.bound) + 1)
              (vec_len old + length (upto pass so_far.bound)) ≡ vec_len old + length
              (upto pass so_far.bound ++ cond t (k ∷ []) [])
          pushed true = omega (arith, length-append (upto pass so_far.bound) (k ∷ []))
          pushed false = omega (arith, length-append (upto pass so_far.bound) ([]))

      -- the one for the name was taken
      pub collecting_named : (after : Option ℕ) → named ≡ Some k → IsNext (is_named (name + 1) made) (k + 1) after
          → IsCollecting name object made old new after any
      collecting_named after is next = record {
        bound = k + 1;
        within = omega (arith, short);
        items = items_now;
        len = len_now;
        capacity = capacity ∙ so_far.capacity;
        next_named = next;
        next_any = next_later (is_named 0 made) so_far.bound (k + 1) any (omega (arith, between.0))
            (λ n e. higher (is_named 0 made) (is_named 0 made) n k any
            (λ g. absurd (omega (
              arith,
              one_list (name + 1) 0 made k (next_at (is_named (name + 1) made) so_far.bound k
                  named so_far.next_named is) (next_at (is_named 0 made) so_far.bound k any so_far.next_any
                  (e ∙ ap Some g)),
            ))) (rw is at pick) e) so_far.next_any;
      }

      -- the one for any name was taken
      pub collecting_any : (after : Option ℕ) → named ≢ Some k → IsNext (is_named 0 made) (k + 1) after
          → IsCollecting name object made old new named after
      collecting_any after apart next = record {
        bound = k + 1;
        within = omega (arith, short);
        items = items_now;
        len = len_now;
        capacity = capacity ∙ so_far.capacity;
        next_named = next_later (is_named (name + 1) made) so_far.bound (k + 1) named (omega (arith, between.0))
            (λ m e. higher' (is_named 0 made) (is_named 0 made) m k named apart (rw
            (second_is named any k apart pick) at pick) e) so_far.next_named;
        next_any = next;
      }

      pub named_bound : (after : Option ℕ) (is : named ≡ Some k) (next : IsNext (is_named (name + 1) made) (k + 1)
          after) → (collecting_named after is next).bound ≡ k + 1
      unfolding collecting_named
      named_bound after is next = refl

      pub any_bound : (after : Option ℕ) (apart : named ≢ Some k) (next : IsNext (is_named 0 made) (k + 1) after)
          → (collecting_any after apart next).bound ≡ k + 1
      unfolding collecting_any
      any_bound after apart next = refl

    pub its_named : named ≡ Some k → is_named (name + 1) made k ≡ true
    its_named is = next_at (is_named (name + 1) made) so_far.bound k named so_far.next_named is

    pub its_any : named ≢ Some k → is_named 0 made k ≡ true
    its_any apart = next_at (is_named 0 made) so_far.bound k any so_far.next_any (second_is named any k apart pick)

  -- all are dealt with
  pub collected_all : least named any ≡ None → now.items ≡ old.items ++ receivers name object made
  collected_all e =
      let both = none_both named any e in
      let named_none = rw both.0 at so_far.next_named in
      let any_none = rw both.1 at so_far.next_any in
      so_far.items ∙ ap (λ ns. old.items ++ ns) (sym (upto_gap pass so_far.bound (length made) so_far.within
      (λ j le lt. received_named name object made j (named_none j le) (any_none j le))))

pub collecting_less : (name : ℕ) (object : Option ℕ) (made : List (Option Registration)) {Y : Type 0}
    (old now new : Vec ℕ Y) (named any named' any' : Option ℕ) (k : ℕ)
    → IsCollecting name object made old now named any → least named any ≡ Some k
    → (now' : IsCollecting name object made old new named' any') → now'.bound ≡ k + 1
    → left_from (least named' any') (length made) < left_from (Some k) (length made)
collecting_less name object made old now new named any named' any' k so_far pick now' is = fewer (least named' any')
    refl
  where
    fewer : (r : Option ℕ) → least named' any' ≡ r → left_from r (length made) < left_from (Some k) (length made)
    fewer None e = omega (arith, short name object made old now named any so_far k pick)
    fewer (Some n) e = omega (
      arith,
      short name object made old now named any so_far k pick,
      is,
      (none_before (is_named (name + 1) made) (is_named 0 made) named' any' now'.bound n now'.next_named
          now'.next_any e).0,
    )

pub collecting_from : (name : ℕ) (object : Option ℕ) (made : List (Option Registration)) {Y : Type 0} (out : Vec ℕ Y)
    (named any : Option ℕ) → IsNext (is_named (name + 1) made) 0 named → IsNext (is_named 0 made) 0 any
    → IsCollecting name object made out out named any
collecting_from name object made out named any next next' = record {
  bound = 0;
  within = omega arith;
  items = sym (append-nil out.items);
  len = omega arith;
  capacity = refl;
  next_named = next;
  next_any = next';
}
