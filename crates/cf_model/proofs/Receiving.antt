-- A registration that no longer receives does not receive again, as parts go on: objects are made and finalised, and a
-- registration is forgotten or stays.
use Rattle.std.proofs.Common.{◌<◌, ◌∙◌, ◌≡◌, ◌≤◌, ◌⊎◌, Bool, None, Option, Some, ap, arith, cond, eqb, false, inl, inr, length, refl, true, ℕ}
use Rattle.std.proofs.lemmas.Bool.{and_from, and_parts, eq-eqb, eqb-true}
use Rattle.std.specs.Prelude.{slice_index_or}
use Rattle.rl_base.specs.declared.registrations.Registration.{Registration}
use Rattle.cf_contents.specs.Contents.{times}
use Rattle.cf_next.specs.Facts.{Callout}
use Rattle.cf_model.specs.Known.{is_live_filter, may_receive, receiver_in}
use Rattle.cf_model.specs.State.{Parts, is_live, is_made}

abbrev pub MadeIf : Parts → Option ℕ → Type 0
MadeIf p None = Unit {0}
MadeIf p (Some o) = is_made p o ≡ true

-- what a registration names was made
abbrev pub IsOfMade : Parts → Option Registration → Type 0
IsOfMade p None = Unit {0}
IsOfMade p (Some r) = (is_made p r.observer ≡ true) × MadeIf p r.filter

abbrev pub registration_at : Parts → ℕ → Option Registration
registration_at p n = slice_index_or p.registrations n None

pub record GoOn (p q : Parts) : Type 0 where
  pub made : (o : ℕ) → is_made p o ≡ true → is_made q o ≡ true
  pub finalised : (o : ℕ) → times o p.finalised ≤ times o q.finalised
  pub registrations : (n : ℕ) → n < length p.registrations
      → (registration_at q n ≡ registration_at p n) ⊎ (registration_at q n ≡ None)

live_before : (p q : Parts) (o : ℕ) → GoOn p q → is_made p o ≡ true → is_live q o ≡ true → is_live p o ≡ true
live_before p q o on made live =
    let none = eqb-true (times o q.finalised) 0 (and_parts (is_made q o) (eqb (times o q.finalised) 0) live).1 in
    and_from (is_made p o) (eqb (times o p.finalised) 0) made (eq-eqb (times o p.finalised) 0 (omega (arith, none, on.finalised o)))

filter_before : (p q : Parts) (f : Option ℕ) → GoOn p q → MadeIf p f → is_live_filter q f ≡ true
    → is_live_filter p f ≡ true
filter_before p q None on made live = refl
filter_before p q (Some o) on made live = live_before p q o on made live

receives_before : (p q : Parts) (r : Registration) → GoOn p q → IsOfMade p (Some r) → may_receive q r ≡ true
    → may_receive p r ≡ true
receives_before p q r on made e =
    let both = and_parts (is_live q r.observer) (is_live_filter q r.filter) e in
    and_from (is_live p r.observer) (is_live_filter p r.filter) (live_before p q r.observer on made.0 both.0) (filter_before p q r.filter on made.1 both.1)

one_stays : (p q : Parts) (r : Option Registration) → GoOn p q → IsOfMade p r → receiver_in p r ≡ None
    → receiver_in q r ≡ None
one_stays p q None on made e = refl
one_stays p q (Some r) on made e = by (record { handler = r.handler; info = Some r.observer }) (may_receive p r) (may_receive q r) (receives_before p q r on made) e
  where
    no : false ≡ true → ⊥
    no q = cc

    by : (called : Callout) (a b : Bool) → (b ≡ true → a ≡ true)
        → ◌≡◌ {A = Option Callout} (cond a (Some called) None) None
        → ◌≡◌ {A = Option Callout} (cond b (Some called) None) None
    by called a false back e = refl
    by called true true back e = absurd cc
    by called false true back e = absurd (no (back refl))

pub receivers_stay : (p q : Parts) (n : ℕ) → GoOn p q → IsOfMade p (registration_at p n) → n < length p.registrations
    → receiver_in p (registration_at p n) ≡ None → receiver_in q (registration_at q n) ≡ None
receivers_stay p q n on made near e = elim (on.registrations n near) [
  | inl same ↦ ap (receiver_in q) same ∙ one_stays p q (registration_at p n) on made e
  | inr gone ↦ ap (receiver_in q) gone
]
