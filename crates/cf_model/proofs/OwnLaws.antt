-- Which of a thread's references an entry takes: each is there, and is the thread's.
use Rattle.std.proofs.Common.{◌≡◌, ℕ, ◌<◌, ◌≤◌, Bool, true, false, cond, List, [], ◌∷◌, ◌++◌, Option, Some, None, eqb, ltb, refl, sym, ap, subst, arith}
use Rattle.std.specs.Prelude.{option_to_list, ◌&&◌}
use Rattle.std.proofs.lemmas.Bool.{and_parts, eqb-true, ltb-true}
use Rattle.std.proofs.lemmas.Bool.Decides.{nat_tests}
use Rattle.cf_graph.specs.Owners.{is_thread}
use Rattle.cf_graph.specs.Holders.{Holder, variable, callout, owed, parcel, slot, in_mode, in_common, owner_of}
use Rattle.cf_graph.specs.Edges.{Reference, held_by, weigh, one, counted, has}
use Rattle.cf_graph.specs.Operations.{without}
use Rattle.cf_graph.proofs.Same.{same-refl}
use Rattle.cf_graph.proofs.Counts.{weigh-without}
use Rattle.cf_graph.proofs.Flows.{IsOwn}
use Rattle.cf_model.specs.Own.{first_from, own_reference, own_references, without_if, present_of}

-- the holder is the thread itself
abbrev pub IsOf : ℕ → Holder → Type 0
IsOf t h = is_thread t (owner_of h) ≡ true

pub of_own : (t : ℕ) (h : Holder) → IsOf t h → IsOwn t h
of_own t (variable u d v) e = sym (eqb-true t u e)
of_own t (callout u d) e = sym (eqb-true t u e)
of_own t (owed u) e = sym (eqb-true t u e)
of_own t (parcel u k) e = tt
of_own t (slot b) e = tt
of_own t (in_mode u m) e = tt
of_own t (in_common u) e = tt

-- one of the thread's references to an object, which is there
pub record OwnIs (t o : ℕ) (es : List Reference) (q : Reference) : Type 0 where
  pub there : 0 < weigh (one q) es
  pub thread : IsOf t q.holder
  pub object : q.object ≡ o

one_more : (q r : Reference) (rs : List Reference) → 0 < weigh (one q) rs → 0 < weigh (one q) (r ∷ rs)
one_more q r rs h = omega (arith, h)

one_here : (r : Reference) (rs : List Reference) → 0 < weigh (one r) (r ∷ rs)
one_here r rs = let e : one r r ≡ 1 = ap counted (same-refl r) in omega (arith, e)

more_own : (t o : ℕ) (r : Reference) (rs : List Reference) (q : Reference) → OwnIs t o rs q → OwnIs t o (r ∷ rs) q
more_own t o r rs q h = record { there = one_more q r rs h.there; thread = h.thread; object = h.object }

some_is : (r q : Reference) → ◌≡◌ {A = Option Reference} (Some r) (Some q) → r ≡ q
some_is r q e = cc

first_is : (t o : ℕ) (es : List Reference) (q : Reference) → first_from t o es ≡ Some q → OwnIs t o es q
first_is t o [] q e = absurd cc
first_is t o (r ∷ rs) q e = by ((eqb r.object o) && is_thread t (owner_of r.holder)) refl e (first_is t o rs q)
  where
    by : (b : Bool) → ((eqb r.object o) && is_thread t (owner_of r.holder)) ≡ b
        → cond b (Some r) (first_from t o rs) ≡ Some q
        → (first_from t o rs ≡ Some q → OwnIs t o rs q) → OwnIs t o (r ∷ rs) q
    by true test e rest =
        let p = and_parts (eqb r.object o) (is_thread t (owner_of r.holder)) test in
        subst (OwnIs t o (r ∷ rs)) (some_is r q e) (record { there = one_here r rs; thread = p.1; object = eqb-true r.object o p.0 })
    by false test e rest = more_own t o r rs q (rest e)

pub own_is : (t : ℕ) (h : Holder) (o : ℕ) (es : List Reference) (q : Reference) → IsOf t h
    → own_reference t h o es ≡ Some q → OwnIs t o es q
own_is t h o es q of e = by (has h o es) refl e
  where
    by : (b : Bool) → has h o es ≡ b → cond b (Some (held_by h o)) (first_from t o es) ≡ Some q → OwnIs t o es q
    by true test e = subst (OwnIs t o es) (some_is (held_by h o) q e) (record { there = ltb-true 0 (weigh (one (held_by h o)) es) test; thread = of; object = refl })
    by false test e = first_is t o es q e

-- where the holder has a reference, that is the one
pub own_has : (t : ℕ) (h : Holder) (o : ℕ) (es : List Reference) → has h o es ≡ true
    → own_reference t h o es ≡ Some (held_by h o)
own_has t h o es e = ap (λ (b : Bool). cond b (Some (held_by h o)) (first_from t o es)) e

-- ---- several

-- references that are all the thread's
abbrev pub AllOf : ℕ → List Reference → Type 0
AllOf t [] = Unit {0}
AllOf t (r ∷ rs) = IsOf t r.holder × AllOf t rs

pub record OwnAre (t : ℕ) (es rs : List Reference) : Type 0 where
  pub there : (r : Reference) → weigh (one r) rs ≤ weigh (one r) es
  pub thread : AllOf t rs

own_cons : (t o : ℕ) (es : List Reference) (q : Reference) (rs : List Reference) → OwnIs t o es q
    → OwnAre t (without q es) rs → OwnAre t es (q ∷ rs)
own_cons t o es q rs h k = record {
  there = λ r. omega (arith, k.there r, weigh-without (one r) q es h.there);
  thread = (h.thread, k.thread);
}

own_each : (t : ℕ) (h : Holder) (o : ℕ) (rest : List Reference → List Reference) (es : List Reference)
    (q : Option Reference)
    → IsOf t h → own_reference t h o es ≡ q
    → ((fs : List Reference) → OwnAre t fs (rest fs)) → OwnAre t es (option_to_list q ++ rest (without_if q es))
own_each t h o rest es None of e k = k es
own_each t h o rest es (Some q) of e k = own_cons t o es q (rest (without q es)) (own_is t h o es q of e) (k (without q es))

pub own_are : (t : ℕ) (rs es : List Reference) → AllOf t rs → OwnAre t es (own_references t rs es)
own_are t [] es of = record { there = λ r. omega arith; thread = tt }
own_are t (r ∷ rs) es of =
    own_each t r.holder r.object (own_references t rs) es (own_reference t r.holder r.object es) of.0 refl (λ fs. own_are t rs fs of.1)

-- where the holders have them all, they are what is taken
pub own_all : (t : ℕ) (rs es : List Reference) → ((r : Reference) → weigh (one r) rs ≤ weigh (one r) es)
    → own_references t rs es ≡ rs
own_all t [] es h = refl
own_all t (r ∷ rs) es h =
    let same : one r r ≡ 1 = ap counted (same-refl r) in
    let here : 0 < weigh (one r) es = omega (arith, h r, same) in
    let own : own_reference t r.holder r.object es ≡ Some r = own_has t r.holder r.object es (has_some (weigh (one r) es) here) in
    rw own (ap (λ (xs : List Reference). r ∷ xs) (own_all t rs (without r es) (λ q. omega (arith, h q, weigh-without (one q) r es here))))
  where
    has_some : (n : ℕ) → 0 < n → ltb 0 n ≡ true
    has_some n h = grind (arith, nat_tests)

-- ---- those that are there

present_if : (q : Reference) (rs es : List Reference) (b : Bool) → ltb 0 (weigh (one q) es) ≡ b → (r : Reference)
    → ((fs : List Reference) → weigh (one r) (present_of rs fs) ≤ weigh (one r) fs)
    → weigh (one r) (cond b (q ∷ present_of rs (without q es)) (present_of rs es)) ≤ weigh (one r) es
present_if q rs es true e r rest =
    omega (arith, rest (without q es), weigh-without (one r) q es (ltb-true 0 (weigh (one q) es) e))
present_if q rs es false e r rest = rest es

pub present_there : (rs es : List Reference) (r : Reference) → weigh (one r) (present_of rs es) ≤ weigh (one r) es
present_there [] es r = omega arith
present_there (q ∷ rs) es r = present_if q rs es (ltb 0 (weigh (one q) es)) refl r (λ fs. present_there rs fs r)
