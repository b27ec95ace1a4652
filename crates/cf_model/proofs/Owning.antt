-- What the variables of a frame own, and how a line that is fit changes it.
use Rattle.std.proofs.Common.{◌++◌, ◌+◌, ◌-◌, ◌<◌, ◌∙◌, ◌∷◌, ◌≡◌, ◌≤◌, Bool, List, None, Option, Some, [], ap, append-nil, arith, cond, eqb, false, inl, inr, refl, subst, sym, true, ℕ}
use Rattle.std.proofs.lemmas.Bool.{eq-eqb}
use Rattle.std.proofs.lemmas.Bool.Decides.{eqb_tells, nat_tests}
use Rattle.cf_syntax.proofs.OwnedLaws.{total_append, total_push}
use Rattle.cf_syntax.specs.BlockLines.{BlockLine, line_ownership}
use Rattle.cf_syntax.specs.Owned.{bound, bound_by, given, given_by, one_of, released, released_by, total}
use Rattle.cf_syntax.specs.declared.mention.Ownership.{Ownership}
use Rattle.cf_syntax.specs.declared.mention.Ownership.TheVariants.{Binds, Keeps, Releases, Retains}
use Rattle.cf_graph.proofs.Flows.{holders_apart, one_own}
use Rattle.cf_graph.specs.Edges.{counted, held_by, held_if, one, weigh}
use Rattle.cf_graph.specs.Holders.{code_of, variable}
use Rattle.cf_next.specs.Advance.{bindings_by}
use Rattle.cf_next.specs.Stands.{Binding, look}
use Rattle.cf_model.specs.Tokens.{one_if}

sum_more : (f : Ownership → ℕ) (xs : List BlockLine) (x : BlockLine) (ownership : Ownership)
    → line_ownership x ≡ ownership → total f (xs ++ x ∷ []) ≡ total f xs + f ownership
sum_more f xs x ownership e = total_push f xs x ∙ ap (λ (u : Ownership). total f xs + f u) e

-- a variable is bound, and owns a reference
pub record HasOwn (earlier : List BlockLine) (v : ℕ) : Type 0 where
  pub is_bound : 0 < bound v earlier
  pub more : released v earlier < given v earlier

-- what a line's ownership asks of the lines before it
abbrev pub FitsOwnership : List BlockLine → Ownership → Type 0
FitsOwnership earlier Keeps = Unit {0}
FitsOwnership earlier (Binds v) = bound v earlier ≡ 0
FitsOwnership earlier (Retains v) = HasOwn earlier v
FitsOwnership earlier (Releases v) = HasOwn earlier v

-- ---- a number by an object

pub one_if-more : (p : Option ℕ) (o m n : ℕ) → one_if p o (m + n) ≡ one_if p o m + one_if p o n
one_if-more None o m n = refl
one_if-more (Some p) o m n = by (eqb p o)
  where
    by : (b : Bool) → cond b (m + n) 0 ≡ cond b m 0 + cond b n 0
    by true = refl
    by false = refl

pub one_if-none : (p : Option ℕ) (o : ℕ) → one_if p o 0 ≡ 0
one_if-none None o = refl
one_if-none (Some p) o = by (eqb p o)
  where
    by : (b : Bool) → ◌≡◌ {A = ℕ} (cond b 0 0) 0
    by true = refl
    by false = refl

-- references of a variable to an object, where there is one
apart_variables : (t d v w o : ℕ) (x : ℕ) → (v ≡ w → ⊥)
    → one (held_by (variable t d v) o) (held_by (variable t d w) x) ≡ 0
apart_variables t d v w o x h = holders_apart (held_by (variable t d v) o) (held_by (variable t d w) x) (λ q. h (ap (λ k. (code_of k).third) q))

pub variable_weigh : (t d v w o : ℕ) (object : Option ℕ)
    → weigh (one (held_by (variable t d v) o)) (held_if (variable t d w) object) ≡ one_if object o (one_of v w)
variable_weigh t d v w o None = refl
variable_weigh t d v w o (Some x) = elim (eqb_tells v w) [
  | inl e ↦
      let one_here : one_of v w ≡ 1 = ap (λ (b : Bool). cond b 1 0) e.0 in
      rw one_here (omega (arith, subst (λ (n : ℕ). one (held_by (variable t d v) o) (held_by (variable t d n) x) ≡ counted (eqb x o)) e.1 (one_own (variable t d v) o x)))
  | inr e ↦
      let none_here : one_of v w ≡ 0 = ap (λ (b : Bool). cond b 1 0) e.0 in
      rw none_here (omega (arith, apart_variables t d v w o x e.1, one_if-none (Some x) o))
]

-- ---- what variables own

-- after lines: a variable that is not bound has as many taken as given and has nothing, and none has more taken than
-- given
pub record Owns (earlier : List BlockLine) (bs : List Binding) : Type 0 where
  pub unbound : (v : ℕ) → bound v earlier ≡ 0 → (given v earlier ≡ released v earlier) × (look v bs ≡ None)
  pub most : (v : ℕ) → released v earlier ≤ given v earlier

abbrev pub count_of : List BlockLine → List Binding → ℕ → ℕ → ℕ
count_of earlier bs v o = one_if (look v bs) o (given v earlier - released v earlier)

-- the object whose references a line's ownership changes, and how far
abbrev pub wins : List Binding → Ownership → Option ℕ → ℕ → ℕ → ℕ
wins bs Keeps object v o = 0
wins bs (Binds w) object v o = one_if object o (one_of v w)
wins bs (Retains w) object v o = one_if (look w bs) o (one_of v w)
wins bs (Releases w) object v o = 0

abbrev pub loses : List Binding → Ownership → ℕ → ℕ → ℕ
loses bs (Releases w) v o = one_if (look w bs) o (one_of v w)
loses bs _ v o = 0

-- after a line that binds, gives or takes so: what the variables own by the lines that are then done
pub record OwnsAfter (earlier later : List BlockLine) (bs : List Binding) (ownership : Ownership) (object : Option ℕ) : Type 0 where
  pub owns : Owns later (bindings_by ownership object ++ bs)
  pub count : (v o : ℕ)
      → count_of later (bindings_by ownership object ++ bs) v o + loses bs ownership v o ≡ count_of earlier bs v o + wins bs ownership object v o

-- ---- the lines after a line

-- lines that are done after earlier ones and one more: these, and lines that are passed over, which give each variable
-- as many references as they take
pub record Follows (earlier : List BlockLine) (x : BlockLine) (later : List BlockLine) : Type 0 where
  pub passed : List BlockLine
  pub is : later ≡ (earlier ++ x ∷ []) ++ passed
  pub even : (v : ℕ) → given v passed ≡ released v passed

pub none_passed : (earlier : List BlockLine) (x : BlockLine) (later : List BlockLine) → later ≡ earlier ++ x ∷ []
    → Follows earlier x later
none_passed earlier x later e = record { passed = []; is = e ∙ sym (append-nil (earlier ++ x ∷ [])); even = λ v. refl }

passed_owns : (earlier passed : List BlockLine) (bs : List Binding) → ((v : ℕ) → given v passed ≡ released v passed)
    → Owns earlier bs → Owns (earlier ++ passed) bs
passed_owns earlier passed bs even h = record {
  unbound = λ v none.
      let u = h.unbound v (omega (arith, none, total_append (bound_by v) earlier passed)) in
      (omega (arith, u.0, even v, total_append (given_by v) earlier passed, total_append (released_by v) earlier passed), u.1);
  most = λ v. omega (arith, h.most v, even v, total_append (given_by v) earlier passed, total_append (released_by v) earlier passed);
}

passed_count : (earlier passed : List BlockLine) (bs : List Binding) → ((v : ℕ) → given v passed ≡ released v passed)
    → (v o : ℕ) → count_of (earlier ++ passed) bs v o ≡ count_of earlier bs v o
passed_count earlier passed bs even v o =
    let g : given v (earlier ++ passed) - released v (earlier ++ passed) ≡ given v earlier - released v earlier = omega (arith, even v, total_append (given_by v) earlier passed, total_append (released_by v) earlier passed) in
    rw g refl

passed_after : (earlier next later : List BlockLine) (passed : List BlockLine) (bs : List Binding)
    (ownership : Ownership) (object : Option ℕ)
    → later ≡ next ++ passed → ((v : ℕ) → given v passed ≡ released v passed)
    → OwnsAfter earlier next bs ownership object → OwnsAfter earlier later bs ownership object
passed_after earlier next later passed bs ownership object e even h =
    subst (λ (ls : List BlockLine). OwnsAfter earlier ls bs ownership object) (sym e) (record {
      owns = passed_owns next passed (bindings_by ownership object ++ bs) even h.owns;
      count = λ v o. omega (arith, h.count v o, passed_count next passed (bindings_by ownership object ++ bs) even v o);
    })

module _ (x : BlockLine) (earlier : List BlockLine) (bs : List Binding) (h : Owns earlier bs) where
  abbrev later : List BlockLine
  later = earlier ++ x ∷ []

  keeps_owned : line_ownership x ≡ Keeps → (v o : ℕ) → count_of later bs v o ≡ count_of earlier bs v o
  keeps_owned t v o =
      let g : given v later ≡ given v earlier = omega (arith, sum_more (given_by v) earlier x Keeps t) in
      let k : released v later ≡ released v earlier = omega (arith, sum_more (released_by v) earlier x Keeps t) in
      rw (g, k) refl

  binds_owned : (w : ℕ) (object : Option ℕ) → line_ownership x ≡ Binds w → bound w earlier ≡ 0 → (v o : ℕ)
      → count_of later (bindings_by (Binds w) object ++ bs) v o ≡ count_of earlier bs v o + one_if object o (one_of v w)
  binds_owned w object t new v o = elim (eqb_tells w v) [
    | inl e ↦
        let one_here : one_of v w ≡ 1 = subst (λ (n : ℕ). one_of n w ≡ 1) e.1 (ap (λ (b : Bool). cond b 1 0) (eq-eqb w w refl)) in
        let u = h.unbound v (subst (λ (n : ℕ). bound n earlier ≡ 0) e.1 new) in
        let g : given v later - released v later ≡ 1 = omega (arith, sum_more (given_by v) earlier x (Binds w) t, sum_more (released_by v) earlier x (Binds w) t, u.0, one_here) in
        rw (e.0, g, one_here, u.1) (omega arith)
    | inr e ↦
        let none_here : one_of v w ≡ 0 = grind (arith, nat_tests) in
        let g : given v later ≡ given v earlier = omega (arith, sum_more (given_by v) earlier x (Binds w) t, none_here) in
        let k : released v later ≡ released v earlier = omega (arith, sum_more (released_by v) earlier x (Binds w) t) in
        rw (e.0, g, k, none_here, one_if-none object o) (omega arith)
  ]

  retains_owned : (w : ℕ) → line_ownership x ≡ Retains w → (v o : ℕ)
      → count_of later bs v o ≡ count_of earlier bs v o + one_if (look w bs) o (one_of v w)
  retains_owned w t v o = elim (eqb_tells v w) [
    | inl e ↦
        let one_here : one_of v w ≡ 1 = ap (λ (b : Bool). cond b 1 0) e.0 in
        let g : given v later - released v later ≡ (given v earlier - released v earlier) + 1 = omega (arith, h.most v, one_here, sum_more (given_by v) earlier x (Retains w) t, sum_more (released_by v) earlier x (Retains w) t) in
        rw (g, one_here, ← e.1) (one_if-more (look v bs) o (given v earlier - released v earlier) 1)
    | inr e ↦
        let none_here : one_of v w ≡ 0 = ap (λ (b : Bool). cond b 1 0) e.0 in
        let g : given v later - released v later ≡ given v earlier - released v earlier = omega (arith, none_here, sum_more (given_by v) earlier x (Retains w) t, sum_more (released_by v) earlier x (Retains w) t) in
        rw (g, none_here, one_if-none (look w bs) o) (omega arith)
  ]

  releases_owned : (w : ℕ) → line_ownership x ≡ Releases w → released w earlier < given w earlier → (v o : ℕ)
      → count_of later bs v o + one_if (look w bs) o (one_of v w) ≡ count_of earlier bs v o
  releases_owned w t some v o = elim (eqb_tells v w) [
    | inl e ↦
        let one_here : one_of v w ≡ 1 = ap (λ (b : Bool). cond b 1 0) e.0 in
        let more : released v earlier < given v earlier = subst (λ (n : ℕ). released n earlier < given n earlier) (sym e.1) some in
        let g : given v earlier - released v earlier ≡ (given v later - released v later) + 1 = omega (arith, more, one_here, sum_more (given_by v) earlier x (Releases w) t, sum_more (released_by v) earlier x (Releases w) t) in
        rw (g, one_here, ← e.1) (sym (one_if-more (look v bs) o (given v later - released v later) 1))
    | inr e ↦
        let none_here : one_of v w ≡ 0 = ap (λ (b : Bool). cond b 1 0) e.0 in
        let g : given v later - released v later ≡ given v earlier - released v earlier = omega (arith, none_here, sum_more (given_by v) earlier x (Releases w) t, sum_more (released_by v) earlier x (Releases w) t) in
        rw (g, none_here, one_if-none (look w bs) o) (omega arith)
  ]

  -- ---- the variables stay in order

  before : (ownership : Ownership) (v : ℕ) → line_ownership x ≡ ownership → bound_by v ownership ≡ 0 → bound v later ≡ 0
      → bound v earlier ≡ 0
  before ownership v t none some = omega (arith, none, some, sum_more (bound_by v) earlier x ownership t)

  keeps_owns : line_ownership x ≡ Keeps → Owns later bs
  keeps_owns t = record {
    unbound = λ v none.
        let u = h.unbound v (before Keeps v t refl none) in
        (omega (arith, u.0, sum_more (given_by v) earlier x Keeps t, sum_more (released_by v) earlier x Keeps t), u.1);
    most = λ v. omega (arith, h.most v, sum_more (given_by v) earlier x Keeps t, sum_more (released_by v) earlier x Keeps t);
  }

  binds_owns : (w : ℕ) (object : Option ℕ) → line_ownership x ≡ Binds w
      → Owns later (bindings_by (Binds w) object ++ bs)
  binds_owns w object t = record {
    unbound = λ v none.
        let none_here : one_of v w ≡ 0 = omega (arith, none, sum_more (bound_by v) earlier x (Binds w) t) in
        let u = h.unbound v (omega (arith, none, sum_more (bound_by v) earlier x (Binds w) t)) in
        let other : eqb w v ≡ false = grind (arith, nat_tests) in (
          omega (arith, u.0, none_here, sum_more (given_by v) earlier x (Binds w) t, sum_more (released_by v) earlier x (Binds w) t),
          ap (λ (b : Bool). cond b object (look v bs)) other ∙ u.1,
        );
    most = λ v. omega (arith, h.most v, sum_more (given_by v) earlier x (Binds w) t, sum_more (released_by v) earlier x (Binds w) t);
  }

  used_none : (v w : ℕ) → 0 < bound w earlier → bound v earlier ≡ 0 → one_of v w ≡ 0
  used_none v w some none = elim (eqb_tells v w) [
    | inl e ↦ absurd (omega (arith, some, none, ap (λ (n : ℕ). bound n earlier) e.1))
    | inr e ↦ ap (λ (b : Bool). cond b 1 0) e.0
  ]

  retains_owns : (w : ℕ) → line_ownership x ≡ Retains w → 0 < bound w earlier → Owns later bs
  retains_owns w t some = record {
    unbound = λ v none.
        let b = before (Retains w) v t refl none in
        let u = h.unbound v b in
        (omega (arith, u.0, used_none v w some b, sum_more (given_by v) earlier x (Retains w) t, sum_more (released_by v) earlier x (Retains w) t), u.1);
    most = λ v. omega (arith, h.most v, sum_more (given_by v) earlier x (Retains w) t, sum_more (released_by v) earlier x (Retains w) t);
  }

  releases_owns : (w : ℕ) → line_ownership x ≡ Releases w → 0 < bound w earlier → released w earlier < given w earlier
      → Owns later bs
  releases_owns w t some more = record {
    unbound = λ v none.
        let b = before (Releases w) v t refl none in
        let u = h.unbound v b in
        (omega (arith, u.0, used_none v w some b, sum_more (given_by v) earlier x (Releases w) t, sum_more (released_by v) earlier x (Releases w) t), u.1);
    most = λ v. elim (eqb_tells v w) [
      | inl e ↦
          let here : released v earlier < given v earlier = subst (λ (n : ℕ). released n earlier < given n earlier) (sym e.1) more in
          let one_here : one_of v w ≡ 1 = ap (λ (b : Bool). cond b 1 0) e.0 in
          omega (arith, here, one_here, sum_more (given_by v) earlier x (Releases w) t, sum_more (released_by v) earlier x (Releases w) t)
      | inr e ↦
          let none_here : one_of v w ≡ 0 = ap (λ (b : Bool). cond b 1 0) e.0 in
          omega (arith, h.most v, none_here, sum_more (given_by v) earlier x (Releases w) t, sum_more (released_by v) earlier x (Releases w) t)
    ];
  }

  owns_next : (ownership : Ownership) (object : Option ℕ) → line_ownership x ≡ ownership
      → FitsOwnership earlier ownership → OwnsAfter earlier later bs ownership object
  owns_next Keeps object t fit = record { owns = keeps_owns t; count = λ v o. omega (arith, keeps_owned t v o) }
  owns_next (Binds w) object t fit = record {
    owns = binds_owns w object t;
    count = λ v o. omega (arith, binds_owned w object t fit v o);
  }
  owns_next (Retains w) object t fit = record { owns = retains_owns w t fit.is_bound; count = λ v o. omega (arith, retains_owned w t v o) }
  owns_next (Releases w) object t fit = record { owns = releases_owns w t fit.is_bound fit.more; count = λ v o. omega (arith, releases_owned w t fit.more v o) }

  -- after the line, and those that are passed over
  pub owns_after : (all : List BlockLine) → Follows earlier x all → (ownership : Ownership) (object : Option ℕ)
      → line_ownership x ≡ ownership → FitsOwnership earlier ownership → OwnsAfter earlier all bs ownership object
  owns_after all after ownership object t fit = passed_after earlier later all after.passed bs ownership object after.is after.even (owns_next ownership object t fit)
