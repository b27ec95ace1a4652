-- The test on references tells equal ones and no others.
use Rattle.std.proofs.Common.{◌≡◌, ℕ, zero, suc, true, refl, sym, ap, ◌∙◌, eqb}
use Rattle.std.proofs.lemmas.Bool.{and_from, and_parts, eqb-true, eq-eqb}
use Rattle.cf_graph.specs.Holders.{Holder, variable, callout, owed, parcel, slot, in_mode, in_common, Code, code_of, same_code, same_holder}
use Rattle.cf_graph.specs.Edges.{Reference, same}

holder_from : Code → Holder
holder_from c = kind_from c.kind
  where
    kind_from : ℕ → Holder
    kind_from zero = variable c.first c.second c.third
    kind_from (suc zero) = callout c.first c.second
    kind_from (suc (suc zero)) = owed c.first
    kind_from (suc (suc (suc zero))) = parcel c.first c.second
    kind_from (suc (suc (suc (suc zero)))) = slot c.first
    kind_from (suc (suc (suc (suc (suc zero))))) = in_mode c.first c.second
    kind_from (suc (suc (suc (suc (suc (suc k)))))) = in_common c.first

holder_from-code_of : (h : Holder) → holder_from (code_of h) ≡ h
unfolding holder_from
holder_from-code_of (variable t d v) = refl
holder_from-code_of (callout t d) = refl
holder_from-code_of (owed t) = refl
holder_from-code_of (parcel t k) = refl
holder_from-code_of (slot b) = refl
holder_from-code_of (in_mode t m) = refl
holder_from-code_of (in_common t) = refl

code_from : (a b : Code) → a.kind ≡ b.kind → a.first ≡ b.first → a.second ≡ b.second → a.third ≡ b.third → a ≡ b
code_from a b k f s q =
    ap (λ (n : ℕ). record { kind = n; first = a.first; second = a.second; third = a.third }) k
    ∙ ap (λ (n : ℕ). record { kind = b.kind; first = n; second = a.second; third = a.third }) f
    ∙ ap (λ (n : ℕ). record { kind = b.kind; first = b.first; second = n; third = a.third }) s
    ∙ ap (λ (n : ℕ). record { kind = b.kind; first = b.first; second = b.second; third = n }) q

same_code-equal : (a b : Code) → same_code a b ≡ true → a ≡ b
same_code-equal a b e =
    let p = and_parts (eqb a.kind b.kind) _ e in
    let q = and_parts (eqb a.first b.first) _ p.1 in
    let r = and_parts (eqb a.second b.second) (eqb a.third b.third) q.1 in
    code_from a b (eqb-true a.kind b.kind p.0) (eqb-true a.first b.first q.0) (eqb-true a.second b.second r.0) (eqb-true a.third b.third r.1)

same_code-refl : (a : Code) → same_code a a ≡ true
same_code-refl a =
    and_from _ _ (eq-eqb a.kind a.kind refl) (and_from _ _ (eq-eqb a.first a.first refl) (and_from _ _ (eq-eqb a.second a.second refl) (eq-eqb a.third a.third refl)))

-- holders that pass the test are one
pub same_holder-equal : (a b : Holder) → same_holder a b ≡ true → a ≡ b
same_holder-equal a b e =
    sym (holder_from-code_of a) ∙ ap holder_from (same_code-equal (code_of a) (code_of b) e) ∙ holder_from-code_of b

pub same_holder-refl : (a : Holder) → same_holder a a ≡ true
same_holder-refl a = same_code-refl (code_of a)

reference_from : (a b : Reference) → a.holder ≡ b.holder → a.object ≡ b.object → a ≡ b
reference_from a b h o =
    ap (λ (k : Holder). record { holder = k; object = a.object }) h ∙ ap (λ (n : ℕ). record { holder = b.holder; object = n }) o

-- references that pass the test are one
pub same-equal : (a b : Reference) → same a b ≡ true → a ≡ b
same-equal a b e =
    let p = and_parts (same_holder a.holder b.holder) (eqb a.object b.object) e in
    reference_from a b (same_holder-equal a.holder b.holder p.0) (eqb-true a.object b.object p.1)

pub same-refl : (a : Reference) → same a a ≡ true
same-refl a = and_from _ _ (same_holder-refl a.holder) (eq-eqb a.object a.object refl)
