-- Tests of references decide whether a thread may use an object.
use Rattle.std.proofs.Common.{◌≡◌, ℕ, ◌+◌, Bool, true, false, nat_lt, List, [], ◌∷◌, ◌++◌, length, get_or, Option, Some, None, refl, sym, ap, subst, ◌∙◌, arith}
use Rattle.std.proofs.lemmas.Bool.{lt-ltb, ltb-true}
use Rattle.std.proofs.lemmas.List.{append-nil}
use Rattle.std.specs.Prelude.{◌↔◌, ◌&&◌}
use Rattle.std.specs.List.{AllByRecursion}
use Rattle.std.specs.Option.{option_map}
use Rattle.cf_graph.specs.declared.edge.Owner.{Owner}
use Rattle.cf_graph.specs.Edges.{counted, from_thread, weigh}
use Rattle.cf_model.specs.State.{State, is_live}
use Rattle.cf_next.specs.declared.action.Action.{Action}
use Rattle.cf_next.specs.declared.action.Action.TheVariants as actions
use Rattle.cf_next.specs.Actions.{Site, site_of}
use Rattle.cf_model.specs.Journals.{MayUseAll, Use, action_uses, knows, owners_of, reaches, reaches_all, reaching, site_uses, takes, uses_if}

-- ---- references by a weight

pub weighs : (t : Bool) (n : ℕ) → t ≡ true → nat_lt 0 (counted t + n) ≡ true
weighs true n h = lt-ltb 0 (1 + n) (omega arith)
weighs false n h = absurd (cc)

pub weighs-not : (t : Bool) (n : ℕ) → t ≡ false → nat_lt 0 (counted t + n) ≡ nat_lt 0 n
weighs-not true n h = absurd (cc)
weighs-not false n h = let e : 0 + n ≡ n = omega arith in ap (nat_lt 0) e

-- ---- uses

both : (a b : Bool) → a && b ≡ true → (a ≡ true) × (b ≡ true)
both true true h = (refl, refl)
both true false h = absurd (cc)
both false b h = absurd (cc)

of-both : (a b : Bool) → a ≡ true → b ≡ true → a && b ≡ true
of-both true true h k = refl
of-both true false h k = absurd (cc)
of-both false b h k = absurd (cc)

-- an object is live, and the thread has a reference
pub take-decides : (st : State) (t o : ℕ) (owners : List Owner) (live own : Bool) → live ≡ is_live st.parts o
    → own ≡ nat_lt 0 (weigh (from_thread t o) st.edges) → (live && own ≡ true) ↔ MayUseAll st t owners (takes o ∷ [])
take-decides st t o owners live own is has = (
  λ h. (record { live = sym is ∙ (both live own h).0; edge = ltb-true 0 (weigh (from_thread t o) st.edges) (sym has ∙ (both live own h).1) }, tt),
  λ m. of-both live own (is ∙ m.0.live) (has ∙ lt-ltb 0 (weigh (from_thread t o) st.edges) m.0.edge),
)

pub reach-decides : (st : State) (t o : ℕ) (owners : List Owner) (live near : Bool) → live ≡ is_live st.parts o
    → near ≡ nat_lt 0 (weigh (reaching t owners o) st.edges)
    → (live && near ≡ true) ↔ MayUseAll st t owners (reaches o ∷ [])
reach-decides st t o owners live near is has = (
  λ h. (record { live = sym is ∙ (both live near h).0; edge = ltb-true 0 (weigh (reaching t owners o) st.edges) (sym has ∙ (both live near h).1) }, tt),
  λ m. of-both live near (is ∙ m.0.live) (has ∙ lt-ltb 0 (weigh (reaching t owners o) st.edges) m.0.edge),
)

pub know-decides : (st : State) (t o : ℕ) (owners : List Owner) (live : Bool) → live ≡ is_live st.parts o
    → (live ≡ true) ↔ MayUseAll st t owners (knows o ∷ [])
know-decides st t o owners live is = (λ h. (sym is ∙ h, tt), λ m. is ∙ m.0)

-- ---- several uses

pub all-split : (P : Use → Type 0) (xs ys : List Use) → AllByRecursion P (xs ++ ys)
    → AllByRecursion P xs × AllByRecursion P ys
all-split P [] ys h = (tt, h)
all-split P (x ∷ xs) ys h = let r = all-split P xs ys h.1 in ((h.0, r.0), r.1)

pub all-join : (P : Use → Type 0) (xs ys : List Use) → AllByRecursion P xs → AllByRecursion P ys
    → AllByRecursion P (xs ++ ys)
all-join P [] ys h k = k
all-join P (x ∷ xs) ys h k = (h.0, all-join P xs ys h.1 k)

-- both of two tests decide whether all of two lists may be used
pub two-decide : (st : State) (t : ℕ) (owners : List Owner) (xs ys : List Use) (a b : Bool)
    → ((a ≡ true) ↔ MayUseAll st t owners xs) → ((b ≡ true) ↔ MayUseAll st t owners ys)
    → (a && b ≡ true) ↔ MayUseAll st t owners (xs ++ ys)
two-decide st t owners xs ys a b p q = (
  λ h. all-join _ xs ys (p.0 (both a b h).0) (q.0 (both a b h).1),
  λ m. of-both a b (p.1 (all-split _ xs ys m).0) (q.1 (all-split _ xs ys m).1),
)

-- ---- actions that use what a statement uses

-- what each action uses but those that are told by themselves
abbrev pub OnlySite : Action → Type 0
OnlySite a = (action_uses a ≡ site_uses (site_of a)) × (owners_of a ≡ [])

pub only-site : (a : Action)
    → ((b n : ℕ) (u : List (Option ℕ)) → a ≡ actions.Release b n u → ⊥)
    → ((t : ℕ) (o : Option ℕ) → a ≡ actions.Pack t o → ⊥)
    → ((o : Option ℕ) → a ≡ actions.Claim o → ⊥)
    → ((o : ℕ) → a ≡ actions.Owed o → ⊥)
    → ((b k o : ℕ) → a ≡ actions.DropSlot b k o → ⊥)
    → ((h : ℕ) (i info : Option ℕ) → a ≡ actions.Call h i info → ⊥)
    → ((i : ℕ) → a ≡ actions.Spend i → ⊥)
    → OnlySite a
only-site (actions.Release b n u) not_release not_pack not_claim not_owed not_dropslot not_call not_spend = absurd (not_release b n u refl)
only-site (actions.Pack t o) not_release not_pack not_claim not_owed not_dropslot not_call not_spend = absurd (not_pack t o refl)
only-site (actions.Claim o) not_release not_pack not_claim not_owed not_dropslot not_call not_spend = absurd (not_claim o refl)
only-site (actions.Owed o) not_release not_pack not_claim not_owed not_dropslot not_call not_spend = absurd (not_owed o refl)
only-site (actions.DropSlot b k o) not_release not_pack not_claim not_owed not_dropslot not_call not_spend = absurd (not_dropslot b k o refl)
only-site (actions.Call h i info) not_release not_pack not_claim not_owed not_dropslot not_call not_spend = absurd (not_call h i info refl)
only-site (actions.Spend i) not_release not_pack not_claim not_owed not_dropslot not_call not_spend = absurd (not_spend i refl)
only-site a not_release not_pack not_claim not_owed not_dropslot not_call not_spend = (refl, refl)

-- the site is there, or not
pub site-reaches : (q : Option Site) (used : List (Option ℕ)) → Some used ≡ option_map (λ (s : Site). s.used) q
    → reaches_all used ≡ site_uses q
site-reaches None used h = absurd (cc)
site-reaches (Some s) used h = let e : used ≡ s.used = cc in ap reaches_all e

pub site-none : (q : Option Site) → None ≡ option_map (λ (s : Site). s.used) q → [] ≡ site_uses q
site-none None h = refl
site-none (Some s) h = absurd (cc)

-- the same of equal uses and owners
pub decide-same : (st : State) (t : ℕ) (b : Bool) (xs ys : List Use) (os ps : List Owner) → xs ≡ ys → os ≡ ps
    → ((b ≡ true) ↔ MayUseAll st t os xs) → (b ≡ true) ↔ MayUseAll st t ps ys
decide-same st t b xs ys os ps uses owners h =
    subst (λ (us : List Use). (b ≡ true) ↔ MayUseAll st t ps us) uses
    (subst (λ (ws : List Owner). (b ≡ true) ↔ MayUseAll st t ws xs) owners h)

-- the three objects that a statement uses
pub reaches-three : (used : List (Option ℕ)) (a b c : Option ℕ) → length used ≡ 3
    → uses_if reaches (get_or used 0 a) ++ (uses_if reaches (get_or used 1 b) ++ uses_if reaches (get_or used 2 c))
    ≡ reaches_all used
reaches-three [] a b c h = absurd (omega arith)
reaches-three (x ∷ []) a b c h = absurd (omega arith)
reaches-three (x ∷ y ∷ []) a b c h = absurd (omega arith)
reaches-three (x ∷ y ∷ z ∷ []) a b c h =
    ap (λ us. uses_if reaches x ++ (uses_if reaches y ++ us)) (sym (append-nil (uses_if reaches z)))
reaches-three (x ∷ y ∷ z ∷ w ∷ ws) a b c h = absurd (omega arith)
