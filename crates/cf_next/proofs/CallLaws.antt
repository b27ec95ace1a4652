-- What is kept with the first one last: what is passed over, and what is found.
use Rattle.std.proofs.Common.{◌≡◌, ℕ, ◌+◌, ◌≤◌, Bool, true, cond, List, [], ◌∷◌, ◌++◌, length, map, take, Option, Some, None, refl, sym, ap, ◌∙◌, arith, length-append}
use Rattle.std.specs.Prelude.{is_some}
use Rattle.std.proofs.lemmas.List.{take_all, take-take, take-append-le}
use Rattle.cf_next.specs.declared.parts.Callee.{Callee as CodeCallee}
use Rattle.cf_next.specs.declared.parts.Work.{Work as CodeWork}
use Rattle.cf_next.specs.declared.parts.Work.TheVariants.{Release, Spend, Slots}
use Rattle.cf_next.specs.Facts.{Callout, Facts}
use Rattle.cf_next.specs.Stands.{Callee, Kind, Work}
use Rattle.cf_next.specs.Demands.{Demand, callout_of, call_if, call_demand, callees_left, slot_if, work_demand, work_left}
use Rattle.cf_next.specs.Views.{callee_of, callees_of, work_of, works_of}
use Rattle.cf_next.specs.WorkSteps.{item_demand, callee_demand}
use Rattle.cf_next.proofs.RowLaws.{reverse-last}

-- a list that begins another still does without its last item
pub begins-less : {A : Type 0} (xs ys : List A) (x : A) → xs ++ x ∷ [] ≡ take (length (xs ++ x ∷ [])) ys
    → xs ≡ take (length xs) ys
begins-less xs ys x h =
    let le : length xs ≤ length (xs ++ x ∷ []) = omega (arith, length-append xs (x ∷ [])) in
    sym (take-append-le (length xs) xs (x ∷ []) (omega arith) ∙ take_all (length xs) xs (omega arith))
    ∙ ap (take (length xs)) h
    ∙ take-take (length xs) (length (xs ++ x ∷ [])) ys le

pub length-last : {A : Type 0} (xs : List A) (x : A) → length (xs ++ x ∷ []) ≡ length xs + 1
length-last xs x = length-append xs (x ∷ [])

-- ---- what is called

pub callees-last : (xs : List CodeCallee) (x : CodeCallee) → callees_of (xs ++ x ∷ []) ≡ callee_of x ∷ callees_of xs
callees-last xs x = ap (map callee_of) (reverse-last xs x)

call-none : (k : Callee) (c : Option Callout) → call_if k c None ≡ None → c ≡ None
call-none k None h = refl
call-none k (Some c) h = cc

call-other : (k : Callee) (c : Option Callout) (d : Demand) (other : Option Demand) → call_if k c None ≡ Some d
    → call_if k c other ≡ Some d
call-other k None d other h = cc
call-other k (Some c) d other h = h

call-some : (k : Callee) (c : Option Callout) (d : Demand) → call_if k c None ≡ Some d → is_some c ≡ true
call-some k None d h = cc
call-some k (Some c) d h = refl

pub demand-passed : (facts : Facts) (t : ℕ) (kind : Kind) (xs : List CodeCallee) (x : CodeCallee)
    → callee_demand facts t kind (callee_of x) ≡ None
    → call_demand facts t kind (callees_of (xs ++ x ∷ [])) ≡ call_demand facts t kind (callees_of xs)
demand-passed facts t kind xs x h =
    ap (call_demand facts t kind) (callees-last xs x)
    ∙ ap (λ (c : Option Callout). call_if (callee_of x) c (call_demand facts t kind (callees_of xs))) (call-none (callee_of x) (callout_of facts t kind (callee_of x).role (callee_of x).number) h)

pub left-passed : (facts : Facts) (t : ℕ) (kind : Kind) (xs : List CodeCallee) (x : CodeCallee)
    → callee_demand facts t kind (callee_of x) ≡ None
    → callees_left facts t kind (callees_of (xs ++ x ∷ [])) ≡ callees_left facts t kind (callees_of xs)
left-passed facts t kind xs x h =
    ap (callees_left facts t kind) (callees-last xs x)
    ∙ ap (λ (c : Option Callout). cond (is_some c) (callees_of xs) (callees_left facts t kind (callees_of xs))) (call-none (callee_of x) (callout_of facts t kind (callee_of x).role (callee_of x).number) h)

pub demand-found : (facts : Facts) (t : ℕ) (kind : Kind) (xs : List CodeCallee) (x : CodeCallee) (d : Demand)
    → callee_demand facts t kind (callee_of x) ≡ Some d → call_demand facts t kind (callees_of (xs ++ x ∷ [])) ≡ Some d
demand-found facts t kind xs x d h =
    ap (call_demand facts t kind) (callees-last xs x)
    ∙ call-other (callee_of x) (callout_of facts t kind (callee_of x).role (callee_of x).number) d (call_demand facts t kind (callees_of xs)) h

pub left-found : (facts : Facts) (t : ℕ) (kind : Kind) (xs : List CodeCallee) (x : CodeCallee) (d : Demand)
    → callee_demand facts t kind (callee_of x) ≡ Some d
    → callees_left facts t kind (callees_of (xs ++ x ∷ [])) ≡ callees_of xs
left-found facts t kind xs x d h =
    ap (callees_left facts t kind) (callees-last xs x)
    ∙ ap (λ (b : Bool). cond b (callees_of xs) (callees_left facts t kind (callees_of xs))) (call-some (callee_of x) (callout_of facts t kind (callee_of x).role (callee_of x).number) d h)

-- ---- work

pub works-last : (xs : List CodeWork) (x : CodeWork) → works_of (xs ++ x ∷ []) ≡ work_of x ∷ works_of xs
works-last xs x = ap (map work_of) (reverse-last xs x)

slot-none : (b k : ℕ) (o : Option ℕ) → slot_if b k o None ≡ None → o ≡ None
slot-none b k None h = refl
slot-none b k (Some o) h = cc

slot-other : (b k : ℕ) (o : Option ℕ) (d : Demand) (other : Option Demand) → slot_if b k o None ≡ Some d
    → slot_if b k o other ≡ Some d
slot-other b k None d other h = cc
slot-other b k (Some o) d other h = h

slot-some : (b k : ℕ) (o : Option ℕ) (d : Demand) → slot_if b k o None ≡ Some d → is_some o ≡ true
slot-some b k None d h = cc
slot-some b k (Some o) d h = refl

item-passed : (facts : Facts) (ws : List Work) (x : CodeWork) → item_demand facts (work_of x) ≡ None
    → work_demand facts (work_of x ∷ ws) ≡ work_demand facts ws
item-passed facts ws (Release o) h = cc
item-passed facts ws (Spend i) h = cc
item-passed facts ws (Slots b k) h = ap (λ (o : Option ℕ). slot_if b k o (work_demand facts ws)) (slot-none b k (facts.slot b k) h)

item-left : (facts : Facts) (ws : List Work) (x : CodeWork) → item_demand facts (work_of x) ≡ None
    → work_left facts (work_of x ∷ ws) ≡ work_left facts ws
item-left facts ws (Release o) h = cc
item-left facts ws (Spend i) h = cc
item-left facts ws (Slots b k) h = ap (λ (o : Option ℕ). cond (is_some o) ws (work_left facts ws)) (slot-none b k (facts.slot b k) h)

item-found : (facts : Facts) (ws : List Work) (x : CodeWork) (d : Demand) → item_demand facts (work_of x) ≡ Some d
    → work_demand facts (work_of x ∷ ws) ≡ Some d
item-found facts ws (Release o) d h = h
item-found facts ws (Spend i) d h = h
item-found facts ws (Slots b k) d h = slot-other b k (facts.slot b k) d (work_demand facts ws) h

item-after : (facts : Facts) (ws : List Work) (x : CodeWork) (d : Demand) → item_demand facts (work_of x) ≡ Some d
    → work_left facts (work_of x ∷ ws) ≡ ws
item-after facts ws (Release o) d h = refl
item-after facts ws (Spend i) d h = refl
item-after facts ws (Slots b k) d h = ap (λ (t : Bool). cond t ws (work_left facts ws)) (slot-some b k (facts.slot b k) d h)

pub work-passed : (facts : Facts) (xs : List CodeWork) (x : CodeWork) → item_demand facts (work_of x) ≡ None
    → work_demand facts (works_of (xs ++ x ∷ [])) ≡ work_demand facts (works_of xs)
work-passed facts xs x h = ap (work_demand facts) (works-last xs x) ∙ item-passed facts (works_of xs) x h

pub rest-passed : (facts : Facts) (xs : List CodeWork) (x : CodeWork) → item_demand facts (work_of x) ≡ None
    → work_left facts (works_of (xs ++ x ∷ [])) ≡ work_left facts (works_of xs)
rest-passed facts xs x h = ap (work_left facts) (works-last xs x) ∙ item-left facts (works_of xs) x h

pub work-found : (facts : Facts) (xs : List CodeWork) (x : CodeWork) (d : Demand)
    → item_demand facts (work_of x) ≡ Some d → work_demand facts (works_of (xs ++ x ∷ [])) ≡ Some d
work-found facts xs x d h = ap (work_demand facts) (works-last xs x) ∙ item-found facts (works_of xs) x d h

pub rest-found : (facts : Facts) (xs : List CodeWork) (x : CodeWork) (d : Demand)
    → item_demand facts (work_of x) ≡ Some d → work_left facts (works_of (xs ++ x ∷ [])) ≡ works_of xs
rest-found facts xs x d h = ap (work_left facts) (works-last xs x) ∙ item-after facts (works_of xs) x d h
