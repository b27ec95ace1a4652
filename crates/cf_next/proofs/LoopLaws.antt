-- Loops over what is kept with the first one last.
use Rattle.std.proofs.Common.{◌≡◌, ℕ, ◌≤◌, true, false, List, [], ◌∷◌, ◌++◌, length, take, Option, Some, None, refl, sym, ap, ◌∙◌, subst, arith}
use Rattle.std.specs.Prelude.{is_some, IfSome}
use Rattle.std.specs.Option.{option_map}
use Rattle.cf_next.specs.declared.parts.Callee.{Callee as CodeCallee}
use Rattle.cf_next.specs.declared.parts.Work.{Work as CodeWork}
use Rattle.cf_next.specs.declared.step.Step.{Step}
use Rattle.cf_next.specs.Facts.{Facts}
use Rattle.cf_next.specs.Stands.{Kind}
use Rattle.cf_next.specs.Demands.{Demand, call_demand, callees_left, work_demand, work_left}
use Rattle.cf_next.specs.Steps.{demand_of}
use Rattle.cf_next.specs.Views.{callee_of, callees_of, work_of, works_of}
use Rattle.cf_next.specs.WorkSteps.{item_demand, callee_demand, work_left_of, callees_left_of, IsWorkLeft, AreCalleesLeft}
use Rattle.cf_next.proofs.CallLaws.{begins-less, demand-passed, left-passed, demand-found, left-found, work-passed, rest-passed, work-found, rest-found}

pub begins-next : {A : Type 0} (xs ys rest : List A) (x : A) → rest ≡ xs ++ x ∷ [] → rest ≡ take (length rest) ys
    → xs ≡ take (length xs) ys
begins-next {A = A} xs ys rest x e h = begins-less xs ys x (subst (λ (r : List A). r ≡ take (length r) ys) e h)

pub none-of : (s : Option Step) (d : Option Demand) → is_some s ≡ false → option_map demand_of s ≡ d → d ≡ None
none-of None d n e = sym e
none-of (Some s) d n e = cc

pub empty-of : {A : Type 0} (xs : List A) → length xs ≡ 0 → xs ≡ []
empty-of [] h = refl
empty-of (x ∷ xs) h = absurd (omega arith)

-- ---- what is called

module _ (facts : Facts) (t : ℕ) (kind : Kind) (whole rest xs : List CodeCallee) (x : CodeCallee) (e : rest ≡ xs ++ x ∷ []) where
  pub demand-next : callee_demand facts t kind (callee_of x) ≡ None
      → call_demand facts t kind (callees_of rest) ≡ call_demand facts t kind (callees_of whole)
      → call_demand facts t kind (callees_of xs) ≡ call_demand facts t kind (callees_of whole)
  demand-next n h = sym (demand-passed facts t kind xs x n) ∙ ap (λ (r : List CodeCallee). call_demand facts t kind (callees_of r)) (sym e) ∙ h

  pub left-next : callee_demand facts t kind (callee_of x) ≡ None
      → callees_left facts t kind (callees_of rest) ≡ callees_left facts t kind (callees_of whole)
      → callees_left facts t kind (callees_of xs) ≡ callees_left facts t kind (callees_of whole)
  left-next n h = sym (left-passed facts t kind xs x n) ∙ ap (λ (r : List CodeCallee). callees_left facts t kind (callees_of r)) (sym e) ∙ h

  pub demand-got : (s : Option Step) → is_some s ≡ true
      → option_map demand_of s ≡ callee_demand facts t kind (callee_of x)
      → call_demand facts t kind (callees_of rest) ≡ call_demand facts t kind (callees_of whole)
      → option_map demand_of s ≡ call_demand facts t kind (callees_of whole)
  demand-got None n d h = cc
  demand-got (Some s) n d h =
      sym (demand-found facts t kind xs x (demand_of s) (sym d)) ∙ ap (λ (r : List CodeCallee). call_demand facts t kind (callees_of r)) (sym e) ∙ h

  pub left-got : (s : Option Step) (n : ℕ) → n ≡ length xs
      → option_map demand_of s ≡ callee_demand facts t kind (callee_of x)
      → IfSome s (λ (y : Step). callees_left_of y ≡ Some n) → xs ≡ take (length xs) whole → length xs ≤ length whole
      → callees_left facts t kind (callees_of rest) ≡ callees_left facts t kind (callees_of whole)
      → IfSome s (λ (y : Step). AreCalleesLeft facts t kind whole (callees_left_of y))
  left-got None n en d l b w h = tt
  left-got (Some s) n en d l b w h =
      subst (λ (o : Option ℕ). AreCalleesLeft facts t kind whole o) (sym (l ∙ ap Some en)) (record {
        is = sym h ∙ ap (λ (r : List CodeCallee). callees_left facts t kind (callees_of r)) e ∙ left-found facts t kind xs x (demand_of s) (sym d) ∙ ap callees_of b;
        within = w;
      })

pub no-call : (facts : Facts) (t : ℕ) (kind : Kind) (whole rest : List CodeCallee) → length rest ≡ 0
    → call_demand facts t kind (callees_of rest) ≡ call_demand facts t kind (callees_of whole)
    → None ≡ call_demand facts t kind (callees_of whole)
no-call facts t kind whole rest n h =
    ap (λ (r : List CodeCallee). call_demand facts t kind (callees_of r)) (sym (empty-of rest n)) ∙ h

-- ---- work

module _ (facts : Facts) (whole rest xs : List CodeWork) (x : CodeWork) (e : rest ≡ xs ++ x ∷ []) where
  pub work-next : item_demand facts (work_of x) ≡ None
      → work_demand facts (works_of rest) ≡ work_demand facts (works_of whole)
      → work_demand facts (works_of xs) ≡ work_demand facts (works_of whole)
  work-next n h = sym (work-passed facts xs x n) ∙ ap (λ (r : List CodeWork). work_demand facts (works_of r)) (sym e) ∙ h

  pub rest-next : item_demand facts (work_of x) ≡ None
      → work_left facts (works_of rest) ≡ work_left facts (works_of whole)
      → work_left facts (works_of xs) ≡ work_left facts (works_of whole)
  rest-next n h = sym (rest-passed facts xs x n) ∙ ap (λ (r : List CodeWork). work_left facts (works_of r)) (sym e) ∙ h

  pub work-got : (s : Option Step) → is_some s ≡ true → option_map demand_of s ≡ item_demand facts (work_of x)
      → work_demand facts (works_of rest) ≡ work_demand facts (works_of whole)
      → option_map demand_of s ≡ work_demand facts (works_of whole)
  work-got None n d h = cc
  work-got (Some s) n d h =
      sym (work-found facts xs x (demand_of s) (sym d)) ∙ ap (λ (r : List CodeWork). work_demand facts (works_of r)) (sym e) ∙ h

  pub rest-got : (s : Option Step) (n : ℕ) → n ≡ length xs → option_map demand_of s ≡ item_demand facts (work_of x)
      → IfSome s (λ (y : Step). work_left_of y ≡ Some n) → xs ≡ take (length xs) whole → length xs ≤ length whole
      → work_left facts (works_of rest) ≡ work_left facts (works_of whole)
      → IfSome s (λ (y : Step). IsWorkLeft facts whole (work_left_of y))
  rest-got None n en d l b w h = tt
  rest-got (Some s) n en d l b w h =
      subst (λ (o : Option ℕ). IsWorkLeft facts whole o) (sym (l ∙ ap Some en)) (record {
        is = sym h ∙ ap (λ (r : List CodeWork). work_left facts (works_of r)) e ∙ rest-found facts xs x (demand_of s) (sym d) ∙ ap works_of b;
        within = w;
      })

pub no-work : (facts : Facts) (whole rest : List CodeWork) → length rest ≡ 0
    → work_demand facts (works_of rest) ≡ work_demand facts (works_of whole) → None ≡ work_demand facts (works_of whole)
no-work facts whole rest n h =
    ap (λ (r : List CodeWork). work_demand facts (works_of r)) (sym (empty-of rest n)) ∙ h
