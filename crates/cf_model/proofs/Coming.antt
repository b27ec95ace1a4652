-- What comes first is what the thread demands, and after it the rest comes.
use Rattle.std.proofs.Common.{◌≡◌, ℕ, zero, suc, ◌+◌, Bool, true, false, cond, List, [], ◌∷◌, drop, Option, Some, None, refl, ap, ◌∙◌, arith}
use Rattle.std.specs.Prelude.{slice_get}
use Rattle.cf_graph.specs.Holders.{Holder}
use Rattle.cf_model.proofs.Tokens.{at_own}
use Rattle.cf_model.specs.Known.{facts_of}
use Rattle.cf_model.specs.State.{State, blank, stand_at, with_stand}
use Rattle.cf_model.specs.Steps.{Step, bindings_of, done_by, frames_at, retain_step, stand_after, step_answer, step_finals, step_of, stopped_at}
use Rattle.cf_next.specs.Advance.{advanced, line_done, on_top}
use Rattle.cf_next.specs.Ahead.{ahead, frame_ahead, lines_ahead, retain_of, unless_due, while_some}
use Rattle.cf_next.specs.Demands.{Demand, call_demand, demand, does, ends, frame_demand, frame_lines, kind_demand, line_or, or_else, returns, work_demand}
use Rattle.cf_next.specs.Facts.{Facts}
use Rattle.cf_next.specs.Next.{used_objects}
use Rattle.cf_next.specs.Stands.{Binding, Frame, Kind, Stand, look, of_block, of_handler, of_run}
use Rattle.cf_syntax.specs.BlockLines.{BlockLine, says}
use Rattle.cf_syntax.specs.Mentions.{first_of}
use Rattle.cf_syntax.specs.declared.script.Script.{Script}
use Rattle.cf_syntax.specs.declared.statement.Statement.TheVariants.{Retain}

retain : ℕ → BlockLine
retain v = says (Retain v)

first_or : List ℕ → ℕ
first_or [] = 0
first_or (x ∷ xs) = x

due_is : (a : Option Demand) (xs : List ℕ) (o : ℕ) (os : List ℕ) → unless_due a xs ≡ o ∷ os → (a ≡ None) × (xs ≡ o ∷ os)
due_is None xs o os e = (refl, e)
due_is (Some d) xs o os e = absurd cc

some_is : (l : Option ℕ) (o : ℕ) (os rest : List ℕ) → while_some l rest ≡ o ∷ os → (l ≡ Some o) × (rest ≡ os)
some_is None o os rest e = absurd cc
some_is (Some p) o os rest e = (cc, ap (drop 1) e)

line_is : (bs : List Binding) (x : BlockLine) (o : ℕ) (os rest : List ℕ) → while_some (retain_of bs x) rest ≡ o ∷ os
    → (v : ℕ) × (x ≡ says (Retain v)) × (look v bs ≡ Some o) × (rest ≡ os)
line_is bs (says (Retain v)) o os rest e = let p = some_is (look v bs) o os rest e in (v, refl, p.0, p.1)
line_is bs x o os rest e = absurd cc

first_line : (bs : List Binding) (lines : List BlockLine) (n o : ℕ) (os : List ℕ)
    → lines_ahead bs (drop n lines) ≡ o ∷ os
    → (v : ℕ) × (slice_get lines n ≡ Some (says (Retain v))) × (look v bs ≡ Some o) × (lines_ahead bs (drop (suc n) lines) ≡ os)
first_line bs [] zero o os e = absurd cc
first_line bs [] (suc n) o os e = absurd cc
first_line bs (x ∷ xs) zero o os e = let p = line_is bs x o os (lines_ahead bs xs) e in (p.0, ap (λ (y : BlockLine). Some y) p.1, p.2, p.3)
first_line bs (x ∷ xs) (suc n) o os e = first_line bs xs n o os e

pub record First (c : Script) (facts : Facts) (t : ℕ) (s : Stand) (o : ℕ) (os : List ℕ) : Type 0 where
  pub going : s.is_done ≡ false
  pub idle : work_demand facts s.work ≡ None
  pub top : Frame
  pub below : List Frame
  pub frames : s.frames ≡ top ∷ below
  pub none : call_demand facts t top.kind top.collected ≡ None
  pub var : ℕ
  pub line : slice_get (frame_lines c top.kind top.block) top.number ≡ Some (says (Retain var))
  pub bound : look var top.bindings ≡ Some o
  pub rest : lines_ahead top.bindings (drop (suc top.number) (frame_lines c top.kind top.block)) ≡ os

frames_first : (c : Script) (facts : Facts) (t : ℕ) (s : Stand) (fs : List Frame) (o : ℕ) (os : List ℕ)
    → s.is_done ≡ false → work_demand facts s.work ≡ None → s.frames ≡ fs → frame_ahead c facts t fs ≡ o ∷ os
    → First c facts t s o os
frames_first c facts t s [] o os d w f e = absurd cc
frames_first c facts t s (x ∷ fs) o os d w f e =
    let p = due_is (call_demand facts t x.kind x.collected) (lines_ahead x.bindings (drop x.number (frame_lines c x.kind x.block))) o os e in
    let q = first_line x.bindings (frame_lines c x.kind x.block) x.number o os p.1 in
    record { going = d; idle = w; top = x; below = fs; frames = f; none = p.0; var = q.0; line = q.1; bound = q.2; rest = q.3 }

pub first_comes : (c : Script) (facts : Facts) (t : ℕ) (s : Stand) (o : ℕ) (os : List ℕ) → ahead c facts t s ≡ o ∷ os
    → First c facts t s o os
first_comes c facts t s o os e = by s.is_done refl e
  where
    by : (b : Bool) → s.is_done ≡ b
        → cond b [] (unless_due (work_demand facts s.work) (frame_ahead c facts t s.frames)) ≡ o ∷ os
        → First c facts t s o os
    by true q e = absurd cc
    by false q e = let p = due_is (work_demand facts s.work) (frame_ahead c facts t s.frames) o os e in frames_first c facts t s s.frames o os q p.0 refl p.1

kind_line : (c : Script) (facts : Facts) (t : ℕ) (k : Kind) (b n : ℕ) (x : BlockLine)
    → slice_get (frame_lines c k b) n ≡ Some x → kind_demand c facts t k b n ≡ does x
kind_line c facts t of_block b n x e = ap (λ l. line_or l ends) e
kind_line c facts t (of_handler k) b n x e = ap (λ l. line_or l returns) e
kind_line c facts t (of_run r) b n x e = absurd (no_line x e)
  where
    no_line : (y : BlockLine) → ◌≡◌ {A = Option BlockLine} None (Some y) → ⊥
    no_line y e = cc

-- what comes first is demanded
pub first_demanded : (c : Script) (facts : Facts) (t : ℕ) (s : Stand) (o : ℕ) (os : List ℕ) (h : First c facts t s o os)
    → demand c facts t s ≡ Some (does (says (Retain h.var)))
first_demanded c facts t s o os h =
    ap (λ b. cond b None (or_else (work_demand facts s.work) (frame_demand c facts t s.frames))) h.going
    ∙ ap (λ w. or_else w (frame_demand c facts t s.frames)) h.idle
    ∙ ap (frame_demand c facts t) h.frames
    ∙ ap (λ w. or_else w (Some (kind_demand c facts t h.top.kind h.top.block h.top.number))) h.none
    ∙ ap (λ (d : Demand). Some d) (kind_line c facts t h.top.kind h.top.block h.top.number (says (Retain h.var)) h.line)

-- a retain's step adds a reference and does nothing else
plus_quiet : (k : Holder) (st : State) (o : Option ℕ)
    → ((retain_step k st o).stops ≡ None) × ((retain_step k st o).list ≡ []) × (step_finals (retain_step k st o) st ≡ [])
plus_quiet k st None = (refl, refl, refl)
plus_quiet k st (Some o) = (refl, refl, refl)

-- after it the rest comes
pub rest_comes : (c : Script) (t : ℕ) (st : State) (o : ℕ) (os : List ℕ)
    (h : First c (facts_of st) t (stand_at t st.stands) o os)
    → let d : Demand = does (says (Retain h.var)) in ahead c (facts_of (done_by c t st d)) t (stand_at t (done_by c t st d).stands) ≡ os
rest_comes c t st o os h =
    ap (λ ss. ahead c facts' t (stand_at t ss)) (ap (λ z. stopped_at z (with_stand t (stand_after t d step st) st.stands)) quiet.0)
    ∙ ap (λ s. ahead c facts' t s) (at_own blank t (stand_after t d step st) st.stands)
    ∙ ap (λ (p : List ℕ × List ℕ). ahead c facts' t (advanced (facts_of st) t d (step_answer step st) p.0 p.1 s)) (λ i. (quiet.2 i, quiet.1 i))
    ∙ ap (λ fs. frame_ahead c facts' t (on_top (line_done (facts_of st) t x (step_answer step st) []) fs)) h.frames
    ∙ ap (λ n. lines_ahead h.top.bindings (drop n (frame_lines c h.top.kind h.top.block))) (one h.top.number)
    ∙ h.rest
  where
    x : BlockLine
    x = says (Retain h.var)

    d : Demand
    d = does (says (Retain h.var))

    s : Stand
    s = stand_at t st.stands

    step : Step
    step = step_of c t st (frames_at t st) d

    facts' : Facts
    facts' = facts_of (done_by c t st d)

    quiet : (step.stops ≡ None) × (step.list ≡ []) × (step_finals step st ≡ [])
    quiet = plus_quiet _ st (first_of (used_objects (bindings_of (frames_at t st)) x))

    one : (n : ℕ) → n + 1 ≡ suc n
    one n = omega arith
