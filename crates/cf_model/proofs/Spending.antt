-- An item that is to be spent is owed after that, so its thread has a reference to it. Each step keeps it.
use Rattle.std.proofs.Common.{◌++◌, ◌<◌, ◌∙◌, ◌∷◌, ◌≡◌, Bool, List, None, Option, Some, [], ap, arith, cond, eqb, false, inl, inr, map, refl, subst, suc, sym, true, zero, ℕ}
use Rattle.std.proofs.lemmas.Bool.{eq-eqb}
use Rattle.std.proofs.lemmas.Bool.Decides.{eqb_tells}
use Rattle.std.specs.Prelude.{is_some}
use Rattle.cf_syntax.specs.BlockLines.{BlockLine}
use Rattle.cf_syntax.specs.declared.script.Script.{Script}
use Rattle.cf_graph.specs.Edges.{counted}
use Rattle.cf_next.specs.Advance.{bodies_of, is_post, is_spent, kind_item, owed_by, releases_of, return_work, spend_work, top_info, top_kind, work_after}
use Rattle.cf_next.specs.Demands.{Demand, calls, closes, does, drops, ends, enters, owes, returns, slot_if, spends, work_demand, work_left}
use Rattle.cf_next.specs.Facts.{Facts}
use Rattle.cf_next.specs.Stands.{Frame, Kind, Role, Stand, Work, as_observer, as_receiver, as_source, as_timer, item_in, of_block, of_handler, of_run, opening_stand, release_of, slots_of, spend_of, stop_stand}
use Rattle.cf_model.proofs.Tokens.{at_other, at_own}
use Rattle.cf_model.specs.Tokens.{owed_in}
use Rattle.cf_model.specs.Known.{facts_of}
use Rattle.cf_model.specs.State.{State, at_or, blank, stand_at, start, threads_of, with_stand}
use Rattle.cf_model.specs.Steps.{Step, stand_after, state_after, step_finals, stopped_at}

abbrev pub Spends : List Work → Type 0
Spends [] = Unit {0}
Spends (release_of o ∷ work) = Spends work
Spends (spend_of i ∷ work) = (0 < owed_in i work) × Spends work
Spends (slots_of d k ∷ work) = Spends work

-- ---- parts of work

spends-bodies : (bs : List ℕ) (work : List Work) → Spends work → Spends (bodies_of bs ++ work)
spends-bodies [] work h = h
spends-bodies (d ∷ bs) work h = spends-bodies bs work h

spends-releases : (gs : List ℕ) (work : List Work) → Spends work → Spends (map release_of gs ++ work)
spends-releases [] work h = h
spends-releases (g ∷ gs) work h = spends-releases gs work h

left_spends : (facts : Facts) (work : List Work) → Spends work → Spends (work_left facts work)
left_spends facts [] h = h
left_spends facts (release_of o ∷ work) h = h
left_spends facts (spend_of i ∷ work) h = h.1
left_spends facts (slots_of d k ∷ work) h = by (is_some (facts.slot d k)) (left_spends facts work h)
  where
    by : (t : Bool) → Spends (work_left facts work) → Spends (cond t work (work_left facts work))
    by true rest = h
    by false rest = rest

all_releases : (gs : List ℕ) → Spends (map release_of gs)
all_releases [] = tt
all_releases (g ∷ gs) = all_releases gs

given_spends : (x : BlockLine) (list : List ℕ) → Spends (owed_by x list)
given_spends x list = by (is_post x)
  where
    by : (t : Bool) → Spends (cond t [] (map release_of list))
    by true = tt
    by false = all_releases list

-- ---- at the end of a handler

released_one : (o : Option ℕ) → Spends (releases_of o)
released_one None = tt
released_one (Some o) = tt

-- an item that is spent is the one that was called
spent_owed : (facts : Facts) (role : Role) (n : ℕ) → is_spent facts role n ≡ true
    → 0 < owed_in n (releases_of (item_in role n))
spent_owed facts as_observer n e = let here : counted (eqb n n) ≡ 1 = ap counted (eq-eqb n n refl) in omega (arith, here)
spent_owed facts as_timer n e = let here : counted (eqb n n) ≡ 1 = ap counted (eq-eqb n n refl) in omega (arith, here)
spent_owed facts as_source n e = absurd cc
spent_owed facts as_receiver n e = absurd cc

kind_spends : (facts : Facts) (k : Kind) → Spends (spend_work facts k ++ releases_of (kind_item k))
kind_spends facts of_block = tt
kind_spends facts (of_run r) = tt
kind_spends facts (of_handler q) = by (is_spent facts q.role q.number) refl
  where
    by : (t : Bool) → is_spent facts q.role q.number ≡ t
        → Spends (cond t (spend_of q.number ∷ []) [] ++ releases_of (item_in q.role q.number))
    by true e = (spent_owed facts q.role q.number e, released_one (item_in q.role q.number))
    by false e = released_one (item_in q.role q.number)

return_spends : (facts : Facts) (fs : List Frame) → Spends (return_work facts fs)
return_spends facts fs = by (top_info fs)
  where
    by : (info : Option ℕ)
        → Spends (releases_of info ++ (spend_work facts (top_kind fs) ++ releases_of (kind_item (top_kind fs))))
    by None = kind_spends facts (top_kind fs)
    by (Some o) = kind_spends facts (top_kind fs)

-- ---- after an entry

work_spends : (facts : Facts) (fs : List Frame) (d : Demand) (list : List ℕ) (work : List Work) → Spends work
    → Spends (work_after facts fs d list work)
work_spends facts fs (does x) list work h = given_spends x list
work_spends facts fs ends list work h = tt
work_spends facts fs returns list work h = return_spends facts fs
work_spends facts fs (owes o) list work h = left_spends facts work h
work_spends facts fs (spends i) list work h = spends-releases list (work_left facts work) (left_spends facts work h)
work_spends facts fs (drops b k o) list work h = left_spends facts work h
work_spends facts fs (calls k c) list work h = tt
work_spends facts fs (enters p) list work h = tt
work_spends facts fs closes list work h = tt

pub stopped_work : (stops : Option ℕ) (u : ℕ) (ss : List Stand)
    → (stand_at u (stopped_at stops ss)).work ≡ (stand_at u ss).work
stopped_work None u ss = refl
stopped_work (Some w) u ss = elim (eqb_tells u w) [
  | inl e ↦ subst (λ (n : ℕ). (stand_at n (stopped_at (Some w) ss)).work ≡ (stand_at n ss).work) (sym e.1) (ap (λ (s : Stand). s.work) (at_own blank w (stop_stand (stand_at w ss)) ss))
  | inr e ↦ ap (λ (s : Stand). s.work) (at_other blank u w (stop_stand (stand_at w ss)) ss e.1)
]

abbrev pub AllSpend : State → Type 0
AllSpend st = (t : ℕ) → Spends (stand_at t st.stands).work

pub step_spends : (t : ℕ) (d : Demand) (step : Step) (st : State) → AllSpend st → AllSpend (state_after t d step st)
step_spends t d step st h u =
    let new = stand_after t d step st in
    let works = spends-bodies (step_finals step st) (work_after (facts_of st) (stand_at t st.stands).frames d step.list (stand_at t st.stands).work) (work_spends (facts_of st) (stand_at t st.stands).frames d step.list (stand_at t st.stands).work (h t)) in
    elim (eqb_tells u t) [
      | inl q ↦ subst (λ (n : ℕ). Spends (stand_at n (stopped_at step.stops (with_stand t new st.stands))).work) (sym q.1)
          (subst Spends (sym (stopped_work step.stops t (with_stand t new st.stands) ∙ ap (λ (x : Stand). x.work) (at_own blank t new st.stands))) works)
      | inr q ↦ subst Spends (sym (stopped_work step.stops u (with_stand t new st.stands) ∙ ap (λ (x : Stand). x.work) (at_other blank u t new st.stands q.1))) (h u)
    ]

pub opening_work : (ts : List ℕ) (u : ℕ) → (at_or blank u (map opening_stand ts)).work ≡ []
opening_work [] zero = refl
opening_work [] (suc u) = refl
opening_work (t ∷ ts) zero = refl
opening_work (t ∷ ts) (suc u) = opening_work ts u

pub start_spends : (s : Script) → AllSpend (start s)
start_spends s t = subst Spends (sym (opening_work (threads_of s) t)) tt

-- ---- what is spent first

pub spend_first : (facts : Facts) (work : List Work) (i : ℕ) → work_demand facts work ≡ Some (spends i) → Spends work
    → 0 < owed_in i work
spend_first facts [] i e h = absurd cc
spend_first facts (release_of o ∷ work) i e h = absurd cc
spend_first facts (spend_of j ∷ work) i e h = subst (λ (n : ℕ). 0 < owed_in n work) (same j i e) h.0
  where
    of_spend : Option Demand → ℕ
    of_spend (Some (spends n)) = n
    of_spend _ = 0

    same : (a b : ℕ) → ◌≡◌ {A = Option Demand} (Some (spends a)) (Some (spends b)) → a ≡ b
    same a b e = ap of_spend e
spend_first facts (slots_of b k ∷ work) i e h = by (facts.slot b k) e (λ q. spend_first facts work i q h)
  where
    by : (left : Option ℕ) → slot_if b k left (work_demand facts work) ≡ Some (spends i)
        → (work_demand facts work ≡ Some (spends i) → 0 < owed_in i work) → 0 < owed_in i work
    by None q rest = rest q
    by (Some o) q rest = absurd cc
