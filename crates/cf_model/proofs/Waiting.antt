-- The work of all threads: each finalised body that has slots left waits in it once, at the place where it stands.
use Rattle.std.proofs.Common.{◌++◌, ◌+◌, ◌<◌, ◌==◌, ◌∙◌, ◌∷◌, ◌≡◌, ◌≤◌, ◌⊎◌, Bool, List, None, Option, Some, [], ap, arith, cond, drop, eqb, false, inl, inr, length, ltb, map, refl, subst, suc, sym, true, zero, ℕ}
use Rattle.std.proofs.lemmas.Bool.{eq-eqb, ltb-true}
use Rattle.std.proofs.lemmas.Bool.Decides.{eqb_tells, nat_tests}
use Rattle.std.specs.Prelude.{is_some, slice_get}
use Rattle.cf_ids.specs.declared.answer.Answer.{Answer}
use Rattle.cf_ids.specs.declared.answer.Answer.TheVariants as answers
use Rattle.rl_turn.specs.declared.phases.Phase.{Phase}
use Rattle.cf_syntax.specs.BlockLines.{BlockLine, begins, claims, packs, says}
use Rattle.cf_syntax.specs.Mentions.{first_of, ownership_of}
use Rattle.cf_syntax.specs.declared.mention.Ownership.{Ownership}
use Rattle.cf_syntax.specs.declared.mention.Ownership.TheVariants.{Binds, Keeps, Releases, Retains}
use Rattle.cf_syntax.specs.declared.script.Script.{Script}
use Rattle.cf_syntax.specs.declared.statement.Statement.{Statement}
use Rattle.cf_contents.specs.Contents.{Object, slots_at, times}
use Rattle.cf_contents.specs.Deeds.{Origin}
use Rattle.cf_graph.specs.Edges.{counted, degree}
use Rattle.cf_graph.specs.Holders.{Holder, parcel, variable}
use Rattle.cf_next.specs.Advance.{bodies_of, is_post, is_spent, kind_item, owed_by, releases_of, spend_work, work_after}
use Rattle.cf_next.specs.Demands.{Demand, drops, frame_lines, owes, slot_if, spends, work_demand, work_left}
use Rattle.cf_next.specs.Facts.{Facts}
use Rattle.cf_next.specs.Next.{object_at, used_objects}
use Rattle.cf_next.specs.Stands.{Binding, Frame, Kind, Stand, Work, item_of, look, of_block, of_handler, of_run, release_of, slots_of, spend_of, stop_stand}
use Rattle.cf_model.proofs.Phases.{phase_case}
use Rattle.cf_model.proofs.Balance.{IsBalanced}
use Rattle.cf_model.proofs.DealLaws.{FitsDeal, SameBodies, flags_bodies, same_bodies}
use Rattle.cf_model.proofs.Dropping.{slot_parts}
use Rattle.cf_model.proofs.LegalSteps.{fired_bodies}
use Rattle.cf_model.proofs.Sound.{spend_places}
use Rattle.cf_model.proofs.Tokens.{at_other}
use Rattle.cf_model.proofs.Views.{FrameView, StandView, WorkView, first_drops, first_owes, first_spends, is_call, is_close, is_end, is_line, is_phase, is_return, of_frame, of_work}
use Rattle.cf_model.specs.Deals.{Deal, deal_of}
use Rattle.cf_model.specs.Known.{facts_of, slot_left}
use Rattle.cf_model.specs.State.{Parts, Sleeping, State, at_or, awake, blank, first_held, left_of, stand_at, until, with_stand}
use Rattle.cf_model.specs.Steps.{Bound, Step, bind_step, bound_of, claim_step, close_step, end_step, frames_at, idle, line_step, made_from, pack_step, packed_holder, phase_step, release_step, retain_step, sleeping, start_all, statement_step, step_of, stopped_at, with_sleep}

-- how often the slots of a body wait in work
abbrev pub waits_in : ℕ → List Work → ℕ
waits_in b [] = 0
waits_in b (release_of o ∷ work) = waits_in b work
waits_in b (spend_of i ∷ work) = waits_in b work
waits_in b (slots_of d k ∷ work) = counted (d == b) + waits_in b work

-- each waiting body stands at the place up to which it has given up its slots
abbrev pub Places : List ℕ → List Work → Type 0
Places dropped [] = Unit {0}
Places dropped (release_of o ∷ work) = Places dropped work
Places dropped (spend_of i ∷ work) = Places dropped work
Places dropped (slots_of d k ∷ work) = (k ≡ times d dropped) × Places dropped work

-- ---- what is given up

-- a step that gives up no slot: a finalised body that has none left has none after it
pub record GivesUpNone (st : State) (p : Parts) : Type 0 where
  pub dropped : p.dropped ≡ st.parts.dropped
  pub left : (b : ℕ) → 0 < times b st.parts.finalised → left_of st.parts.objects st.parts.dropped b ≡ []
      → left_of p.objects p.dropped b ≡ []

same_up : (st : State) (p : Parts) → SameBodies st p → GivesUpNone st p
same_up st p same = record { dropped = same.shape.dropped; left = λ b f e. same.left b ∙ e }

deal_up : (st : State) (deal : Deal) → FitsDeal st deal → GivesUpNone st deal.parts
deal_up st deal fits = record { dropped = fits.shape.dropped; left = λ b f e. fits.left b f ∙ e }

made_at : (xs : List Object) (origin : Origin) (n : ℕ) → n < length xs
    → slice_get (xs ++ made_from origin) n ≡ slice_get xs n
made_at [] origin n h = absurd (omega (arith, h))
made_at (x ∷ xs) origin zero h = refl
made_at (x ∷ xs) origin (suc n) h = made_at xs origin n (omega (arith, h))

bind_up : (st : State) (h : Holder) (b : Bound) → IsBalanced st → GivesUpNone st (bind_step h st.parts b).parts
bind_up st h bound balance = record { dropped = refl; left = λ a f e. ap (λ (ob : Option Object). drop (times a st.parts.dropped) (slots_at ob)) (made_at st.parts.objects bound.origin a (made a f)) ∙ e }
  where
    is_made_if : (test : Bool) (a n : ℕ) → ltb a n ≡ test → 0 < counted (ltb a n) → a < n
    is_made_if true a n q h = ltb-true a n q
    is_made_if false a n q h = absurd (omega (arith, h, ap counted q))

    made : (a : ℕ) → 0 < times a st.parts.finalised → a < length st.parts.objects
    made a f = is_made_if (ltb a (length st.parts.objects)) a (length st.parts.objects) refl (omega (arith, balance a, f))

module _ (c : Script) (t : ℕ) (st : State) (balance : IsBalanced st) where
  still_up : GivesUpNone st st.parts
  still_up = same_up st st.parts (same_bodies st)

  retain_up : (h : Holder) (object : Option ℕ) → GivesUpNone st (retain_step h st object).parts
  retain_up h None = still_up
  retain_up h (Some o) = still_up

  release_up : (h : Holder) (object : Option ℕ) → GivesUpNone st (release_step t h st object).parts
  release_up h None = still_up
  release_up h (Some o) = still_up

  claim_up : (h k : Holder) (object : Option ℕ) → GivesUpNone st (claim_step st h object k).parts
  claim_up h k None = still_up
  claim_up h k (Some o) = still_up

  pack_up : (h k : Holder) (object : Option ℕ) → GivesUpNone st (pack_step t st h object k).parts
  pack_up h k None = still_up
  pack_up h k (Some o) = still_up

  statement_up : (d : ℕ) (x : Statement) (used : List (Option ℕ)) (ownership : Ownership)
      → FitsDeal st (deal_of c t st x used) → GivesUpNone st (statement_step c t d st x used ownership).parts
  statement_up d x used Keeps fits = deal_up st (deal_of c t st x used) fits
  statement_up d x used (Binds v) fits = bind_up st (variable t d v) (bound_of c st.parts x used) balance
  statement_up d x used (Retains v) fits = retain_up (variable t d v) (first_of used)
  statement_up d x used (Releases v) fits = release_up (variable t d v) (first_of used)

  abbrev pub LineFits : List Binding → BlockLine → Type 0
  LineFits bs (says x) = FitsDeal st (deal_of c t st x (used_objects bs (says x)))
  LineFits bs _ = Unit {0}

  line_up : (d : ℕ) (bs : List Binding) (x : BlockLine) → LineFits bs x → GivesUpNone st (line_step c t d st bs x).parts
  line_up d bs (begins v) fits = still_up
  line_up d bs (claims k v) fits = claim_up (parcel t k) (variable t d v) (first_held (parcel t k) st.edges)
  line_up d bs (packs u k v) fits = pack_up (packed_holder t d v) (parcel u k) (object_at bs v)
  line_up d bs (says x) fits = statement_up d x (used_objects bs (says x)) (ownership_of x) fits

  end_up : GivesUpNone st (end_step t st).parts
  end_up = by (eqb t 0)
    where
      by : (b : Bool) → GivesUpNone st (cond b (record st.parts { flags = start_all st.parts.flags }) st.parts)
      by true = same_up st _ (flags_bodies st (start_all st.parts.flags))
      by false = still_up

  sleep_up : (answer : Answer) (sleep : Sleeping) → GivesUpNone st (sleeping st t answer sleep).parts
  sleep_up answer sleep = same_up st _ (flags_bodies st (with_sleep st.parts t sleep).flags)

  phase_up : (p : Phase) (k : Kind) → GivesUpNone st (phase_step st t p k).parts
  phase_up p k = phase_case (λ (s : Step). GivesUpNone st s.parts) st t p k (record { woken = sleep_up answers.Woken awake; due = still_up; sleeps = λ d. sleep_up (answers.Asleep d) (until d); tests = λ r. still_up; collects = λ l. still_up })

  close_up : (k : Kind) → GivesUpNone st (close_step st k).parts
  close_up (of_run r) = still_up
  close_up of_block = still_up
  close_up (of_handler k) = still_up

  pub frame_up : (f : Frame) (fs : List Frame) (d : Demand) → FrameView c (facts_of st) t f d
      → ((x : BlockLine) → slice_get (frame_lines c f.kind f.block) f.number ≡ Some x → LineFits f.bindings x)
      → GivesUpNone st (step_of c t st (f ∷ fs) d).parts
  frame_up f fs _ (is_call k called found) fits = same_up st _ (fired_bodies st (item_of k))
  frame_up f fs _ (is_line x at) fits = line_up (length fs) f.bindings x (fits x at)
  frame_up f fs _ (is_end e) fits = end_up
  frame_up f fs _ (is_return k e end) fits = still_up
  frame_up f fs _ (is_phase r p e) fits = phase_up p f.kind
  frame_up f fs _ (is_close r e) fits = close_up f.kind

-- ---- sums over threads

abbrev pub summed : (Stand → ℕ) → List Stand → ℕ
summed f [] = 0
summed f (s ∷ ss) = f s + summed f ss

pub summed-with : (f : Stand → ℕ) (t : ℕ) (s : Stand) (ss : List Stand) → f blank ≡ 0
    → summed f (with_stand t s ss) + f (stand_at t ss) ≡ summed f ss + f s
summed-with f zero s [] e = omega (arith, e)
summed-with f (suc t) s [] e = omega (arith, e, summed-with f t s [] e, none t)
  where
    none : (k : ℕ) → f (at_or blank k []) ≡ f blank
    none zero = refl
    none (suc k) = refl
summed-with f zero s (x ∷ ss) e = omega arith
summed-with f (suc t) s (x ∷ ss) e = omega (arith, summed-with f t s ss e)

pub summed-most : (f : Stand → ℕ) (t : ℕ) (ss : List Stand) → f blank ≡ 0 → f (stand_at t ss) ≤ summed f ss
summed-most f zero [] e = omega (arith, e)
summed-most f (suc t) [] e = omega (arith, e)
summed-most f zero (x ∷ ss) e = omega arith
summed-most f (suc t) (x ∷ ss) e = omega (arith, summed-most f t ss e)

abbrev pub waits : ℕ → Stand → ℕ
waits b s = waits_in b s.work

pub stopped-summed : (b : ℕ) (stops : Option ℕ) (ss : List Stand)
    → summed (waits b) (stopped_at stops ss) ≡ summed (waits b) ss
stopped-summed b None ss = refl
stopped-summed b (Some u) ss = omega (arith, summed-with (waits b) u (stop_stand (stand_at u ss)) ss refl)

-- ---- what a state has of its work

pub record IsWorked (st : State) : Type 0 where
  pub most : (b : ℕ) → summed (waits b) st.stands ≤ times b st.parts.finalised
  pub left : (b : ℕ) → 0 < times b st.parts.finalised → summed (waits b) st.stands ≡ 0
      → left_of st.parts.objects st.parts.dropped b ≡ []
  pub places : (t : ℕ) → Places st.parts.dropped (stand_at t st.stands).work

-- ---- what is passed over

abbrev pub if_none : Option ℕ → ℕ → ℕ
if_none None n = n
if_none (Some o) n = 0

-- how often a body is passed over, since nothing of it is left
abbrev pub passed : Facts → ℕ → List Work → ℕ
passed facts b [] = 0
passed facts b (release_of o ∷ work) = 0
passed facts b (spend_of i ∷ work) = 0
passed facts b (slots_of d k ∷ work) = if_none (facts.slot d k) (counted (d == b) + passed facts b work)

-- what the first item of work waits for
abbrev first_waits : ℕ → Demand → ℕ
first_waits b (drops d k o) = counted (d == b)
first_waits b _ = 0

none_is_none : (a : Demand) → ◌≡◌ {A = Option Demand} None (Some a) → ⊥
none_is_none a e = cc

demand_is : (a b : Demand) → ◌≡◌ {A = Option Demand} (Some a) (Some b) → a ≡ b
demand_is a b e = cc

passed_if : (facts : Facts) (b d k : ℕ) (work : List Work) (left : Option ℕ) (w : Demand) → facts.slot d k ≡ left
    → slot_if d k left (work_demand facts work) ≡ Some w
    → (work_demand facts work ≡ Some w → waits_in b work ≡ passed facts b work + first_waits b w + waits_in b (work_left facts work))
    → counted (d == b) + waits_in b work ≡ if_none left (counted (d == b) + passed facts b work) + first_waits b w + waits_in b (cond (is_some left) work (work_left facts work))
passed_if facts b d k work None w l e rest = omega (arith, rest e)
passed_if facts b d k work (Some o) w l e rest =
    let is : first_waits b w ≡ counted (d == b) = sym (ap (first_waits b) (demand_is (drops d k o) w e)) in
    omega (arith, is)

-- work is what is passed over, the first item, and what is after it
waits_first : (facts : Facts) (b : ℕ) (work : List Work) (w : Demand) → work_demand facts work ≡ Some w
    → waits_in b work ≡ passed facts b work + first_waits b w + waits_in b (work_left facts work)
waits_first facts b [] w e = absurd (none_is_none w e)
waits_first facts b (release_of o ∷ work) w e = omega (arith, ap (first_waits b) (demand_is (owes o) w e))
waits_first facts b (spend_of i ∷ work) w e = omega (arith, ap (first_waits b) (demand_is (spends i) w e))
waits_first facts b (slots_of d k ∷ work) w e = passed_if facts b d k work (facts.slot d k) w refl e (waits_first facts b work w)

idle_if : (facts : Facts) (b d k : ℕ) (work : List Work) (left : Option ℕ)
    → slot_if d k left (work_demand facts work) ≡ None
    → (work_demand facts work ≡ None → waits_in b work ≡ passed facts b work)
    → counted (d == b) + waits_in b work ≡ if_none left (counted (d == b) + passed facts b work)
idle_if facts b d k work None e rest = omega (arith, rest e)
idle_if facts b d k work (Some o) e rest = absurd cc

waits_idle : (facts : Facts) (b : ℕ) (work : List Work) → work_demand facts work ≡ None
    → waits_in b work ≡ passed facts b work
waits_idle facts b [] e = refl
waits_idle facts b (release_of o ∷ work) e = absurd cc
waits_idle facts b (spend_of i ∷ work) e = absurd cc
waits_idle facts b (slots_of d k ∷ work) e = idle_if facts b d k work (facts.slot d k) e (waits_idle facts b work)

-- a finalised body that is passed over has nothing left
drop_none : (xs : List ℕ) (k : ℕ) → slice_get xs k ≡ None → drop k xs ≡ []
drop_none [] zero e = refl
drop_none [] (suc k) e = refl
drop_none (x ∷ xs) zero e = absurd cc
drop_none (x ∷ xs) (suc k) e = drop_none xs k e

module _ (st : State) (b : ℕ) (final : 0 < times b st.parts.finalised) where
  pub none_here : (k : ℕ) → k ≡ times b st.parts.dropped → slot_left st.parts b k ≡ None
      → left_of st.parts.objects st.parts.dropped b ≡ []
  none_here k place e =
      let one_test : ltb 0 (times b st.parts.finalised) ≡ true = grind (arith, nat_tests) in
      let here : slot_left st.parts b k ≡ slice_get (slots_at (slice_get st.parts.objects b)) k = rw (one_test, eq-eqb k (times b st.parts.dropped) place) refl in
      ap (λ (n : ℕ). drop n (slots_at (slice_get st.parts.objects b))) (sym place) ∙ drop_none (slots_at (slice_get st.parts.objects b)) k (sym here ∙ e)

  pub passed_left : (work : List Work) → Places st.parts.dropped work → 0 < passed (facts_of st) b work
      → left_of st.parts.objects st.parts.dropped b ≡ []
  passed_left [] places some = absurd (omega arith)
  passed_left (release_of o ∷ work) places some = absurd (omega arith)
  passed_left (spend_of i ∷ work) places some = absurd (omega arith)
  passed_left (slots_of d k ∷ work) places some = by (slot_left st.parts d k) refl some (passed_left work places.1)
    where
      by : (left : Option ℕ) → slot_left st.parts d k ≡ left
          → 0 < if_none left (counted (d == b) + passed (facts_of st) b work)
          → (0 < passed (facts_of st) b work → left_of st.parts.objects st.parts.dropped b ≡ [])
          → left_of st.parts.objects st.parts.dropped b ≡ []
      by (Some o) e some rest = absurd (omega arith)
      by None e some rest = elim (eqb_tells d b) [
        | inl q ↦ none_here k (subst (λ (n : ℕ). k ≡ times n st.parts.dropped) q.1 places.0) (subst (λ (n : ℕ). slot_left st.parts n k ≡ None) q.1 e)
        | inr q ↦ rest (let none : counted (eqb d b) ≡ 0 = ap counted q.0 in omega arith)
      ]

-- ---- work that is made

pub waits-bodies : (b : ℕ) (bs : List ℕ) (work : List Work)
    → waits_in b (bodies_of bs ++ work) ≡ times b bs + waits_in b work
waits-bodies b [] work = omega arith
waits-bodies b (d ∷ bs) work = omega (arith, waits-bodies b bs work)

waits-releases : (b : ℕ) (gs : List ℕ) (work : List Work) → waits_in b (map release_of gs ++ work) ≡ waits_in b work
waits-releases b [] work = refl
waits-releases b (g ∷ gs) work = waits-releases b gs work

waits-spend : (facts : Facts) (b : ℕ) (k : Kind) (work : List Work)
    → waits_in b (spend_work facts k ++ work) ≡ waits_in b work
waits-spend facts b of_block rest = refl
waits-spend facts b (of_run r) rest = refl
waits-spend facts b (of_handler q) rest = by (is_spent facts q.role q.number)
  where
    by : (t : Bool) → waits_in b (cond t (spend_of q.number ∷ []) [] ++ rest) ≡ waits_in b rest
    by true = refl
    by false = refl

pub places-bodies : (dropped : List ℕ) (bs : List ℕ) (work : List Work)
    → ((b : ℕ) → 0 < times b bs → times b dropped ≡ 0) → Places dropped work → Places dropped (bodies_of bs ++ work)
places-bodies dropped [] work h rest = rest
places-bodies dropped (d ∷ bs) work h rest =
    (sym (h d (let own : counted (eqb d d) ≡ 1 = ap counted (eq-eqb d d refl) in omega (arith, own))), places-bodies dropped bs work (λ b p. h b (omega (arith, p))) rest)

places-releases : (dropped : List ℕ) (gs : List ℕ) (work : List Work) → Places dropped work
    → Places dropped (map release_of gs ++ work)
places-releases dropped [] work h = h
places-releases dropped (g ∷ gs) work h = places-releases dropped gs work h

left_places : (facts : Facts) (dropped : List ℕ) (work : List Work) → Places dropped work
    → Places dropped (work_left facts work)
left_places facts dropped [] h = h
left_places facts dropped (release_of o ∷ work) h = h
left_places facts dropped (spend_of i ∷ work) h = h
left_places facts dropped (slots_of d k ∷ work) h = by (is_some (facts.slot d k)) (left_places facts dropped work h.1)
  where
    by : (t : Bool) → Places dropped (work_left facts work) → Places dropped (cond t work (work_left facts work))
    by true rest = h.1
    by false rest = rest

-- other bodies' places stay where one gives up a slot
places_other : (d : ℕ) (dropped : List ℕ) (work : List Work) → waits_in d work ≡ 0 → Places dropped work
    → Places (d ∷ dropped) work
places_other d dropped [] none h = tt
places_other d dropped (release_of o ∷ work) none h = places_other d dropped work none h
places_other d dropped (spend_of i ∷ work) none h = places_other d dropped work none h
places_other d dropped (slots_of a k ∷ work) none h =
    (by (eqb_tells d a), places_other d dropped work (omega (arith, none)) h.1)
  where
    by : ((eqb d a ≡ true) × (d ≡ a)) ⊎ ((eqb d a ≡ false) × (d ≡ a → ⊥)) → k ≡ times a (d ∷ dropped)
    by (inl q) = absurd (let own : counted (eqb a d) ≡ 1 = ap counted (eq-eqb a d (sym q.1)) in omega (arith, none, own))
    by (inr q) = let other : counted (eqb d a) ≡ 0 = ap counted q.0 in omega (arith, h.0, other)

-- ---- the work of the acting thread

-- what a demand makes of work, but for what it finalises
pub record WorkStep (st : State) (p : Parts) (work after : List Work) : Type 0 where
  pub waits : (b : ℕ) → waits_in b work ≡ passed (facts_of st) b work + waits_in b after
  pub places : Places p.dropped after

alone_waits : (b : ℕ) (o : Option ℕ) (work : List Work) → waits_in b (releases_of o ++ work) ≡ waits_in b work
alone_waits b None work = refl
alone_waits b (Some o) work = refl

alone_waits_none : (b : ℕ) (o : Option ℕ) → waits_in b (releases_of o) ≡ 0
alone_waits_none b None = refl
alone_waits_none b (Some o) = refl

alone_places : (dropped : List ℕ) (o : Option ℕ) (work : List Work) → Places dropped work
    → Places dropped (releases_of o ++ work)
alone_places dropped None work h = h
alone_places dropped (Some o) work h = h

last_places : (dropped : List ℕ) (o : Option ℕ) → Places dropped (releases_of o)
last_places dropped None = tt
last_places dropped (Some o) = tt

places-spend : (facts : Facts) (dropped : List ℕ) (k : Kind) (work : List Work) → Places dropped work
    → Places dropped (spend_work facts k ++ work)
places-spend facts dropped of_block rest h = h
places-spend facts dropped (of_run r) rest h = h
places-spend facts dropped (of_handler q) rest h = by (is_spent facts q.role q.number)
  where
    by : (t : Bool) → Places dropped (cond t (spend_of q.number ∷ []) [] ++ rest)
    by true = h
    by false = h

-- what a line gives out
given_waits : (b : ℕ) (x : BlockLine) (list : List ℕ) → waits_in b (owed_by x list) ≡ 0
given_waits b x list = by (is_post x)
  where
    all : (gs : List ℕ) → waits_in b (map release_of gs) ≡ 0
    all [] = refl
    all (g ∷ gs) = all gs

    by : (t : Bool) → waits_in b (cond t [] (map release_of list)) ≡ 0
    by true = refl
    by false = all list

given_places : (dropped : List ℕ) (x : BlockLine) (list : List ℕ) → Places dropped (owed_by x list)
given_places dropped x list = by (is_post x)
  where
    all : (gs : List ℕ) → Places dropped (map release_of gs)
    all [] = tt
    all (g ∷ gs) = all gs

    by : (t : Bool) → Places dropped (cond t [] (map release_of list))
    by true = tt
    by false = all list

frame_works : (c : Script) (t : ℕ) (st : State) (p : Parts) (f : Frame) (fs : List Frame) (work : List Work)
    (list : List ℕ) (d : Demand)
    → work_demand (facts_of st) work ≡ None → FrameView c (facts_of st) t f d
    → WorkStep st p work (work_after (facts_of st) (f ∷ fs) d list work)
frame_works c t st p f fs work list _ idle (is_call k called found) = record { waits = λ b. omega (arith, waits_idle (facts_of st) b work idle); places = tt }
frame_works c t st p f fs work list _ idle (is_line x at) = record { waits = λ b. omega (arith, waits_idle (facts_of st) b work idle, given_waits b x list); places = given_places p.dropped x list }
frame_works c t st p f fs work list _ idle (is_end e) = record { waits = λ b. omega (arith, waits_idle (facts_of st) b work idle); places = tt }
frame_works c t st p f fs work list _ idle (is_return k e end) = record {
  waits = λ b. omega (arith, waits_idle (facts_of st) b work idle, alone_waits b (look 0 f.bindings) (spend_work (facts_of st) f.kind ++ releases_of (kind_item f.kind)), waits-spend (facts_of st) b f.kind (releases_of (kind_item f.kind)), alone_waits_none b (kind_item f.kind));
  places = alone_places p.dropped (look 0 f.bindings) (spend_work (facts_of st) f.kind ++ releases_of (kind_item f.kind)) (places-spend (facts_of st) p.dropped f.kind (releases_of (kind_item f.kind)) (last_places p.dropped (kind_item f.kind)));
}
frame_works c t st p f fs work list _ idle (is_phase r q e) = record { waits = λ b. omega (arith, waits_idle (facts_of st) b work idle); places = tt }
frame_works c t st p f fs work list _ idle (is_close r e) = record { waits = λ b. omega (arith, waits_idle (facts_of st) b work idle); places = tt }

-- an object is finalised once at most
once : (st : State) (b : ℕ) → IsBalanced st → times b st.parts.finalised ≤ 1
once st b h = by (ltb 0 (degree b st.edges)) (ltb b (length st.parts.objects)) (times b st.parts.finalised) (h b)
  where
    by : (n made : Bool) (m : ℕ) → m + counted n ≡ counted made → m ≤ 1
    by true true m e = omega arith
    by true false m e = omega arith
    by false true m e = omega arith
    by false false m e = omega arith

pub waits_most : (st : State) (t b : ℕ) → IsWorked st
    → waits_in b (stand_at t st.stands).work ≤ times b st.parts.finalised
waits_most st t b h = omega (arith, h.most b, summed-most (waits b) t st.stands refl)

item_works : (c : Script) (t : ℕ) (st : State) (fs : List Frame) (list : List ℕ) (d : Demand) → IsBalanced st
    → IsWorked st → work_demand (facts_of st) (stand_at t st.stands).work ≡ Some d
    → WorkView (facts_of st) (stand_at t st.stands).work d
    → WorkStep st (step_of c t st fs d).parts (stand_at t st.stands).work (work_after (facts_of st) fs d list (stand_at t st.stands).work)
item_works c t st fs list _ b h w (first_owes o first) =
    let work = (stand_at t st.stands).work in
    record { waits = λ a. omega (arith, waits_first (facts_of st) a work (owes o) w); places = left_places (facts_of st) st.parts.dropped work (h.places t) }
item_works c t st fs list _ b h w (first_spends i first) =
    let work = (stand_at t st.stands).work in
    let fits = spend_places c st i in
    record {
      waits = λ a. omega (arith, waits_first (facts_of st) a work (spends i) w, waits-releases a list (work_left (facts_of st) work));
      places = subst (λ (xs : List ℕ). Places xs (map release_of list ++ work_left (facts_of st) work)) (sym fits.shape.dropped) (places-releases st.parts.dropped list (work_left (facts_of st) work) (left_places (facts_of st) st.parts.dropped work (h.places t)));
    }
item_works c t st fs list _ b h w (first_drops d k o left first) =
    let work = (stand_at t st.stands).work in
    let rest = work_left (facts_of st) work in
    let own : counted (eqb d d) ≡ 1 = ap counted (eq-eqb d d refl) in
    let none : waits_in d rest ≡ 0 = omega (arith, own, waits_first (facts_of st) d work (drops d k o) w, waits_most st t d h, once st d b) in
    let place : k + 1 ≡ times d (d ∷ st.parts.dropped) = omega (arith, own, (slot_parts d k o st left).1) in
    record {
      waits = λ a. omega (arith, waits_first (facts_of st) a work (drops d k o) w);
      places = (place, places_other d st.parts.dropped rest none (left_places (facts_of st) st.parts.dropped work (h.places t)));
    }

pub own_works : (c : Script) (t : ℕ) (st : State) (list : List ℕ) (d : Demand)
    → let s = stand_at t st.stands in IsBalanced st → IsWorked st → StandView c (facts_of st) t s d
    → WorkStep st (step_of c t st s.frames d).parts s.work (work_after (facts_of st) s.frames d list s.work)
own_works c t st list d b h (of_work w view) = item_works c t st (stand_at t st.stands).frames list d b h w view
own_works c t st list d b h (of_frame f fs idle e view) =
    let s = stand_at t st.stands in
    subst (λ (gs : List Frame). WorkStep st (step_of c t st gs d).parts s.work (work_after (facts_of st) gs d list s.work)) (sym e) (frame_works c t st (step_of c t st (f ∷ fs) d).parts f fs s.work list d idle view)

-- ---- the other threads

-- a body that one thread gives up slots of waits for no other
two_most : (f : Stand → ℕ) (t u : ℕ) (ss : List Stand) → f blank ≡ 0 → (u ≡ t → ⊥)
    → f (stand_at t ss) + f (stand_at u ss) ≤ summed f ss
two_most f t u ss e apart =
    omega (arith, e, summed-with f t blank ss e, summed-most f u (with_stand t blank ss) e, ap f (at_other blank u t blank ss apart))

-- the places of another thread's work
abbrev OthersKept : Script → ℕ → State → Demand → Type 0
OthersKept c t st d = (u : ℕ) → (u ≡ t → ⊥) → Places (step_of c t st (frames_at t st) d).parts.dropped (stand_at u st.stands).work

pub drops_others : (t : ℕ) (st : State) (d k o : ℕ) → IsBalanced st → IsWorked st
    → work_demand (facts_of st) (stand_at t st.stands).work ≡ Some (drops d k o) → (u : ℕ) → (u ≡ t → ⊥)
    → Places (d ∷ st.parts.dropped) (stand_at u st.stands).work
drops_others t st d k o b h w u apart =
    let own : counted (eqb d d) ≡ 1 = ap counted (eq-eqb d d refl) in
    let none : waits_in d (stand_at u st.stands).work ≡ 0 = omega (arith, own, waits_first (facts_of st) d (stand_at t st.stands).work (drops d k o) w, two_most (waits d) t u st.stands refl apart, h.most d, once st d b) in
    places_other d st.parts.dropped (stand_at u st.stands).work none (h.places u)
