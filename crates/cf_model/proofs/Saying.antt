-- The step of each line keeps what its thread's holders hold, and what it uses is live.
use Rattle.std.proofs.Common.{◌++◌, ◌+◌, ◌-◌, ◌<◌, ◌∙◌, ◌∷◌, ◌≡◌, ◌⊎◌, Bool, List, None, Option, Some, [], ap, append-nil, arith, cond, false, inl, inr, length, ltb, map, refl, replicate, subst, suc, sym, true, zero, ℕ}
use Rattle.std.proofs.lemmas.Bool.{eq-eqb}
use Rattle.std.proofs.lemmas.Bool.Decides.{nat_tests}
use Rattle.cf_ids.specs.declared.answer.Answer.{Answer}
use Rattle.cf_ids.specs.declared.answer.Answer.TheVariants as answers
use Rattle.cf_syntax.specs.BlockLines.{BlockLine, begins, claims, line_ownership, packs, says}
use Rattle.cf_syntax.specs.Mentions.{bound_in, first_of, mentions_of, ownership_of, used_at}
use Rattle.cf_syntax.specs.Owned.{given, released}
use Rattle.cf_syntax.specs.declared.mention.Mention.{Mention}
use Rattle.cf_syntax.specs.declared.mention.Mention.TheVariants as mentions
use Rattle.cf_syntax.specs.declared.mention.Ownership.{Ownership}
use Rattle.cf_syntax.specs.declared.mention.Ownership.TheVariants.{Binds, Keeps, Releases, Retains}
use Rattle.cf_syntax.specs.declared.script.Script.{Script}
use Rattle.cf_syntax.specs.declared.statement.Statement.{Statement}
use Rattle.cf_syntax.specs.declared.statement.Statement.TheVariants as forms
use Rattle.cf_contents.proofs.FormLaws.{NamesNone, form_fits}
use Rattle.cf_contents.specs.Contents.{times}
use Rattle.cf_contents.specs.Deeds.{deed_at, nowhere}
use Rattle.cf_contents.specs.Keys.{numbered}
use Rattle.cf_graph.proofs.Counts.{weigh-append}
use Rattle.cf_graph.proofs.Flows.{holders_apart}
use Rattle.cf_graph.specs.Edges.{Reference, has, held_by, held_if, one, weigh}
use Rattle.cf_graph.specs.Flows.{flow_lost, flow_won, grows, shrinks}
use Rattle.cf_graph.specs.Holders.{owed, parcel, variable}
use Rattle.cf_next.specs.Advance.{advanced, bound_object, is_post, object_in, owed_by}
use Rattle.cf_next.specs.Demands.{does}
use Rattle.cf_next.specs.Next.{object_at, used_objects}
use Rattle.cf_next.specs.Stands.{Binding, Frame, Work, look, release_of}
use Rattle.cf_model.proofs.Balance.{IsBalanced, IsLive, live_there}
use Rattle.cf_model.proofs.DealLaws.{FitsDeal}
use Rattle.cf_model.proofs.Fitting.{one_there}
use Rattle.cf_model.proofs.FrameOrder.{FitLine, HaveOwn, MovesOn}
use Rattle.cf_model.proofs.Tokens.{lines_then}
use Rattle.cf_model.proofs.Keeping.{KeepsOwn, LineFlow, OwnHeld, bind_flow, claim_flow, deal_flow, line_keeps, no_slots_owed, pack_flow, release_flow, retain_flow, skip_flow, stand}
use Rattle.cf_model.proofs.OwnLaws.{own_all, own_has}
use Rattle.cf_model.proofs.Owning.{FitsOwnership, HasOwn, Owns, OwnsAfter, owns_after}
use Rattle.cf_model.proofs.Places.{kinds_apart, moves_lost, moves_won, objects_in, places_weigh}
use Rattle.cf_model.proofs.Stepping.{held_if_apart, owed-releases}
use Rattle.cf_model.specs.Tokens.{frame_holds, frames_hold, lines_done, owed_in}
use Rattle.cf_model.specs.Deals.{Deal, deal_of, posts_of}
use Rattle.cf_model.specs.Known.{facts_of}
use Rattle.cf_model.specs.Own.{moves_to, own_reference, own_references}
use Rattle.cf_model.specs.State.{Parts, State, first_held}
use Rattle.cf_model.specs.Steps.{Made, Step, bound_if, bound_of, claim_step, cut_flow, deal_step, flowing, found, idle, item_made, line_step, new_slots, object_answer, pack_step, release_step, retain_step, statement_step, step_answer, step_finals}

-- ---- what comes of a line

owed_none : (x : BlockLine) (o : ℕ) → owed_in o (owed_by x []) ≡ 0
owed_none x o = by (is_post x)
  where
    by : (b : Bool) → owed_in o (cond b [] []) ≡ 0
    by true = refl
    by false = refl

names_none : (a : Answer) → NamesNone a → object_in a ≡ None
names_none (answers.Object o) h = absurd h
names_none _ h = refl

bound_names : (c : Script) (p : Parts) (x : Statement) (used : List (Option ℕ))
    → object_in (bound_of c p x used).answer ≡ None
bound_names c p x used = by (item_made x)
  where
    by : (made : Option Made) → object_in (bound_if c p x used made).answer ≡ None
    by (Some m) = refl
    by None =
        let deed = deed_at c.classes p.objects x used in
        let fits = form_fits c.classes x (numbered p.objects (used_at used 0)) (numbered p.objects (used_at used 1)) (numbered p.objects (used_at used 2)) in
        names_none deed.answer fits.names

object_is : (object : Option ℕ) (a : Answer) → object_in a ≡ None → object_in (object_answer object a) ≡ object
object_is None a h = h
object_is (Some o) a h = refl

-- what a deal gives out is owed, and what is posted is not
given_list : (o : ℕ) (outs : List ℕ) → owed_in o (map release_of (outs ++ [])) ≡ times o outs
given_list o outs = ap (λ (xs : List ℕ). owed_in o (map release_of xs)) (append-nil outs) ∙ ap (owed_in o) (sym (append-nil (map release_of outs))) ∙ owed-releases o outs [] ∙ omega arith

gives_out : (c : Script) (t : ℕ) (st : State) (x : Statement) (used : List (Option ℕ)) (o : ℕ)
    → owed_in o (owed_by (says x) (objects_in (deal_of c t st x used).leaves ++ posts_of st.parts x used)) ≡ times o (objects_in (deal_of c t st x used).leaves)
gives_out c t st (forms.Post name info) used o = refl
gives_out c t st x used o = given_list o (objects_in (deal_of c t st x used).leaves)

-- what a word binds is neither retained nor released
no_retain : (ms : List (Option Mention)) (v : ℕ) → bound_in ms ≡ Retains v → ⊥
no_retain [] v e = cc
no_retain (None ∷ ms) v e = cc
no_retain (Some (mentions.Binds w) ∷ ms) v e = cc
no_retain (Some (mentions.Uses w) ∷ ms) v e = cc
no_retain (Some (mentions.Class c) ∷ ms) v e = cc
no_retain (Some (mentions.Handler h) ∷ ms) v e = cc
no_retain (Some (mentions.Thread t) ∷ ms) v e = cc
no_retain (Some mentions.Unknown ∷ ms) v e = cc

no_release : (ms : List (Option Mention)) (v : ℕ) → bound_in ms ≡ Releases v → ⊥
no_release [] v e = cc
no_release (None ∷ ms) v e = cc
no_release (Some (mentions.Binds w) ∷ ms) v e = cc
no_release (Some (mentions.Uses w) ∷ ms) v e = cc
no_release (Some (mentions.Class c) ∷ ms) v e = cc
no_release (Some (mentions.Handler h) ∷ ms) v e = cc
no_release (Some (mentions.Thread t) ∷ ms) v e = cc
no_release (Some mentions.Unknown ∷ ms) v e = cc

-- a statement that retains or releases a variable is of one form
retain_is : (x : Statement) (v : ℕ) → ownership_of x ≡ Retains v → (forms.Retain v ≡ x) ⊎ (forms.Release v ≡ x)
retain_is (forms.Retain w) v k = inl (ap forms.Retain (retained w v k))
  where
    variable_in : Ownership → ℕ
    variable_in (Retains n) = n
    variable_in _ = 0

    retained : (a b : ℕ) → Retains a ≡ Retains b → b ≡ a
    retained a b e = sym (ap variable_in e)
retain_is (forms.Release w) v k = absurd cc
retain_is x v k = absurd (no_retain (mentions_of x) v k)

release_is : (x : Statement) (v : ℕ) → ownership_of x ≡ Releases v → (forms.Retain v ≡ x) ⊎ (forms.Release v ≡ x)
release_is (forms.Release w) v k = inr (ap forms.Release (same_released w v k))
  where
    variable_in : Ownership → ℕ
    variable_in (Releases n) = n
    variable_in _ = 0

    same_released : (a b : ℕ) → Releases a ≡ Releases b → b ≡ a
    same_released a b e = sym (ap variable_in e)
release_is (forms.Retain w) v k = absurd cc
release_is x v k = absurd (no_release (mentions_of x) v k)

none_live : (st : State) (bs : List Binding) (k i o : ℕ) → used_at (map (object_at bs) (replicate k None)) i ≡ Some o
    → IsLive st o
none_live st bs zero i o e = absurd cc
none_live st bs (suc k) zero o e = absurd cc
none_live st bs (suc k) (suc i) o e = none_live st bs k i o e

module _ (c : Script) (t : ℕ) (st : State) (f : Frame) (fs : List Frame) (work : List Work) (done : Bool) (held : OwnHeld c t st.edges (stand f fs work done)) (owns : Owns (lines_done c f) f.bindings) (idle_work : (o : ℕ) → owed_in o work ≡ 0) where
  abbrev bs : List Binding
  bs = f.bindings

  abbrev depth : ℕ
  depth = length fs

  -- what a variable of the frame on top has is there, where it owns a reference
  pub variable_there : (v o : ℕ) → look v bs ≡ Some o → released v (lines_done c f) < given v (lines_done c f)
      → 0 < weigh (one (held_by (variable t depth v) o)) st.edges
  variable_there v o is more =
      let top : frames_hold c (f ∷ fs) depth v o ≡ frame_holds c f v o = ap (λ (b : Bool). cond b (frame_holds c f v o) (frames_hold c fs depth v o)) (eq-eqb depth depth refl) in
      let here : frame_holds c f v o ≡ given v (lines_done c f) - released v (lines_done c f) = rw is (ap (λ (b : Bool). cond b (given v (lines_done c f) - released v (lines_done c f)) 0) (eq-eqb o o refl)) in
      omega (arith, held.variables depth v o, top, here, more)

  has_variable : (v o : ℕ) → look v bs ≡ Some o → released v (lines_done c f) < given v (lines_done c f)
      → has (variable t depth v) o st.edges ≡ true
  has_variable v o is more = some_has (weigh (one (held_by (variable t depth v) o)) st.edges) (variable_there v o is more)
    where
      some_has : (n : ℕ) → 0 < n → ltb 0 n ≡ true
      some_has n h = grind (arith, nat_tests)

  -- so a release takes the variable's own reference
  pub release_own : (v o : ℕ) → look v bs ≡ Some o → HasOwn (lines_done c f) v
      → own_reference t (variable t depth v) o st.edges ≡ Some (held_by (variable t depth v) o)
  release_own v o is own = own_has t (variable t depth v) o st.edges (has_variable v o is own.more)

  -- what lines use is live
  pub used_live : IsBalanced st → (vs : List ℕ) (k : ℕ) → HaveOwn (lines_done c f) vs → (i o : ℕ)
      → used_at (map (object_at bs) (map Some vs ++ replicate k None)) i ≡ Some o → IsLive st o
  used_live b [] k own i o e = none_live st bs k i o e
  used_live b (v ∷ vs) k own zero o e = live_there st (held_by (variable t depth v) o) b (variable_there v o e own.0.more)
  used_live b (v ∷ vs) k own (suc i) o e = used_live b vs k own.1 i o e

  abbrev LineKept : BlockLine → Step → Type 0
  LineKept x step = KeepsOwn c t (stand f fs work done) step.flow (advanced (facts_of st) t (does x) (step_answer step st) (step_finals step st) step.list (stand f fs work done))

  module _ (x : BlockLine) (fit : FitLine (lines_done c f) x) (after : MovesOn c f x) where
    after_line : (answer : Answer) (ownership : Ownership) (object : Option ℕ) → line_ownership x ≡ ownership
        → OwnsAfter (lines_done c f) (lines_then c f x answer) bs ownership object
    after_line answer ownership object k = owns_after x (lines_done c f) bs owns (lines_then c f x answer) (after answer) ownership object k (subst (FitsOwnership (lines_done c f)) k fit.ownership)

    -- a line by its flow
    by_flow : (step : Step) (ownership : Ownership) (object : Option ℕ) → line_ownership x ≡ ownership
        → bound_object (facts_of st) t (step_answer step st) x ≡ object
        → LineFlow t depth bs ownership object step.flow
        → ((o : ℕ) → owed_in o (owed_by x step.list) + flow_lost (one (held_by (owed t) o)) step.flow ≡ flow_won (one (held_by (owed t) o)) step.flow)
        → LineKept x step
    by_flow step ownership object k b flow gives =
        line_keeps c (facts_of st) t f fs work done x (step_answer step st) (step_finals step st) step.list step.flow ownership object k b (after_line (step_answer step st) ownership object k) flow idle_work gives

  module _ (x : Statement) (fit : FitLine (lines_done c f) (says x)) (after : MovesOn c f (says x)) where
    abbrev used : List (Option ℕ)
    used = used_objects bs (says x)

    bind_keeps : (v : ℕ) → ownership_of x ≡ Binds v → LineKept (says x) (statement_step c t depth st x used (Binds v))
    bind_keeps v k =
        let b = bound_of c st.parts x used in
        let object = found st.parts b.origin in
        let n = length st.parts.objects in
        by_flow (says x) fit after (statement_step c t depth st x used (Binds v)) (Binds v) object k
        (object_is object b.answer (bound_names c st.parts x used))
        (bind_flow t depth v n bs object b.origin)
        (λ o. omega (arith, owed_none (says x) o, weigh-append (one (held_by (owed t) o)) (held_if (variable t depth v) object) (new_slots n b.origin), held_if_apart (held_by (owed t) o) (variable t depth v) object (kinds_apart (owed t) (variable t depth v) refl), no_slots_owed t o n b.origin))

    retain_by : (v : ℕ) (object : Option ℕ) → ownership_of x ≡ Retains v → look v bs ≡ object
        → LineKept (says x) (retain_step (variable t depth v) st object)
    retain_by v None k is =
        by_flow (says x) fit after (retain_step (variable t depth v) st None) (Retains v) None k refl (retain_flow t depth v bs None None is) (λ o. omega (arith, owed_none (says x) o))
    retain_by v (Some p) k is =
        by_flow (says x) fit after (retain_step (variable t depth v) st (Some p)) (Retains v) None k refl (retain_flow t depth v bs (Some p) None is)
        (λ o. omega (arith, owed_none (says x) o, held_if_apart (held_by (owed t) o) (variable t depth v) (Some p) (kinds_apart (owed t) (variable t depth v) refl)))

    release_by : (v : ℕ) (object : Option ℕ) → ownership_of x ≡ Releases v → look v bs ≡ object
        → LineKept (says x) (release_step t (variable t depth v) st object)
    release_by v None k is =
        by_flow (says x) fit after (release_step t (variable t depth v) st None) (Releases v) None k refl (skip_flow t depth v bs None is) (λ o. omega (arith, owed_none (says x) o))
    release_by v (Some p) k is =
        let cut = flowing st answers.Ok (shrinks (held_by (variable t depth v) p)) in
        let own : HasOwn (lines_done c f) v = subst (FitsOwnership (lines_done c f)) k fit.ownership in
        subst (λ (q : Option Reference). LineKept (says x) (flowing st answers.Ok (cut_flow q))) (sym (release_own v p is own))
        (by_flow (says x) fit after cut (Releases v) (object_in (step_answer cut st)) k refl (release_flow t depth v p bs (object_in (step_answer cut st)) is)
        (λ o. omega (arith, owed_none (says x) o, holders_apart (held_by (owed t) o) (held_by (variable t depth v) p) (kinds_apart (owed t) (variable t depth v) refl))))

    deal_by : (deal : Deal) (posts : List ℕ)
        → ((o : ℕ) → owed_in o (owed_by (says x) (objects_in deal.leaves ++ posts)) ≡ times o (objects_in deal.leaves))
        → FitsDeal st deal → ownership_of x ≡ Keeps → LineKept (says x) (deal_step t deal posts)
    deal_by deal posts gives fits k =
        let step = deal_step t deal posts in
        by_flow (says x) fit after step Keeps (object_in (step_answer step st)) k refl (deal_flow t depth bs (object_in (step_answer step st)) deal.enters deal.leaves fits.ins fits.outs)
        (λ o. omega (arith, gives o, moves_won (owed t) o deal.leaves, moves_lost (owed t) (one (held_by (owed t) o)) deal.leaves, places_weigh (held_by (owed t) o) deal.leaves (λ q. q) fits.outs, places_weigh (held_by (owed t) o) deal.enters (λ q. q) fits.ins))

    -- the first object that is used is that of a variable that is retained or released
    first_looked : (w : ℕ) → (forms.Retain w ≡ x) ⊎ (forms.Release w ≡ x) → look w bs ≡ first_of used
    first_looked w (inl e) = ap (λ (y : Statement). first_of (used_objects bs (says y))) e
    first_looked w (inr e) = ap (λ (y : Statement). first_of (used_objects bs (says y))) e

    pub statement_keeps : (ownership : Ownership) → ownership_of x ≡ ownership → FitsDeal st (deal_of c t st x used)
        → LineKept (says x) (statement_step c t depth st x used ownership)
    statement_keeps Keeps k fits = deal_by (deal_of c t st x used) (posts_of st.parts x used) (gives_out c t st x used) fits k
    statement_keeps (Binds v) k fits = bind_keeps v k
    statement_keeps (Retains v) k fits = retain_by v (first_of used) k (first_looked v (retain_is x v k))
    statement_keeps (Releases v) k fits = release_by v (first_of used) k (first_looked v (release_is x v k))

  pub begin_keeps : (v : ℕ) → FitLine (lines_done c f) (begins v) → MovesOn c f (begins v)
      → LineKept (begins v) (idle st answers.Ok)
  begin_keeps v fit after = by_flow (begins v) fit after (idle st answers.Ok) (Binds v) None refl refl (bind_flow t depth v 0 bs None nowhere) (λ o. refl)

  -- a claim, and a pack
  pub claim_keeps : (k v : ℕ) → FitLine (lines_done c f) (claims k v) → MovesOn c f (claims k v)
      → LineKept (claims k v) (line_step c t depth st bs (claims k v))
  claim_keeps k v fit after = by (first_held (parcel t k) st.edges) refl
    where
      by : (object : Option ℕ) → first_held (parcel t k) st.edges ≡ object
          → LineKept (claims k v) (claim_step st (parcel t k) object (variable t depth v))
      by None is = by_flow (claims k v) fit after (claim_step st (parcel t k) None (variable t depth v)) (Binds v) None refl is (claim_flow t depth v k bs None) (λ o. refl)
      by (Some p) is =
          by_flow (claims k v) fit after (claim_step st (parcel t k) (Some p) (variable t depth v)) (Binds v) (Some p) refl is (claim_flow t depth v k bs (Some p))
          (λ o. omega (arith, holders_apart (held_by (owed t) o) (held_by (variable t depth v) p) (kinds_apart (owed t) (variable t depth v) refl), holders_apart (held_by (owed t) o) (held_by (parcel t k) p) (kinds_apart (owed t) (parcel t k) refl)))

  pub pack_keeps : (u k : ℕ) (v : Option ℕ) → FitLine (lines_done c f) (packs u k v) → MovesOn c f (packs u k v)
      → LineKept (packs u k v) (line_step c t depth st bs (packs u k v))
  pack_keeps u k None fit after =
      by_flow (packs u k None) fit after (line_step c t depth st bs (packs u k None)) Keeps None refl refl (deal_flow t depth bs None [] [] tt tt) (λ o. refl)
  pack_keeps u k (Some v) fit after = by (look v bs) refl
    where
      by : (object : Option ℕ) → look v bs ≡ object
          → LineKept (packs u k (Some v)) (pack_step t st (variable t depth v) object (parcel u k))
      by None is = by_flow (packs u k (Some v)) fit after (pack_step t st (variable t depth v) None (parcel u k)) (Releases v) None refl refl (skip_flow t depth v bs None is) (λ o. refl)
      by (Some p) is =
          let r = held_by (variable t depth v) p in
          let whole : own_references t (r ∷ []) st.edges ≡ r ∷ [] = own_all t (r ∷ []) st.edges (λ q. omega (arith, one_there q r st.edges (variable_there v p is fit.ownership.more))) in
          subst (λ (rs : List Reference). LineKept (packs u k (Some v)) (flowing st answers.Ok (grows [] (moves_to (parcel u k) rs)))) (sym whole)
          (by_flow (packs u k (Some v)) fit after (flowing st answers.Ok (grows [] (moves_to (parcel u k) (r ∷ [])))) (Releases v) None refl refl (pack_flow t depth v u k p bs None is)
          (λ o. omega (arith, holders_apart (held_by (owed t) o) (held_by (variable t depth v) p) (kinds_apart (owed t) (variable t depth v) refl), holders_apart (held_by (owed t) o) (held_by (parcel u k) p) (kinds_apart (owed t) (parcel u k) refl))))
