-- Of each form of entry: how its thread moves on by it.
use Rattle.std.proofs.Common.{◌≡◌, ℕ, zero, suc, ◌+◌, ◌<◌, ◌∙◌, Bool, true, false, cond, List, [], ◌∷◌, Option, Some, None, refl, sym, ap, subst, eqb, eq-eqb, arith}
use Rattle.std.proofs.lemmas.Bool.Decides.{nat_tests}
use Rattle.std.specs.Prelude.{slice_get, ◌&&◌}
use Rattle.cf_ids.specs.declared.answer.Answer.TheVariants as answers
use Rattle.cf_ids.specs.declared.answer.Ended.{Ended}
use Rattle.cf_ids.specs.declared.answer.Ended.TheVariants.{More, Last}
use Rattle.cf_syntax.specs.declared.script.Script.{Script}
use Rattle.cf_syntax.specs.declared.statement.Statement.{Statement}
use Rattle.cf_syntax.specs.declared.statement.Statement.TheVariants as forms
use Rattle.cf_syntax.specs.declared.mention.Ownership.{Ownership}
use Rattle.cf_syntax.specs.declared.mention.Ownership.TheVariants.{Keeps, Binds, Retains, Releases}
use Rattle.cf_syntax.specs.Mentions.{ownership_of, first_of}
use Rattle.cf_syntax.specs.BlockLines.{claims, says, packs}
use Rattle.cf_syntax.specs.Owned.{FitsByBlock}
use Rattle.cf_graph.specs.Owners.{is_thread}
use Rattle.cf_graph.specs.Holders.{Holder, owner_of, parcel, variable, owed, slot}
use Rattle.cf_graph.specs.Edges.{Reference, held_by, weigh, has, degree, counted, from_thread}
use Rattle.cf_graph.specs.Flows.{Flow, shrinks, flowed, IsThere, cut_of as flow_cut}
use Rattle.cf_next.specs.declared.action.Action.{Action}
use Rattle.cf_next.specs.Actions.{Site, action_of, cut_of}
use Rattle.cf_next.specs.Standing.{is_retain, finals_in}
use Rattle.cf_next.specs.Steps.{says_retain}
use Rattle.cf_next.specs.Demands.{Demand, does, ends, owes, drops}
use Rattle.cf_next.specs.Next.{object_at, used_objects, top_frame, site_in, action_in}
use Rattle.cf_model.specs.State.{State, first_held, stand_at}
use Rattle.cf_model.specs.Known.{facts_of}
use Rattle.cf_model.specs.Own.{first_from, own_reference}
use Rattle.cf_model.specs.Steps.{Step, type_in, cut_answer, finals_of, demanded, step_of, frames_at, bindings_of, depth_of, step_answer, step_finals, claim_step, pack_step, packed_holder, statement_step, release_step, retain_step, cut_step, cut_flow}
use Rattle.cf_model.specs.Journals.{MayTake, MayUseAll, uses_if, takes, Next}
use Rattle.cf_model.proofs.Acting.{next_is, site_used}
use Rattle.cf_model.proofs.Balance.{IsBalanced, IsLive, degree-shrunk, live_led}
use Rattle.cf_model.proofs.Dropping.{drop_fits, demand_slot}
use Rattle.cf_model.proofs.Fitting.{cut_fits}
use Rattle.cf_model.proofs.OwnLaws.{IsOf, OwnIs, own_is}
use Rattle.cf_world.proofs.Timing.{StopsNone, deal_still}
use Rattle.cf_model.proofs.Using.{IsSound, demand_may}
use Rattle.cf_world.specs.Worlds.{ended_at, retained_by}
use Rattle.cf_world.specs.Entering.{answer_for, answer_of_cut}
use Rattle.cf_world.specs.Begun.{finals_of_cut}
use Rattle.cf_world.proofs.Moving.{Moves, IsMove}

-- ---- claims, packs and ends

claim_case : (st : State) (h : Holder) (o : Option ℕ) (k : Holder) → Moves (claim_step st h o k) st (answer_for o) [] []
claim_case st h None k = record { answer_is = refl; finals_are = refl; list_is = refl; stops = refl }
claim_case st h (Some o) k = record { answer_is = refl; finals_are = refl; list_is = refl; stops = refl }

pub claim_moves : (s : Script) (t : ℕ) (st : State) (k v : ℕ)
    → IsMove s t st (does (claims k v)) (answer_for (first_held (parcel t k) st.edges)) [] []
claim_moves s t st k v = claim_case st (parcel t k) (first_held (parcel t k) st.edges) (variable t (depth_of (frames_at t st)) v)

pack_case : (t : ℕ) (st : State) (h : Holder) (o : Option ℕ) (k : Holder)
    → Moves (pack_step t st h o k) st (answer_for o) [] []
pack_case t st h None k = record { answer_is = refl; finals_are = refl; list_is = refl; stops = refl }
pack_case t st h (Some o) k = record { answer_is = refl; finals_are = refl; list_is = refl; stops = refl }

pub pack_moves : (s : Script) (t : ℕ) (st : State) (u k : ℕ) (v : Option ℕ)
    → IsMove s t st (does (packs u k v)) (answer_for (object_at (bindings_of (frames_at t st)) v)) [] []
pack_moves s t st u k v = pack_case t st (packed_holder t (depth_of (frames_at t st)) v) (object_at (bindings_of (frames_at t st)) v) (parcel u k)

pub end_moves : (s : Script) (t : ℕ) (st : State) → IsMove s t st ends answers.Ok [] []
end_moves s t st = record { answer_is = refl; finals_are = refl; list_is = refl; stops = refl }

-- an entry that needs an object finalises nothing
pub finals_for : (o : Option ℕ) → finals_in None (answer_for o) ≡ []
finals_for None = refl
finals_for (Some o) = refl

-- ---- a reference that is taken away

pub finals_of_answer : (ended : Ended) (o class : ℕ)
    → finals_in (Some o) (answer_of_cut ended class) ≡ finals_of_cut ended o
finals_of_answer More o class = refl
finals_of_answer Last o class = refl

-- what is left and what was there say the same of the end
last_if : (n : ℕ) (b : Bool) → eqb n 0 ≡ b → eqb (n + 1) 1 ≡ b
last_if zero b e = e
last_if (suc n) true e = grind (arith, nat_tests)
last_if (suc n) false e = grind (arith, nat_tests)

end_by : (n before : ℕ) → n + 1 ≡ before → ended_at before ≡ cond (eqb n 0) Last More
end_by n before less = ap (λ (b : Bool). cond b Last More) (ap (λ (k : ℕ). eqb k 1) (sym less) ∙ last_if n (eqb n 0) refl)

answer_by : (b : Bool) (class : ℕ) → cond b (answers.Final class) answers.More ≡ answer_of_cut (cond b Last More) class
answer_by true class = refl
answer_by false class = refl

finals_by : (b : Bool) (o : ℕ) → cond b (o ∷ []) [] ≡ finals_of_cut (cond b Last More) o
finals_by true o = refl
finals_by false o = refl

-- a step that takes a reference to an object away, which is there
pub record Cuts (step : Step) (st : State) (o : ℕ) : Type 0 where
  pub holder : Holder
  pub flow : step.flow ≡ shrinks (held_by holder o)
  pub there : IsThere (shrinks (held_by holder o)) st.edges
  pub list : step.list ≡ []
  pub stops : step.stops ≡ None

module _ (step : Step) (st : State) (o : ℕ) (h : Cuts step st o) where
  abbrev left : List Reference
  left = flowed (shrinks (held_by h.holder o)) st.edges

  pub one_less : degree o left + 1 ≡ degree o st.edges
  one_less = let self : counted (eqb o o) ≡ 1 = ap counted (eq-eqb o o refl) in omega (arith, degree-shrunk o (held_by h.holder o) st.edges h.there, self)

  pub cut_live : IsBalanced st → IsLive st o
  cut_live balance = live_led st o balance (omega (arith, one_less))

  pub cut_moves : (ended : Ended) → ended ≡ ended_at (degree o st.edges)
      → Moves step st (answer_of_cut ended (type_in (slice_get st.parts.objects o))) (finals_of_cut ended o) []
  cut_moves ended e =
      let class = type_in (slice_get st.parts.objects o) in
      let is : cond (eqb (degree o left) 0) Last More ≡ ended = sym (end_by (degree o left) (degree o st.edges) one_less) ∙ sym e in
      record {
        answer_is =
            ap (λ (f : Flow). cut_answer (flow_cut f) st.parts.objects (flowed f st.edges) step.answer) h.flow
            ∙ answer_by (eqb (degree o left) 0) class
            ∙ ap (λ (x : Ended). answer_of_cut x class) is;
        finals_are =
            ap (λ (f : Flow). finals_of (flow_cut f) (flowed f st.edges)) h.flow
            ∙ finals_by (eqb (degree o left) 0) o
            ∙ ap (λ (x : Ended). finals_of_cut x o) is;
        list_is = h.list;
        stops = h.stops;
      }

-- ---- the reference that is taken

first_none : (t o : ℕ) (es : List Reference) → first_from t o es ≡ None → weigh (from_thread t o) es ≡ 0
first_none t o [] e = refl
first_none t o (r ∷ rs) e = by ((eqb r.object o) && is_thread t (owner_of r.holder)) refl e (first_none t o rs)
  where
    by : (b : Bool) → ((eqb r.object o) && is_thread t (owner_of r.holder)) ≡ b
        → cond b (Some r) (first_from t o rs) ≡ None
        → (first_from t o rs ≡ None → weigh (from_thread t o) rs ≡ 0) → weigh (from_thread t o) (r ∷ rs) ≡ 0
    by true test e rest = absurd cc
    by false test e rest = let none : from_thread t o r ≡ 0 = ap counted test in omega (arith, none, rest e)

some_own : (t : ℕ) (h : Holder) (o : ℕ) (es : List Reference) → 0 < weigh (from_thread t o) es
    → (r : Reference) × (own_reference t h o es ≡ Some r)
some_own t h o es some = by (has h o es)
  where
    by_first : (q : Option Reference) → first_from t o es ≡ q → (r : Reference) × (first_from t o es ≡ Some r)
    by_first None e = absurd (omega (arith, some, first_none t o es e))
    by_first (Some r) e = (r, e)

    by : (b : Bool) → (r : Reference) × (cond b (Some (held_by h o)) (first_from t o es) ≡ Some r)
    by true = (held_by h o, refl)
    by false = by_first (first_from t o es) refl

own_cuts : (t : ℕ) (h : Holder) (st : State) (o : ℕ) → IsOf t h → MayTake st t o → Cuts (cut_step t h st o) st o
own_cuts t h st o of may =
    let found = some_own t h o st.edges may.edge in
    let own : OwnIs t o st.edges found.0 = own_is t h o st.edges found.0 of found.1 in
    let is : own_reference t h o st.edges ≡ Some (held_by found.0.holder o) = found.1 ∙ ap (λ (n : ℕ). Some (held_by found.0.holder n)) own.object in
    record {
      holder = found.0.holder;
      flow = ap cut_flow is;
      there = subst (λ (f : Flow). IsThere f st.edges) (ap cut_flow is) (cut_fits t h st o of).there;
      list = refl;
      stops = refl;
    }

pub release_form : (x : Statement) (v : ℕ) → ownership_of x ≡ Releases v → x ≡ forms.Release v
release_form (forms.Release w) v e = let same : w ≡ v = cc in ap forms.Release same
release_form _ v e = absurd cc

module _ (s : Script) (t : ℕ) (st : State) (own : FitsByBlock s) (is_sound : IsSound s st) where
  pub owed_cuts : (o : ℕ) → demanded s st t ≡ Some (owes o) → Cuts (step_of s t st (frames_at t st) (owes o)) st o
  owed_cuts o e = own_cuts t (owed t) st o (eq-eqb t t refl) (demand_may s t st is_sound own (owes o) e).0

  pub drop_cuts : (b k o : ℕ) → demanded s st t ≡ Some (drops b k o)
      → Cuts (step_of s t st (frames_at t st) (drops b k o)) st o
  drop_cuts b k o e = record {
    holder = slot b;
    flow = refl;
    there = (drop_fits b k o st (demand_slot s (facts_of st) t (stand_at t st.stands) b k o e) t is_sound.steady.slotted).there;
    list = refl;
    stops = refl;
  }

  said_cuts : (v o : ℕ) → demanded s st t ≡ Some (does (says (forms.Release v)))
      → first_of (used_objects (bindings_of (frames_at t st)) (says (forms.Release v))) ≡ Some o
      → Cuts (release_step t (variable t (depth_of (frames_at t st)) v) st (first_of (used_objects (bindings_of (frames_at t st)) (says (forms.Release v))))) st o
  said_cuts v o e object =
      let may = (subst (λ (q : Option ℕ). MayUseAll st t [] (uses_if takes q)) (ap first_of (site_used s (frames_at t st) (says (forms.Release v))) ∙ object) (demand_may s t st is_sound own (does (says (forms.Release v))) e)).0 in
      subst (λ (q : Option ℕ). Cuts (release_step t (variable t (depth_of (frames_at t st)) v) st q) st o) (sym object)
      (own_cuts t (variable t (depth_of (frames_at t st)) v) st o (eq-eqb t t refl) may)

  pub release_cuts : (x : Statement) (v o : ℕ) → demanded s st t ≡ Some (does (says x)) → ownership_of x ≡ Releases v
      → first_of (used_objects (bindings_of (frames_at t st)) (says x)) ≡ Some o → Cuts (step_of s t st (frames_at t st) (does (says x))) st o
  release_cuts x v o e w object =
      let is : x ≡ forms.Release v = release_form x v w in
      subst (λ (y : Statement). Cuts (step_of s t st (frames_at t st) (does (says y))) st o) (sym is)
      (said_cuts v o (e ∙ ap (λ (y : Statement). Some (does (says y))) is) (ap (λ (y : Statement). first_of (used_objects (bindings_of (frames_at t st)) (says y))) (sym is) ∙ object))

-- ---- a statement that takes no reference away

abbrev pub NoCut : Ownership → List (Option ℕ) → Type 0
NoCut (Releases v) used = first_of used ≡ None
NoCut _ used = Unit {0}

module _ (s : Script) (t : ℕ) (st : State) (x : Statement) (stops : StopsNone x) where
  abbrev used : List (Option ℕ)
  used = used_objects (bindings_of (frames_at t st)) (says x)

  abbrev said : Ownership → Step
  said w = statement_step s t (depth_of (frames_at t st)) st x used w

  abbrev Quiet : Step → Type 0
  Quiet step = (step_finals step st ≡ []) × (step.stops ≡ None)

  quiet : (w : Ownership) → NoCut w used → Quiet (said w)
  quiet Keeps none = (refl, (deal_still s t st x used stops).1)
  quiet (Binds v) none = (refl, refl)
  quiet (Retains v) none = by (first_of used)
    where
      by : (o : Option ℕ) → Quiet (retain_step (variable t (depth_of (frames_at t st)) v) st o)
      by None = (refl, refl)
      by (Some o) = (refl, refl)
  quiet (Releases v) none = subst (λ (o : Option ℕ). Quiet (release_step t (variable t (depth_of (frames_at t st)) v) st o)) (sym none) (refl, refl)

  pub said_moves : NoCut (ownership_of x) used
      → IsMove s t st (does (says x)) (step_answer (said (ownership_of x)) st) [] (said (ownership_of x)).list
  said_moves none = let q = quiet (ownership_of x) none in record { answer_is = refl; finals_are = q.0; list_is = refl; stops = q.1 }

-- all but a statement that acts on bodies list nothing
pub lists_none : (s : Script) (t d : ℕ) (st : State) (x : Statement) (used : List (Option ℕ)) (w : Ownership)
    → (w ≡ Keeps → ⊥) → (statement_step s t d st x used w).list ≡ []
lists_none s t d st x used Keeps other = absurd (other refl)
lists_none s t d st x used (Binds v) other = refl
lists_none s t d st x used (Retains v) other = by (first_of used)
  where
    by : (o : Option ℕ) → (retain_step (variable t d v) st o).list ≡ []
    by None = refl
    by (Some o) = refl
lists_none s t d st x used (Releases v) other = by (first_of used)
  where
    by : (o : Option ℕ) → (release_step t (variable t d v) st o).list ≡ []
    by None = refl
    by (Some o) = refl

-- ---- the action of a statement

abbrev pub CutBy : Ownership → Option ℕ → List (Option ℕ) → Type 0
CutBy (Releases v) c used = c ≡ first_of used
CutBy _ c used = c ≡ None

statement_cut : (x : Statement) (site : Site) → CutBy (ownership_of x) (cut_of (action_of x site)) site.used
statement_cut (forms.Release v) site = refl
statement_cut x site = refl

statement_retain : (x : Statement) (site : Site) → is_retain (action_of x site) ≡ says_retain x
statement_retain (forms.Retain v) site = refl
statement_retain x site = refl

none_cut : (w : Ownership) (c : Option ℕ) (used : List (Option ℕ)) → CutBy w c used → c ≡ None → NoCut w used
none_cut Keeps c used h e = tt
none_cut (Binds v) c used h e = tt
none_cut (Retains v) c used h e = tt
none_cut (Releases v) c used h e = sym h ∙ e

-- a statement that cuts releases a variable
pub record Released (x : Statement) (used : List (Option ℕ)) (o : ℕ) : Type 0 where
  pub var : ℕ
  pub releases : ownership_of x ≡ Releases var
  pub object : first_of used ≡ Some o

some_cut : (x : Statement) (w : Ownership) (c : Option ℕ) (used : List (Option ℕ)) (o : ℕ) → ownership_of x ≡ w
    → CutBy w c used → c ≡ Some o → Released x used o
some_cut x Keeps c used o is h e = absurd cc
some_cut x (Binds v) c used o is h e = absurd cc
some_cut x (Retains v) c used o is h e = absurd cc
some_cut x (Releases v) c used o is h e = record { var = v; releases = is; object = sym h ∙ e }

-- a retain that is known by its action
pub record Retained (x : Statement) (used : List (Option ℕ)) (o : ℕ) : Type 0 where
  pub var : ℕ
  pub retains : ownership_of x ≡ Retains var
  pub object : first_of used ≡ Some o

retained_form : (x : Statement) (site : Site) (o : ℕ) → retained_by (action_of x site) ≡ Some o → Retained x site.used o
retained_form (forms.Retain v) site o e = record { var = v; retains = refl; object = e }
retained_form x site o e = absurd cc

-- the action of a statement that a thread says next
module _ (s : Script) (t : ℕ) (st : State) (x : Statement) (a : Action) (next : Next s st t ≡ Some a) (e : demanded s st t ≡ Some (does (says x))) where
  abbrev site : Site
  site = site_in s (top_frame (frames_at t st)) (says x)

  abbrev objects : List (Option ℕ)
  objects = used_objects (bindings_of (frames_at t st)) (says x)

  same_demand : (d : Demand) → demanded s st t ≡ Some d → d ≡ does (says x)
  same_demand d q = let both : ◌≡◌ {A = Option Demand} (Some d) (Some (does (says x))) = sym q ∙ e in cc

  pub action_is : action_of x site ≡ a
  action_is =
      let acts = next_is s st t a next in
      sym (ap (action_in s (facts_of st) t (frames_at t st)) (same_demand acts.demand acts.demands)) ∙ acts.action

  used_here : site.used ≡ objects
  used_here = site_used s (frames_at t st) (says x)

  cut_here : CutBy (ownership_of x) (cut_of a) objects
  cut_here = subst (CutBy (ownership_of x) (cut_of a)) used_here (subst (λ (b : Action). CutBy (ownership_of x) (cut_of b) site.used) action_is (statement_cut x site))

  pub said_cuts_none : cut_of a ≡ None → NoCut (ownership_of x) objects
  said_cuts_none none = none_cut (ownership_of x) (cut_of a) objects cut_here none

  pub said_releases : (o : ℕ) → cut_of a ≡ Some o → Released x objects o
  said_releases o some = some_cut x (ownership_of x) (cut_of a) objects o refl cut_here some

  pub said_retains : (o : ℕ) → retained_by a ≡ Some o → Retained x objects o
  said_retains o some =
      subst (λ (us : List (Option ℕ)). Retained x us o) used_here (retained_form x site o (ap retained_by action_is ∙ some))

  pub retain_same : is_retain a ≡ says_retain x
  retain_same = ap is_retain (sym action_is) ∙ statement_retain x site
