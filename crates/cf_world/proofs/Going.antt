-- A world goes on by what was found of a thread's next entry.
use Rattle.std.proofs.Common.{◌≡◌, ℕ, ◌+◌, ◌<◌, ◌≤◌, ◌∙◌, ◌⊎◌, Bool, true, false, cond, List, [], ◌∷◌, ◌++◌, length, Option, Some, None, refl, sym, ap, subst, arith, inl, inr}
use Rattle.std.specs.Prelude.{IfSome, IsSomeAnd, slice_get, is_some, not, ◌&&◌, ◌==◌}
use Rattle.std.specs.List.{All}
use Rattle.std.proofs.lemmas.Option.{slice_get_within}
use Rattle.cf_ids.specs.Ranges.{IsObjectNumber}
use Rattle.cf_ids.specs.declared.answer.Answer.{Answer}
use Rattle.cf_ids.specs.declared.answer.Answer.TheVariants as answers
use Rattle.cf_ids.specs.declared.answer.Ended.{Ended}
use Rattle.cf_syntax.specs.declared.script.Script.{Script}
use Rattle.cf_syntax.specs.declared.statement.Statement.{Statement}
use Rattle.cf_syntax.specs.declared.statement.Statement.TheVariants as forms
use Rattle.cf_syntax.specs.declared.mention.Ownership.{Ownership}
use Rattle.cf_syntax.specs.declared.mention.Ownership.TheVariants.{Keeps, Binds, Retains, Releases}
use Rattle.cf_syntax.specs.Mentions.{ownership_of, first_of}
use Rattle.cf_syntax.specs.BlockLines.{claims, says, packs}
use Rattle.cf_syntax.proofs.BlockLaws.{owned_fits}
use Rattle.cf_next.specs.declared.object.Used.{Used}
use Rattle.cf_next.specs.declared.step.Step.{Step as Found}
use Rattle.cf_next.specs.declared.step.Step.TheVariants as steps
use Rattle.cf_next.specs.Actions.{cut_of}
use Rattle.cf_next.specs.Facts.{Facts}
use Rattle.cf_next.specs.Stands.{Frame, Stand}
use Rattle.cf_next.specs.Standing.{Standing, HasRoom, HasRoomFor, is_retain, finals_in}
use Rattle.cf_next.specs.Demands.{does, ends, owes, drops}
use Rattle.cf_next.specs.Advance.{advanced, is_post}
use Rattle.cf_next.specs.Next.{action_in, object_at, top_frame, used_objects}
use Rattle.cf_next.specs.Steps.{IsStep, IsLine, SaysRoom, SaysList, demand_of, says_retain}
use Rattle.cf_next.specs.Views.{objects_of}
use Rattle.cf_next.proofs.FormLaws.{lines-few}
use Rattle.cf_model.specs.declared.entry.Entry.{Entry}
use Rattle.cf_model.specs.State.{State, first_held, stand_at}
use Rattle.cf_graph.specs.Holders.{parcel}
use Rattle.cf_model.specs.Known.{facts_of}
use Rattle.cf_model.specs.Steps.{step_of, step_answer, frames_at, bindings_of, depth_of, demanded, Made, item_made, type_in, answer_if}
use Rattle.cf_world.proofs.Timing.{StopsNone, said_time}
use Rattle.cf_world.proofs.Apart.{apart_stops}
use Rattle.cf_body.specs.Items.{ItemView}
use Rattle.cf_scene.specs.Needs.{acts_on_loops}
use Rattle.cf_model.specs.Journals.{After}
use Rattle.cf_model.proofs.Sound.{sound}
use Rattle.cf_world.specs.Worlds.{entry_of, retained_by}
use Rattle.cf_world.specs.Grounds.{GroundView, IsReady, NeedsDeed, ReadyIf, deed_of, state_of, known, statement_at, ends_in}
use Rattle.cf_world.specs.Entering.{HasEntered, IsLastAnswer, listed_if, IsDeed, IsBinding, IsMaking, item_new, IsRetain, IsSkip, IsRelease, answer_for, answer_of_cut, listed_in, used_in}
use Rattle.cf_world.specs.Kept.{IsKept, IsSaid, step_kept}
use Rattle.cf_world.specs.declared.found.Found.{Found as Kept}
use Rattle.cf_world.specs.declared.found.Found.TheVariants as kept
use Rattle.cf_world.specs.declared.found.Reserved.{Reserved}
use Rattle.cf_world.specs.Begun.{standing_at, StandSo, AreFrames, HasMoved, MovesBy, HasGone, IsClaims, IsOwes, IsFound, IsReserved, IsReadyFor, finals_of_cut, most_listed}
use Rattle.cf_world.proofs.Moving.{IsMove, action_of_demand, after_entry, gone_by, next_steps, room_for, room_two, less_room, stand_here}
use Rattle.cf_world.proofs.Forms.{NoCut, claim_moves, pack_moves, end_moves, finals_for, finals_of_answer, cut_moves, cut_live, owed_cuts, drop_cuts, release_cuts, said_moves, lists_none, said_cuts_none, said_releases, said_retains, retain_same}

-- ---- what was found

abbrev pub IsFoundStep : GroundView → Reserved → Found → Type 0
IsFoundStep g r x = IsStep g.script (facts_of (state_of g)) r.thread (stand_at r.thread (state_of g).stands) x

abbrev pub Keeps_ : GroundView → Reserved → Kept → Type 0
Keeps_ g r f = IsKept g.script (facts_of (state_of g)) r.thread (stand_at r.thread (state_of g).stands) f

-- what was found is a statement, which acts on run loops or does not
abbrev pub Said : GroundView → Reserved → (loops : Bool) → (b n : ℕ) → Used → Type 0
Said g r loops b n used =
    IsSaid g.script (facts_of (state_of g)) r.thread (stand_at r.thread (state_of g).stands) loops b n used

pub kept_as : (g : GroundView) (r : Reserved) (f : Kept) → IsFound g r → r.found ≡ f → Keeps_ g r f
kept_as g r f found e = subst (Keeps_ g r) e found.kept

-- room for an entry that is no retain
pub has_room : (g : GroundView) (frames : List Standing) (r : Reserved) (x : Found) → IsReserved g frames r
    → IsFoundStep g r x
    → is_retain (action_in g.script (facts_of (state_of g)) r.thread (frames_at r.thread (state_of g)) (demand_of x)) ≡ false
    → HasRoom 0 (standing_at frames r.thread)
has_room g frames r x reserved step plain =
    let is = action_of_demand g.script (state_of g) r.thread r.action (demand_of x) reserved.found.acts.next step.demand in
    less_room 0 2 (standing_at frames r.thread) (omega arith) (room_two r.action (standing_at frames r.thread) (ap is_retain (sym is) ∙ plain) reserved.room)

-- what was kept is the step that is found again
pub found_here : (o : Option Found) (P : Found → Type 0) (x : Found)
    → IfSome o (λ y. ◌≡◌ {A = Option Found} (Some x) (Some y)) → IsSomeAnd o P → (o ≡ Some x) × P x
found_here None P x h k = absurd k
found_here (Some y) P x h k = let same : x ≡ y = cc in (ap (λ (z : Found). Some z) (sym same), subst P (sym same) k)

pub none_here : (o : Option Found) (P : Found → Type 0) → IfSome o (λ y. ◌≡◌ {A = Option Found} None (Some y))
    → IsSomeAnd o P → ⊥
none_here None P h k = k
none_here (Some y) P h k = cc

-- ---- what was found, by its kind

pub as_claim : (f : Kept) (place : ℕ) → IsClaims f place → (v : ℕ) × (f ≡ kept.Claims place v)
as_claim (kept.Claims k v) place h = (v, ap (λ (n : ℕ). kept.Claims n v) h)
as_claim _ place h = absurd h

pub as_owed : (f : Kept) (o : ℕ) → IsOwes f o → (left : ℕ) × (f ≡ kept.Owes o left)
as_owed (kept.Owes p left) o h = (left, ap (λ (n : ℕ). kept.Owes n left) h)
as_owed _ o h = absurd h

moved_as : (g : GroundView) (r : Reserved) (frames : List Standing) (answer : Answer) (f : Kept) (x : Found)
    → r.found ≡ f → step_kept f ≡ Some x
    → IfSome (step_kept r.found) (MovesBy g r.thread answer [] frames) → MovesBy g r.thread answer [] frames x
moved_as g r frames answer f x e is h = subst (λ (o : Option Found). IfSome o (MovesBy g r.thread answer [] frames)) (ap step_kept e ∙ is) h

pub step_as : (g : GroundView) (r : Reserved) (f : Kept) (x : Found) → r.found ≡ f → step_kept f ≡ Some x
    → IsFoundStep g r x
    → IsSomeAnd (step_kept r.found) (IsStep g.script (facts_of (state_of g)) r.thread (stand_at r.thread (state_of g).stands))
step_as g r f x e is h = subst (λ (o : Option Found). IsSomeAnd o (IsStep g.script (facts_of (state_of g)) r.thread (stand_at r.thread (state_of g).stands))) (sym (ap step_kept e ∙ is)) h

-- ---- entries that are no statement

module _ (g g' : GroundView) (frames : List Standing) (r : Reserved) (found : IsFound g r) (entered : HasEntered r.thread r.action g g') (x : Answer) (moved : IfSome (step_kept r.found) (MovesBy g r.thread x [] frames)) where
  abbrev st : State
  st = state_of g

  abbrev t : ℕ
  t = r.thread

  pub claim_gone : (k v : ℕ) (object : Option ℕ) → r.found ≡ kept.Claims k v → object ≡ (known g).parcel t k
      → x ≡ answer_for object → HasGone r g g' frames
  claim_gone k v object e is told =
      let step : IsFoundStep g r (steps.Claims k v) = kept_as g r (kept.Claims k v) found e in
      let same : x ≡ answer_for (first_held (parcel t k) st.edges) = told ∙ ap answer_for is in
      gone_by g g' r (does (claims k v)) (answer_for (first_held (parcel t k) st.edges)) x [] (finals_in None x) [] frames found entered step.demand (claim_moves g.script t st k v) same
      (ap (finals_in None) same ∙ finals_for (first_held (parcel t k) st.edges)) (moved_as g r frames x (kept.Claims k v) (steps.Claims k v) e refl moved)

  pub pack_gone : (u k : ℕ) (v : Option ℕ) (object : Option ℕ) → r.found ≡ kept.Packs u k v
      → object ≡ object_at (bindings_of (frames_at t st)) v → x ≡ answer_for object → HasGone r g g' frames
  pack_gone u k v object e is told =
      let step : IsFoundStep g r (steps.Packs u k v) = kept_as g r (kept.Packs u k v) found e in
      let same : x ≡ answer_for (object_at (bindings_of (frames_at t st)) v) = told ∙ ap answer_for is in
      gone_by g g' r (does (packs u k v)) (answer_for (object_at (bindings_of (frames_at t st)) v)) x [] (finals_in None x) [] frames found entered step.demand (pack_moves g.script t st u k v) same
      (ap (finals_in None) same ∙ finals_for (object_at (bindings_of (frames_at t st)) v)) (moved_as g r frames x (kept.Packs u k v) (steps.Packs u k v) e refl moved)

  pub end_gone : r.found ≡ kept.Ends → x ≡ answers.Ok → HasGone r g g' frames
  end_gone e told =
      let step : IsFoundStep g r steps.Ends = kept_as g r kept.Ends found e in
      gone_by g g' r ends answers.Ok x [] (finals_in None x) [] frames found entered step.demand (end_moves g.script t st) told (ap (finals_in None) told) (moved_as g r frames x kept.Ends steps.Ends e refl moved)

  pub owed_gone : (o left : ℕ) (ended : Ended) → r.found ≡ kept.Owes o left → ends_in g o ended
      → x ≡ answer_of_cut ended (type_in (slice_get st.parts.objects o)) → HasGone r g g' frames
  owed_gone o left ended e end told =
      let step : IsFoundStep g r (steps.Owes o left) = kept_as g r (kept.Owes o left) found e in
      let cuts = owed_cuts g.script t st (owned_fits g.script found.runs.owned) (sound g.script g.journal found.runs.owned) o step.demand in
      gone_by g g' r (owes o) (answer_of_cut ended (type_in (slice_get st.parts.objects o))) x (finals_of_cut ended o) (finals_in (Some o) x) [] frames found entered step.demand
      (cut_moves (step_of g.script t st (frames_at t st) (owes o)) st o cuts ended end) told (ap (finals_in (Some o)) told ∙ finals_of_answer ended o _)
      (moved_as g r frames x (kept.Owes o left) (steps.Owes o left) e refl moved)

  pub drop_gone : (b k o left : ℕ) (ended : Ended) → r.found ≡ kept.Drops b k o left → ends_in g o ended
      → x ≡ answer_of_cut ended (type_in (slice_get st.parts.objects o)) → HasGone r g g' frames
  drop_gone b k o left ended e end told =
      let step : IsFoundStep g r (steps.Drops b k o left) = kept_as g r (kept.Drops b k o left) found e in
      let cuts = drop_cuts g.script t st (owned_fits g.script found.runs.owned) (sound g.script g.journal found.runs.owned) b k o step.demand in
      gone_by g g' r (drops b k o) (answer_of_cut ended (type_in (slice_get st.parts.objects o))) x (finals_of_cut ended o) (finals_in (Some o) x) [] frames found entered step.demand
      (cut_moves (step_of g.script t st (frames_at t st) (drops b k o)) st o cuts ended end) told (ap (finals_in (Some o)) told ∙ finals_of_answer ended o _)
      (moved_as g r frames x (kept.Drops b k o left) (steps.Drops b k o left) e refl moved)

-- what is cut was made
module _ (g : GroundView) (r : Reserved) (found : IsFound g r) where
  pub owed_made : (o left : ℕ) → IsFoundStep g r (steps.Owes o left) → o < length (state_of g).parts.objects
  owed_made o left step =
      let is_sound = sound g.script g.journal found.runs.owned in
      (cut_live _ (state_of g) o (owed_cuts g.script r.thread (state_of g) (owned_fits g.script found.runs.owned) is_sound o step.demand) is_sound.steady.balance).1

  pub drop_made : (b k o left : ℕ) → IsFoundStep g r (steps.Drops b k o left) → o < length (state_of g).parts.objects
  drop_made b k o left step =
      let is_sound = sound g.script g.journal found.runs.owned in
      (cut_live _ (state_of g) o (drop_cuts g.script r.thread (state_of g) (owned_fits g.script found.runs.owned) is_sound b k o step.demand) is_sound.steady.balance).1

-- ---- statements

top_bindings : (fs : List Frame) → (top_frame fs).bindings ≡ bindings_of fs
top_bindings [] = refl
top_bindings (f ∷ fs) = refl

module _ (g : GroundView) (r : Reserved) (found : IsFound g r) (b n : ℕ) (used : Used) (loops : Bool) (said : Said g r loops b n used) where
  abbrev now : State
  now = state_of g

  abbrev u : ℕ
  u = r.thread

  abbrev x : Statement
  x = said.statement

  abbrev objects : List (Option ℕ)
  objects = used_in g u x

  line_number : (fs : List Frame) → IsLine g.script (says x) fs → (top_frame fs).number + 1 < 4294967296
  line_number [] h = absurd h
  line_number (f ∷ fs) h = omega (arith, slice_get_within _ f.number (says x) h, lines-few g.script found.runs.numbered f.kind f.block)

  pub number_fits : (frames : List Standing) → AreFrames g.script now frames
      → (top_frame (standing_at frames u).stand.frames).number + 1 < 4294967296
  number_fits frames h = subst (λ (s : Stand). (top_frame s.frames).number + 1 < 4294967296) (sym (stand_here g.script now.stands frames u h)) (line_number (frames_at u now) said.line)

  pub objects_are : objects_of used ≡ objects
  objects_are = said.objects ∙ ap (λ bs. used_objects bs (says x)) (top_bindings (frames_at u now))

  -- the statement that stands there is the one that is said
  pub statement_is : (y : Statement) → Some y ≡ statement_at g.script b n → x ≡ y
  statement_is y e = let both : ◌≡◌ {A = Option Statement} (Some x) (Some y) = sym said.at ∙ sym e in cc

  pub no_statement : None ≡ statement_at g.script b n → ⊥
  no_statement e = let both : ◌≡◌ {A = Option Statement} None (Some x) = e ∙ said.at in cc

  -- room, and what is listed
  pub says_room : (frames : List Standing) (fin : Option ℕ) (more : ℕ)
      → HasRoomFor r.action (most_listed r.action) (standing_at frames u) → more ≤ 2
      → (says_retain x ≡ true → (more ≡ 0) × (fin ≡ None)) → SaysRoom x fin more (standing_at frames u)
  says_room frames fin more room few retains =
      let same = retain_same g.script u now x r.action found.acts.next said.demands in
      by (says_retain x) refl
    where
      with_retain : (m : ℕ) (f : Option ℕ) → m ≡ 0 → f ≡ None → (m == 0) && not (is_some f) ≡ true
      with_retain m f e q = ap (λ (k : ℕ). (k == 0) && not (is_some f)) e ∙ ap (λ (o : Option ℕ). not (is_some o)) q

      by : (c : Bool) → says_retain x ≡ c
          → cond (c && ((more == 0) && not (is_some fin))) (Unit {0}) (HasRoom more (standing_at frames u))
      by true e = let h = retains e in subst (λ (d : Bool). cond d (Unit {0}) (HasRoom more (standing_at frames u))) (sym (with_retain more fin h.0 h.1)) tt
      by false e = less_room more 2 (standing_at frames u) few (room_two r.action (standing_at frames u) (retain_same g.script u now x r.action found.acts.next said.demands ∙ e) room)

  -- the same where more may be listed
  pub says_more : (frames : List Standing) (more n : ℕ) → says_retain x ≡ false
      → HasRoomFor r.action more (standing_at frames u) → n ≤ more → SaysRoom x None n (standing_at frames u)
  says_more frames more n plain room few =
      let same = retain_same g.script u now x r.action found.acts.next said.demands in
      subst (λ (c : Bool). cond (c && ((n == 0) && true)) (Unit {0}) (HasRoom n (standing_at frames u))) (sym plain)
      (less_room n more (standing_at frames u) few (room_for r.action more (standing_at frames u) (same ∙ plain) room))

  pub says_list : (list : List ℕ) → All IsObjectNumber list → SaysList x list
  says_list list h = by (is_post (says x))
    where
      by : (c : Bool) → cond c (Unit {0}) (All IsObjectNumber list)
      by true = tt
      by false = h

-- ---- what a statement asks of the ground, and how its thread moves on by it

module _ (g : GroundView) (r : Reserved) (found : IsFound g r) (b n : ℕ) (used : Used) (loops : Bool) (said : Said g r loops b n used) where
  abbrev at : State
  at = state_of g

  abbrev z : Statement
  z = said.statement

  abbrev th : ℕ
  th = r.thread

  abbrev os : List (Option ℕ)
  os = used_in g th z

  abbrev said_answer : Answer
  said_answer = step_answer (step_of g.script th at (frames_at th at) (does (says z))) at

  ready_here : IsReadyFor g th (kept.Says b n used) → NeedsDeed (ownership_of z) (IsReady g z (objects_of used))
  ready_here h = subst (λ (o : Option Statement). ReadyIf g o (objects_of used)) said.at h

  deed_here : (d : IsReady g z (objects_of used)) → g.ready ≡ Some (deed_of g.script at z os)
  deed_here d = d.deed ∙ ap (λ (us : List (Option ℕ)). Some (deed_of g.script at z us)) (objects_are g r found b n used loops said)

  pub deed_is : ownership_of z ≡ Keeps → acts_on_loops z ≡ false → IsReadyFor g th (kept.Says b n used) → IsDeed g th
  deed_is w apart h =
      let d : IsReady g z (objects_of used) = subst (λ (o : Ownership). NeedsDeed o (IsReady g z (objects_of used))) w (ready_here h) in
      record { statement = z; demands = said.demands; apart = apart; keeps = w; ready = deed_here d }

  pub binding_is : (v : ℕ) → ownership_of z ≡ Binds v → item_made z ≡ None → IsReadyFor g th (kept.Says b n used) → IsBinding g th
  binding_is v w none h =
      let d : IsReady g z (objects_of used) = subst (λ (o : Ownership). NeedsDeed o (IsReady g z (objects_of used))) w (ready_here h) in
      record { statement = z; var = v; demands = said.demands; binds = w; itemless = none; ready = deed_here d; room = d.room }

  pub making_is : (v : ℕ) (item : ItemView) → ownership_of z ≡ Binds v → item_new (first_of os) (item_made z) ≡ Some item
      → IsReadyFor g th (kept.Says b n used) → IsMaking g th item
  making_is v item w made h =
      let d : IsReady g z (objects_of used) = subst (λ (o : Ownership). NeedsDeed o (IsReady g z (objects_of used))) w (ready_here h) in
      record { statement = z; var = v; demands = said.demands; binds = w; made = made; room = d.room }

  pub retain_is : (v : ℕ) (object : Option ℕ) → ownership_of z ≡ Retains v → object ≡ first_of (objects_of used)
      → IsRetain g th object
  retain_is v object w is = record {
    statement = z;
    var = v;
    demands = said.demands;
    retains = w;
    object_is = sym (is ∙ ap first_of (objects_are g r found b n used loops said));
  }

  pub skip_is : (v : ℕ) → ownership_of z ≡ Releases v → cut_of r.action ≡ None → IsSkip g th
  skip_is v w none = record {
    statement = z;
    var = v;
    demands = said.demands;
    releases = w;
    empty = subst (λ (o : Ownership). NoCut o os) w (said_cuts_none g.script th at z r.action found.acts.next said.demands none);
  }

  pub booked_is : (o : ℕ) → retained_by r.action ≡ Some o → IsRetain g th (Some o)
  booked_is o some =
      let h = said_retains g.script th at z r.action found.acts.next said.demands o some in
      record { statement = z; var = h.var; demands = said.demands; retains = h.retains; object_is = h.object }

  pub release_is : (o : ℕ) → cut_of r.action ≡ Some o → IsRelease g th o
  release_is o some =
      let h = said_releases g.script th at z r.action found.acts.next said.demands o some in
      record { statement = z; var = h.var; demands = said.demands; releases = h.releases; object = h.object }

  listed_here : listed_in g th ≡ (step_of g.script th at (frames_at th at) (does (says z))).list
  listed_here = ap (listed_if g.script th at) said.demands

  pub lists_nothing : (ownership_of z ≡ Keeps → ⊥) → [] ≡ listed_in g th
  lists_nothing other = sym (listed_here ∙ lists_none g.script th (depth_of (frames_at th at)) at z os (ownership_of z) other)

  -- without a cut
  pub quiet_moves : StopsNone z → (list : List ℕ) → cut_of r.action ≡ None → list ≡ listed_in g th
      → IsMove g.script th at (does (says z)) said_answer [] list
  quiet_moves stops list none e =
      let m = said_moves g.script th at z stops (said_cuts_none g.script th at z r.action found.acts.next said.demands none) in
      record { answer_is = m.answer_is; finals_are = m.finals_are; list_is = sym (e ∙ listed_here); stops = m.stops }

  -- a retain
  pub booked_moves : StopsNone z → (o : ℕ) → retained_by r.action ≡ Some o → IsMove g.script th at (does (says z)) said_answer [] []
  booked_moves stops o some =
      let h = said_retains g.script th at z r.action found.acts.next said.demands o some in
      let m = said_moves g.script th at z stops (subst (λ (w : Ownership). NoCut w os) (sym h.retains) tt) in
      let other : ownership_of z ≡ Keeps → ⊥ = λ keeps. no_keeps h.var (sym h.retains ∙ keeps) in
      record { answer_is = m.answer_is; finals_are = m.finals_are; list_is = lists_none g.script th (depth_of (frames_at th at)) at z os (ownership_of z) other; stops = m.stops }
    where
      no_keeps : (v : ℕ) → Retains v ≡ Keeps → ⊥
      no_keeps v e = cc

  -- a release
  pub release_moves : (o : ℕ) (ended : Ended) → cut_of r.action ≡ Some o → ends_in g o ended
      → IsMove g.script th at (does (says z)) said_answer (finals_of_cut ended o) []
  release_moves o ended some end =
      let h = said_releases g.script th at z r.action found.acts.next said.demands o some in
      let cuts = release_cuts g.script th at (owned_fits g.script found.runs.owned) (sound g.script g.journal found.runs.owned) z h.var o said.demands h.releases h.object in
      let m = cut_moves (step_of g.script th at (frames_at th at) (does (says z))) at o cuts ended end in
      record { answer_is = refl; finals_are = m.finals_are; list_is = m.list_is; stops = m.stops }

-- the last answer is that of the entry
last_entry : (es : List Entry) (e : Entry) → IsLastAnswer (es ++ e ∷ []) (Some e.answer)
last_entry [] e = refl
last_entry (f ∷ []) e = refl
last_entry (f ∷ h ∷ es) e = last_entry (h ∷ es) e

pub last_is : (es : List Entry) (a b : Option Answer) → IsLastAnswer es a → IsLastAnswer es b → a ≡ b
last_is [] a b h k = h ∙ sym k
last_is (e ∷ []) a b h k = h ∙ sym k
last_is (e ∷ f ∷ es) a b h k = last_is (f ∷ es) a b h k

module _ (g g' : GroundView) (frames frames' : List Standing) (r : Reserved) (found : IsFound g r) (entered : HasEntered r.thread r.action g g') (b n : ℕ) (used : Used) (loops : Bool) (said : Said g r loops b n used)
    (so : AreFrames g.script (state_of g) frames) where
  abbrev was : State
  was = state_of g

  abbrev w : ℕ
  w = r.thread

  abbrev y : Statement
  y = said.statement

  abbrev told : Answer
  told = answer_if g.script w was (demanded g.script was w)

  abbrev of_step : Answer
  of_step = step_answer (step_of g.script w was (frames_at w was) (does (says y))) was

  told_is : told ≡ of_step
  told_is = ap (answer_if g.script w was) said.demands

  pub last_told : IsLastAnswer g'.journal (Some told)
  last_told = subst (λ (es : List Entry). IsLastAnswer es (Some told)) (sym entered.journal) (last_entry g.journal (entry_of g.script w was r.action))

  -- the frames move by the facts as they are after the entry, as far as the time goes
  abbrev IsSayOn : List ℕ → List ℕ → Type 0
  IsSayOn finals list = (s : Script) (stands : List Stand) (facts : Facts) (answer : Answer)
      → StandSo s stands frames → facts.time ≡ (state_of g').parts.time → IsLastAnswer g'.journal (Some answer)
      → HasMoved s stands w (advanced facts w (does (says y)) answer finals list (stand_at w stands)) frames'

  -- what a thread says changes no time
  time_is : was.parts.time ≡ (state_of g').parts.time
  time_is =
      let es = g.journal ++ entry_of g.script w was r.action ∷ [] in
      let states : state_of g' ≡ After g.script es = ap (λ (c : Script). After c g'.journal) entered.script ∙ ap (After g.script) entered.journal in
      sym (ap (λ (x : State). x.parts.time) (states ∙ after_entry g.script g.journal w r.action told (does (says y)) (next_steps g w r.action found.runs found.acts) said.demands)
      ∙ said_time g.script w was y)

  pub say_gone : (finals list : List ℕ) → IsMove g.script w was (does (says y)) of_step finals list
      → IsSayOn finals list → HasGone r g g' frames'
  say_gone finals list h on =
      gone_by g g' r (does (says y)) of_step told finals finals list frames' found entered said.demands h told_is refl
      (on g.script was.stands (facts_of was) told so time_is last_told)

-- ---- a statement that is entered, and its thread moved on by it

-- a statement that is a retain counts a variable's references
pub retains_var : (z : Statement) → says_retain z ≡ true → (v : ℕ) × (ownership_of z ≡ Retains v)
retains_var (forms.Retain v) e = (v, refl)
retains_var _ e = absurd cc

abbrev no_object : Option ℕ
no_object = None

retain_form : (z : Statement) (v : ℕ) → ownership_of z ≡ Retains v → says_retain z ≡ true
retain_form (forms.Retain w) v e = refl
retain_form _ v e = absurd cc

module _ (g : GroundView) (r : Reserved) (found : IsFound g r) (b n : ℕ) (used : Used) (is : r.found ≡ kept.Says b n used) (x : Statement) (there : Some x ≡ statement_at g.script b n) where
  pub said_here : Keeps_ g r (kept.Says b n used)
  said_here = kept_as g r (kept.Says b n used) found is

  pub same_here : said_here.statement ≡ x
  same_here = statement_is g r found b n used false said_here x there

  pub room_here : (frames : List Standing) (fin : Option ℕ) (more : ℕ)
      → HasRoomFor r.action (most_listed r.action) (standing_at frames r.thread) → more ≤ 2
      → (says_retain said_here.statement ≡ true → (more ≡ 0) × (fin ≡ None)) → SaysRoom x fin more (standing_at frames r.thread)
  room_here frames fin more room few retains =
      subst (λ (y : Statement). SaysRoom y fin more (standing_at frames r.thread)) same_here (says_room g r found b n used false said_here frames fin more room few retains)

  pub list_here : (list : List ℕ) → All IsObjectNumber list → SaysList x list
  list_here list h = subst (λ (y : Statement). SaysList y list) same_here (says_list g r found b n used false said_here list h)

  -- a retain lists nothing
  pub quiet_retain : (list : List ℕ) → list ≡ listed_in g r.thread → says_retain said_here.statement ≡ true
      → (length list ≡ 0) × (◌≡◌ {A = Option ℕ} None None)
  quiet_retain list e retains =
      let h = retains_var said_here.statement retains in
      (ap length (e ∙ sym (lists_nothing g r found b n used false said_here (λ keeps. no_keeps h.0 (sym h.1 ∙ keeps)))), refl)
    where
      no_keeps : (v : ℕ) → Retains v ≡ Keeps → ⊥
      no_keeps v e = cc

  -- a release is no retain
  pub no_retain : (o : ℕ) (fin : Option ℕ) → cut_of r.action ≡ Some o → says_retain said_here.statement ≡ true
      → (◌≡◌ {A = ℕ} 0 0) × (fin ≡ None)
  no_retain o fin some retains =
      let h = retains_var said_here.statement retains in
      let k = said_releases g.script r.thread (state_of g) said_here.statement r.action found.acts.next said_here.demands o some in
      absurd (apart h.0 k.var (sym h.1 ∙ k.releases))
    where
      apart : (v u : ℕ) → Retains v ≡ Releases u → ⊥
      apart v u e = cc

  -- a retain that was made before needs no room
  pub booked_room : (o : ℕ) (f : Standing) → retained_by r.action ≡ Some o → SaysRoom x None 0 f
  booked_room o f some =
      let h = said_retains g.script r.thread (state_of g) said_here.statement r.action found.acts.next said_here.demands o some in
      subst (λ (d : Bool). cond (d && ((0 == 0) && not (is_some no_object))) (Unit {0}) (HasRoom 0 f)) (sym (retain_form x h.var (ap ownership_of (sym same_here) ∙ h.retains))) tt

  -- what the ground asks of it
  pub deed_asked : Keeps ≡ ownership_of x → IsReadyFor g r.thread r.found → IsDeed g r.thread
  deed_asked e ready = deed_is g r found b n used false said_here (ap ownership_of same_here ∙ sym e) said_here.acts (subst (IsReadyFor g r.thread) is ready)

  pub binding_asked : (v : ℕ) (info : Option ℕ) → Binds v ≡ ownership_of x → ◌≡◌ {A = Option ItemView} None (item_new info (item_made x))
      → IsReadyFor g r.thread r.found → IsBinding g r.thread
  binding_asked v info e none ready =
      binding_is g r found b n used false said_here v (ap ownership_of same_here ∙ sym e) (no_item (item_made said_here.statement) (none ∙ ap (λ (y : Statement). item_new info (item_made y)) (sym same_here)))
      (subst (IsReadyFor g r.thread) is ready)
    where
      no_item : (o : Option Made) → None ≡ item_new info o → o ≡ None
      no_item None q = refl
      no_item (Some m) q = absurd cc

  pub making_asked : (v : ℕ) (item : ItemView) → Binds v ≡ ownership_of x
      → Some item ≡ item_new (first_of (objects_of used)) (item_made x)
      → IsReadyFor g r.thread r.found → IsMaking g r.thread item
  making_asked v item e made ready =
      making_is g r found b n used false said_here v item (ap ownership_of same_here ∙ sym e)
      (ap (λ (us : List (Option ℕ)). item_new (first_of us) (item_made said_here.statement)) (sym (objects_are g r found b n used false said_here)) ∙ ap (λ (y : Statement). item_new (first_of (objects_of used)) (item_made y)) same_here ∙ sym made)
      (subst (IsReadyFor g r.thread) is ready)

  pub skip_asked : (v : ℕ) → Releases v ≡ ownership_of x → cut_of r.action ≡ None → IsSkip g r.thread
  skip_asked v e none = skip_is g r found b n used false said_here v (ap ownership_of same_here ∙ sym e) none

module _ (g g' : GroundView) (frames frames' : List Standing) (r : Reserved) (found : IsFound g r) (entered : HasEntered r.thread r.action g g') (b n : ℕ) (used : Used) (is : r.found ≡ kept.Says b n used)
    (so : AreFrames g.script (state_of g) frames) (x : Statement) (there : Some x ≡ statement_at g'.script b n) where
  pub there_before : Some x ≡ statement_at g.script b n
  there_before = there ∙ ap (λ (s : Script). statement_at s b n) entered.script

  abbrev said_now : Keeps_ g r (kept.Says b n used)
  said_now = said_here g r found b n used is x there_before

  abbrev IsOn : Statement → List ℕ → List ℕ → Type 0
  IsOn y finals list = (s : Script) (stands : List Stand) (facts : Facts) (answer : Answer)
      → StandSo s stands frames → facts.time ≡ (state_of g').parts.time → IsLastAnswer g'.journal (Some answer)
      → HasMoved s stands r.thread (advanced facts r.thread (does (says y)) answer finals list (stand_at r.thread stands)) frames'

  gone_on : (finals list : List ℕ)
      → IsMove g.script r.thread (state_of g) (does (says said_now.statement)) (said_answer g r found b n used false said_now) finals list
      → IsOn x finals list → HasGone r g g' frames'
  gone_on finals list h on =
      say_gone g g' frames frames' r found entered b n used false said_now so finals list h
      (subst (λ (y : Statement). IsOn y finals list) (sym (same_here g r found b n used is x there_before)) on)

  pub quiet_gone : (list : List ℕ) → cut_of r.action ≡ None → list ≡ listed_in g r.thread → IsOn x [] list
      → HasGone r g g' frames'
  quiet_gone list none e on = gone_on [] list (quiet_moves g r found b n used false said_now (apart_stops said_now.statement said_now.acts) list none e) on

  pub booked_gone : (o : ℕ) → retained_by r.action ≡ Some o → IsOn x [] [] → HasGone r g g' frames'
  booked_gone o some on = gone_on [] [] (booked_moves g r found b n used false said_now (apart_stops said_now.statement said_now.acts) o some) on

  pub release_gone : (o : ℕ) (ended : Ended) (finals : List ℕ) → cut_of r.action ≡ Some o → ends_in g o ended
      → finals ≡ finals_of_cut ended o → IsOn x finals [] → HasGone r g g' frames'
  release_gone o ended finals some end same on =
      gone_on (finals_of_cut ended o) [] (release_moves g r found b n used false said_now o ended some end) (subst (λ (fs : List ℕ). IsOn x fs []) same on)

pub nothing_there : (g g' : GroundView) (r : Reserved) (found : IsFound g r)
    (entered : HasEntered r.thread r.action g g') (b n : ℕ) (used : Used) → r.found ≡ kept.Says b n used
    → None ≡ statement_at g'.script b n → ⊥
nothing_there g g' r found entered b n used is none =
    no_statement g r found b n used false (kept_as g r (kept.Says b n used) found is) (none ∙ ap (λ (s : Script). statement_at s b n) entered.script)

-- the slot that is given up is the one of the action
pub drop_cut : (g : GroundView) (r : Reserved) (found : IsFound g r) (b k o left : ℕ) → r.found ≡ kept.Drops b k o left
    → cut_of r.action ≡ Some o
drop_cut g r found b k o left e =
    let step : IsFoundStep g r (steps.Drops b k o left) = kept_as g r (kept.Drops b k o left) found e in
    ap cut_of (sym (action_of_demand g.script (state_of g) r.thread r.action (drops b k o) found.acts.next step.demand))

-- what takes no reference away is no release and no slot
pub nothing_cut : (g : GroundView) (r : Reserved) (found : IsFound g r) → cut_of r.action ≡ None
    → ((o : ℕ) × (left : ℕ) × (r.found ≡ kept.Owes o left)) ⊎ ((b : ℕ) × (k : ℕ) × (o : ℕ) × (left : ℕ) × (r.found ≡ kept.Drops b k o left)) → ⊥
nothing_cut g r found none (inl h) =
    let step : IsFoundStep g r (steps.Owes h.0 h.1) = kept_as g r (kept.Owes h.0 h.1) found h.2 in
    both (ap cut_of (action_of_demand g.script (state_of g) r.thread r.action (owes h.0) found.acts.next step.demand) ∙ none)
  where
    both : ◌≡◌ {A = Option ℕ} (Some h.0) None → ⊥
    both e = cc
nothing_cut g r found none (inr h) = both (sym (drop_cut g r found h.0 h.1 h.2 h.3 h.4) ∙ none)
  where
    both : ◌≡◌ {A = Option ℕ} (Some h.2) None → ⊥
    both e = cc

-- the object of a variable, as the frames have it
pub object_here : (g : GroundView) (frames lent : List Standing) (t : ℕ) (v object : Option ℕ)
    → AreFrames g.script (state_of g) frames → lent ≡ frames
    → object ≡ object_at (top_frame (standing_at lent t).stand.frames).bindings v → object ≡ object_at (bindings_of (frames_at t (state_of g))) v
object_here g frames lent t v object so same e =
    e ∙ ap (λ (fs : List Standing). object_at (top_frame (standing_at fs t).stand.frames).bindings v) same
    ∙ ap (λ (s : Stand). object_at (top_frame s.frames).bindings v) (stand_here g.script (state_of g).stands frames t so)
    ∙ ap (λ bs. object_at bs v) (top_bindings (frames_at t (state_of g)))
