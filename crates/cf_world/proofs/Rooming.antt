-- Room that is made for what was found keeps what was found.
use Rattle.std.proofs.Common.{◌≡◌, ℕ, zero, suc, ◌<◌, ◌≤◌, ◌∙◌, ◌⊎◌, Bool, true, false, cond, List, [], ◌∷◌, length, map, Result, Ok, Err, Option, Some, None, get_or, set, sym, ap, subst, arith, inl, inr}
use Rattle.std.proofs.lemmas.List.{length-set, get_or-set_same, get_or-set_other}
use Rattle.std.proofs.lemmas.Bool.{cases_eq}
use Rattle.std.specs.Prelude.{◌&&◌, ◌==◌, IsTrue, OnOk}
use Rattle.cf_syntax.specs.declared.script.Script.{Script}
use Rattle.cf_syntax.specs.declared.statement.Statement.{Statement}
use Rattle.cf_syntax.specs.declared.mention.Ownership.{Ownership}
use Rattle.cf_syntax.specs.declared.mention.Ownership.TheVariants.{Keeps, Binds, Retains, Releases}
use Rattle.cf_syntax.specs.Mentions.{ownership_of}
use Rattle.cf_contents.specs.Stores.{Ready}
use Rattle.cf_next.specs.Views.{objects_of}
use Rattle.cf_next.specs.declared.action.Action.{Action}
use Rattle.cf_next.specs.Stands.{Stand}
use Rattle.cf_next.specs.Standing.{Standing, HasRoom, HasRoomFor, RoomStays, is_retain}
use Rattle.cf_model.specs.declared.entry.Entry.{Entry}
use Rattle.cf_model.specs.State.{State, stand_at}
use Rattle.cf_model.specs.Known.{facts_of}
use Rattle.cf_model.specs.Journals.{After, Next, makes}
use Rattle.cf_world.specs.Grounds.{GroundView, IsReady, MayRun, NeedsDeed, PlaceIf, ReadyIf, deed_of, state_of, statement_at}
use Rattle.rl_modes.specs.Loops.{Loop}
use Rattle.cf_scene.specs.Needs.{HasPlaceFor}
use Rattle.cf_world.specs.Kept.{IsKept}
use Rattle.cf_world.specs.declared.found.Found.{Found}
use Rattle.cf_world.specs.declared.found.Found.TheVariants as kept
use Rattle.cf_world.specs.declared.found.Reserved.{Reserved}
use Rattle.cf_world.proofs.Moving.{less_room}
use Rattle.cf_world.specs.Begun.{AreFrames, HasLists, IsFound, IsReadyFor, IsReserved, ListsFit, ReservedIf, StandSo, most_listed, nobody, standing_at}

-- what was found does not ask for the bodies' room
module _ (g g' : GroundView) (script : g'.script ≡ g.script) (journal : g'.journal ≡ g.journal) (room : g'.journal_room ≡ g.journal_room) where
  carry : (P : Script → List Entry → Type 0) → P g.script g.journal → P g'.script g'.journal
  carry P h = subst (λ (s : Script). P s g'.journal) (sym script) (subst (P g.script) (sym journal) h)

  pub found_stays : (r : Reserved) → IsFound g r → IsFound g' r
  found_stays r h = record {
    runs = carry (λ s es. MayRun s) h.runs;
    kept = carry (λ s es. IsKept s (facts_of (After s es)) r.thread (stand_at r.thread (After s es).stands) r.found) h.kept;
    acts = record {
      thread = carry (λ s es. r.thread < s.thread_count) h.acts.thread;
      next = carry (λ s es. Next s (After s es) r.thread ≡ Some r.action) h.acts.next;
      few = carry (λ s es. IsTrue (makes s (After s es) r.thread) → length (After s es).parts.objects < 65536) h.acts.few;
      room = omega (arith, h.acts.room, room);
      short = carry (λ s es. length es < 4000000) h.acts.short;
    };
  }

-- room stays
pub stays_for : (a : Action) (n : ℕ) (f f' : Standing) → RoomStays f f' → HasRoomFor a n f → HasRoomFor a n f'
stays_for a n f f' stays h = by (is_retain a && n == 0) h
  where
    by : (b : Bool) → cond b (Unit {0}) (HasRoom n f) → cond b (Unit {0}) (HasRoom n f')
    by true h = tt
    by false h = record { frames = omega (arith, h.frames, stays.frames); bindings = omega (arith, h.bindings, stays.bindings); callees = omega (arith, h.callees, stays.callees); work = omega (arith, h.work, stays.work) }

pub stays_all : (frames : List Standing) (t : ℕ) (f : Standing) (a : Action) (n u : ℕ) → t < length frames
    → RoomStays (get_or frames t nobody) f
    → HasRoomFor a n (get_or frames u nobody) → HasRoomFor a n (get_or (set frames t f) u nobody)
stays_all frames t f a n u within stays h = by (cases_eq u t)
  where
    by : (u ≡ t) ⊎ (u ≡ t → ⊥) → HasRoomFor a n (get_or (set frames t f) u nobody)
    by (inl e) =
        subst (λ (v : ℕ). HasRoomFor a n (get_or (set frames t f) v nobody)) (sym e)
        (subst (HasRoomFor a n) (sym (get_or-set_same frames t f nobody within)) (stays_for a n (get_or frames t nobody) f stays (subst (λ (v : ℕ). HasRoomFor a n (get_or frames v nobody)) e h)))
    by (inr ne) = subst (HasRoomFor a n) (sym (get_or-set_other frames t u f nobody ne)) h

-- where the threads stand is as it was
set_same : (frames : List Standing) (t : ℕ) (f : Standing) → t < length frames
    → f.stand ≡ (get_or frames t nobody).stand
    → map (λ (g : Standing). g.stand) (set frames t f) ≡ map (λ (g : Standing). g.stand) frames
set_same [] t f within e = absurd (omega (arith, within))
set_same (g ∷ gs) zero f within e = ap (λ (x : Stand). x ∷ map (λ (g : Standing). g.stand) gs) e
set_same (g ∷ gs) (suc t) f within e = ap (λ (xs : List Stand). g.stand ∷ xs) (set_same gs t f (omega (arith, within)) e)

pub stand_stays : (s : Script) (stands : List Stand) (frames : List Standing) (t : ℕ) (f : Standing) → t < length frames
    → f.thread ≡ (get_or frames t nobody).thread
    → f.stand ≡ (get_or frames t nobody).stand → StandSo s stands frames → StandSo s stands (set frames t f)
stand_stays s stands frames t f within thread stand h = record {
  count = length-set frames t f ∙ h.count;
  thread = λ u below. by u below (cases_eq u t);
  stand = set_same frames t f within stand ∙ h.stand;
}
  where
    by : (u : ℕ) → u < s.thread_count → (u ≡ t) ⊎ (u ≡ t → ⊥) → (get_or (set frames t f) u nobody).thread ≡ u
    by u below (inl e) =
        ap (λ (v : ℕ). (get_or (set frames t f) v nobody).thread) e ∙ ap (λ (g : Standing). g.thread) (get_or-set_same frames t f nobody within) ∙ thread
        ∙ h.thread t (subst (λ (v : ℕ). v < s.thread_count) e below) ∙ sym e
    by u below (inr ne) = ap (λ (g : Standing). g.thread) (get_or-set_other frames t u f nobody ne) ∙ h.thread u below

-- ---- the deed that is ready

deed_maps : (w : Ownership) (P Q : Type 0) → (P → Q) → NeedsDeed w P → NeedsDeed w Q
deed_maps Keeps P Q f h = f h
deed_maps (Binds v) P Q f h = f h
deed_maps (Retains v) P Q f h = tt
deed_maps (Releases v) P Q f h = tt

module _ (g g' : GroundView) (script : g'.script ≡ g.script) (journal : g'.journal ≡ g.journal) where
  state_same : state_of g' ≡ state_of g
  state_same = ap (λ (s : Script). After s g'.journal) script ∙ ap (After g.script) journal

  deed_same : (x : Statement) (used : List (Option ℕ))
      → deed_of g'.script (state_of g') x used ≡ deed_of g.script (state_of g) x used
  deed_same x used = ap (λ (s : Script). deed_of s (state_of g') x used) script ∙ ap (λ (st : State). deed_of g.script st x used) state_same

  pub ready_stays : g'.ready ≡ g.ready → g.body_room ≤ g'.body_room → g'.loops ≡ g.loops → (t : ℕ) (f : Found)
      → IsReadyFor g t f → IsReadyFor g' t f
  ready_stays ready room loops t (kept.Says b n used) h = subst (λ (s : Script). ReadyIf g' (statement_at s b n) (objects_of used)) (sym script) (by (statement_at g.script b n) h)
    where
      by : (o : Option Statement) → ReadyIf g o (objects_of used) → ReadyIf g' o (objects_of used)
      by None k = tt
      by (Some x) k =
          deed_maps (ownership_of x) (IsReady g x (objects_of used)) (IsReady g' x (objects_of used))
          (λ d. record { deed = ready ∙ d.deed ∙ ap (λ (e : Ready). Some e) (sym (deed_same x (objects_of used))); room = omega (arith, d.room, room) }) k
  ready_stays ready room loops t (kept.Deals b n used) h = subst (λ (s : Script). PlaceIf g' t (statement_at s b n)) (sym script) (by (statement_at g.script b n) h)
    where
      by : (o : Option Statement) → PlaceIf g t o → PlaceIf g' t o
      by None k = tt
      by (Some x) k = subst (λ (ls : List Loop). HasPlaceFor t ls x) (sym loops) k
  ready_stays ready room loops t _ h = tt

-- ---- what was reserved

pub reserved_stays : (g g' : GroundView) (frames frames' : List Standing) → g'.script ≡ g.script
    → g'.journal ≡ g.journal → g'.journal_room ≡ g.journal_room
    → ((a : Action) (n u : ℕ) → HasRoomFor a n (standing_at frames u) → HasRoomFor a n (standing_at frames' u)) → ((t : ℕ) (f : Found) → IsReadyFor g t f → IsReadyFor g' t f)
    → (r : Reserved) → IsReserved g frames r → IsReserved g' frames' r
reserved_stays g g' frames frames' script journal room stays ready r h = record {
  found = found_stays g g' script journal room r h.found;
  room = stays r.action (most_listed r.action) r.thread h.room;
  ready = ready r.thread r.found h.ready;
}

pub frames_stay : (g g' : GroundView) (frames : List Standing) → g'.script ≡ g.script → g'.journal ≡ g.journal
    → AreFrames g.script (state_of g) frames → AreFrames g'.script (state_of g') frames
frames_stay g g' frames script journal h =
    subst (λ (s : Script). AreFrames s (After s g'.journal) frames) (sym script) (subst (λ (es : List Entry). AreFrames g.script (After g.script es) frames) (sym journal) h)

-- ---- room that is made

-- what is so if something is made
pub on_ok : {T E : Type 0} (x : Result T E) {P Q : Type 0} → (P → Q) → OnOk x P → OnOk x Q
on_ok (Ok v) f h = f h
on_ok (Err e) f h = tt

-- room for as many as an entry lists at most is room for the few of an action
pub room_listed : (a : Action) (more : ℕ) (f : Standing) → most_listed a ≤ more → HasRoomFor a more f
    → HasRoomFor a (most_listed a) f
room_listed a more f le h = by (is_retain a) le h
  where
    by : (b : Bool) → cond {A = ℕ} b 0 2 ≤ more → cond (b && (more == 0)) (Unit {0}) (HasRoom more f)
        → cond (b && (cond {A = ℕ} b 0 2 == 0)) (Unit {0}) (HasRoom (cond {A = ℕ} b 0 2) f)
    by true le h = tt
    by false le h = less_room 2 more f le h

-- what was reserved, if something was, is so in another ground too
pub reserved_kept : (g g' : GroundView) (frames frames' : List Standing) (b : Bool) (r : Reserved)
    → ((q : Reserved) → IsReserved g frames q → IsReserved g' frames' q)
    → ReservedIf g frames (cond b (Some r) None) → ReservedIf g' frames' (cond b (Some r) None)
reserved_kept g g' frames frames' true r f h = f r h
reserved_kept g g' frames frames' false r f h = tt

pub lists_kept : (g g' : GroundView) (frames frames' : List Standing) (m n m' n' : ℕ) (b : Bool) (r : Reserved)
    → ((q : Reserved) → HasLists g frames m n q → HasLists g' frames' m' n' q)
    → ListsFit g frames m n (cond b (Some r) None) → ListsFit g' frames' m' n' (cond b (Some r) None)
lists_kept g g' frames frames' m n m' n' true r f h = f r h
lists_kept g g' frames frames' m n m' n' false r f h = tt
