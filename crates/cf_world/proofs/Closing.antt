-- A world after an entry of a thread is again one whose script has begun, and callers see the entry.
use Rattle.std.proofs.Common.{◌≡◌, ℕ, ◌+◌, ◌<◌, ◌≤◌, ◌∙◌, Bool, true, false, cond, List, [], ◌∷◌, length, Option, Some, None, refl, sym, ap, subst, arith, length-append, vec_capacity}
use Rattle.std.proofs.lemmas.Bool.Decides.{nat_tests}
use Rattle.std.specs.Prelude.{not, ◌&&◌, nat_le, IsSomeAnd}
use Rattle.std.specs.Option.{option_map}
use Rattle.cf_syntax.specs.declared.script.Script.{Script}
use Rattle.cf_graph.specs.Flows.{gained_by}
use Rattle.cf_next.specs.declared.action.Action.{Action}
use Rattle.cf_next.specs.Standing.{Standing}
use Rattle.cf_model.specs.declared.entry.Entry.{Entry}
use Rattle.cf_model.specs.State.{flags_at, stand_at}
use Rattle.cf_model.specs.Flowing.{flow_in}
use Rattle.cf_model.specs.Journals.{After, Next, makes, sleeps}
use Rattle.cf_world.specs.Worlds.{WorldView, act_in, acting, applied, entered, entered_by, entry_of, next_if, next_of}
use Rattle.cf_world.specs.Grounds.{GroundView, state_of}
use Rattle.cf_world.specs.Entering.{gained_in}
use Rattle.cf_world.specs.declared.next.Next.{Next as NextCode}
use Rattle.cf_world.specs.declared.next.Next.TheVariants as nexts
use Rattle.cf_world.specs.declared.found.Reserved.{Reserved}
use Rattle.cf_world.specs.declared.begun.Begun.TheInside.{Inside}
use Rattle.cf_world.specs.Begun.{HasGone, IsBegun, IsFound, IsReserved, ReservedIf, reserved_of, thread_of, view_of, ListsFit}
use Rattle.cf_world.proofs.Moving.{next_steps}

-- ---- the action that may be done

pub record Acted (s : Script) (limit : ℕ) (journal : List Entry) (t : ℕ) (a : Action) : Type 0 where
  pub next : Next s (After s journal) t ≡ Some a
  pub below : length journal < limit

pass : (b : Bool) (n rest : NextCode) (a : Action) → act_in n ≡ None → act_in (cond b n rest) ≡ Some a
    → (b ≡ false) × (act_in rest ≡ Some a)
pass true n rest a none e = absurd cc
pass false n rest a none e = (refl, e)

not_at : (m n : ℕ) → nat_le m n ≡ false → n < m
not_at m n e = grind (arith, nat_tests)

pub act_parts : (s : Script) (limit : ℕ) (journal : List Entry) (t : ℕ) (a : Action)
    → act_in (next_of s limit journal t) ≡ Some a → Acted s limit journal t a
act_parts s limit journal t a e =
    let st = After s journal in
    let p = pass (not (flags_at t st.parts.flags).is_started) nexts.Waiting _ a refl e in
    let q = pass (stand_at t st.stands).is_done nexts.Done _ a refl p.1 in
    let r = pass (sleeps st t) nexts.Asleep _ a refl q.1 in
    by (Next s st t) refl r.1
  where
    by : (o : Option Action) → Next s (After s journal) t ≡ o → act_in (next_if s limit journal t o) ≡ Some a
        → Acted s limit journal t a
    by None is e = absurd cc
    by (Some b) is e =
        let p = pass (nat_le limit (length journal)) nexts.Limit _ a refl e in
        let q = pass (makes s (After s journal) t && nat_le 65536 (length (After s journal).parts.objects)) nexts.Full _ a refl p.1 in
        record { next = is ∙ q.1; below = not_at limit (length journal) p.0 }

-- ---- what callers see

view_same : (s s' : Script) (limit : ℕ) (es es' : List Entry) (os os' : List ℕ) → s ≡ s' → es ≡ es' → os ≡ os'
    → ◌≡◌ {A = WorldView} (record { script = Some s; limit = limit; journal = es; gained = os; room = None }) (record { script = Some s'; limit = limit; journal = es'; gained = os'; room = None })
view_same s s' limit es es' os os' p q r =
    ap (λ (x : Script). record { script = Some x; limit = limit; journal = es; gained = os; room = None }) p
    ∙ ap (λ (x : List Entry). record { script = Some s'; limit = limit; journal = x; gained = os; room = None }) q
    ∙ ap (λ (x : List ℕ). record { script = Some s'; limit = limit; journal = es'; gained = x; room = None }) r

-- an action that is acted on
pub record SomeAct (o : Option Action) (P : Action → Type 0) : Type 0 where
  pub action : Action
  pub is : o ≡ Some action
  pub holds : P action

pub some_act : (o : Option Action) (P : Action → Type 0) → IsSomeAnd o P → SomeAct o P
some_act None P h = absurd h
some_act (Some a) P h = record { action = a; is = refl; holds = h }

pub thread_is : (o : Option Reserved) (r : Reserved) (t : ℕ) → o ≡ Some r → option_map thread_of o ≡ Some t
    → r.thread ≡ t
thread_is o r t e h = let both : ◌≡◌ {A = Option ℕ} (Some r.thread) (Some t) = sym (ap (option_map thread_of) e) ∙ h in cc

pub reserved_is : (g : GroundView) (frames : List Standing) (o : Option Reserved) (r : Reserved) → o ≡ Some r
    → ReservedIf g frames o → IsReserved g frames r
reserved_is g frames o r e h = subst (ReservedIf g frames) e h

module _ (w : Inside) (inv : IsBegun w) (r : Reserved) (found : IsFound w.ground r) (P : Action → Type 0) (acts : IsSomeAnd (acting (view_of w) r.thread) P) where
  pub act : SomeAct (acting (view_of w) r.thread) P
  act = some_act (acting (view_of w) r.thread) P acts

  parts : Acted w.ground.script w.limit w.ground.journal r.thread act.action
  parts = act_parts w.ground.script w.limit w.ground.journal r.thread act.action act.is

  pub same_action : act.action ≡ r.action
  same_action = let both : ◌≡◌ {A = Option Action} (Some act.action) (Some r.action) = sym parts.next ∙ found.acts.next in cc

  pub acts_so : P r.action
  acts_so = subst P same_action act.holds

  pub acting_is : acting (view_of w) r.thread ≡ Some r.action
  acting_is = act.is ∙ ap (λ (a : Action). Some a) same_action

  pub below_limit : length w.ground.journal < w.limit
  below_limit = parts.below

  module _ (w' : Inside) (limit : w'.limit ≡ w.limit) (gone : HasGone r w.ground w'.ground w'.frames.items) (none : w'.has_room ≡ false)
      (gained_room : 2 ≤ vec_capacity w'.gained) (list_room : 2 ≤ vec_capacity w'.list) where
    longer : length w'.ground.journal ≡ length w.ground.journal + 1
    longer = ap length gone.entered.journal ∙ length-append w.ground.journal (entry_of w.ground.script r.thread (state_of w.ground) r.action ∷ [])

    pub begun_after : IsBegun w'
    begun_after = record {
      frames = gone.frames;
      within = omega (arith, longer, below_limit, limit);
      most = omega (arith, inv.most, limit);
      room = omega (arith, longer, inv.room, limit, gone.entered.room);
      gained_room = gained_room;
      list_room = list_room;
      reserved = subst (λ (b : Bool). ReservedIf w'.ground w'.frames.items (cond b (Some w'.reserved) None)) (sym none) tt;
      lists = subst (λ (b : Bool). ListsFit w'.ground w'.frames.items (vec_capacity w'.gained) (vec_capacity w'.list) (cond b (Some w'.reserved) None)) (sym none) tt;
    }

    now_is : view_of w' ≡ record { script = Some w'.ground.script; limit = w.limit; journal = w'.ground.journal; gained = w'.gained.items; room = None }
    now_is =
        ap (λ (b : Bool). record { script = Some w'.ground.script; limit = w'.limit; journal = w'.ground.journal; gained = w'.gained.items; room = option_map thread_of (cond b (Some w'.reserved) None) }) none
        ∙ ap (λ (n : ℕ). record { script = Some w'.ground.script; limit = n; journal = w'.ground.journal; gained = w'.gained.items; room = None }) limit

    gains_same : gained_in w.ground r.thread ≡ gained_by (flow_in w.ground.script r.thread (state_of w.ground) r.action)
    gains_same = ap gained_by (sym ((next_steps w.ground r.thread r.action found.runs found.acts).flow w.ground.script r.thread (state_of w.ground)))

    pub applied_view : w'.gained.items ≡ gained_in w.ground r.thread → view_of w' ≡ applied r.thread (view_of w)
    applied_view gains =
        now_is
        ∙ view_same w'.ground.script w.ground.script w.limit w'.ground.journal _ w'.gained.items _ gone.entered.script gone.entered.journal (gains ∙ gains_same)
        ∙ sym (ap (λ (o : Option Action). entered_by (Some w.ground.script) o r.thread (λ before gained. gained) (view_of w)) acting_is)

    pub entered_view : w'.gained.items ≡ w.gained.items → view_of w' ≡ entered r.thread (view_of w)
    entered_view same =
        now_is
        ∙ view_same w'.ground.script w.ground.script w.limit w'.ground.journal _ w'.gained.items _ gone.entered.script gone.entered.journal same
        ∙ sym (ap (λ (o : Option Action). entered_by (Some w.ground.script) o r.thread (λ before gained. before) (view_of w)) acting_is)

-- ---- what room was made for

has_room_by : (b : Bool) (r : Reserved) (t : ℕ) → option_map thread_of (cond b (Some r) None) ≡ Some t
    → cond b (Some r) None ≡ Some r
has_room_by true r t e = refl
has_room_by false r t e = absurd cc

-- there is room for what was found last, where callers see that there is room
pub room_here : (w : Inside) (now : WorldView) (t : ℕ) → view_of w ≡ now → now.room ≡ Some t
    → reserved_of w ≡ Some w.reserved
room_here w now t is room = has_room_by w.has_room w.reserved t (ap (λ (v : WorldView). v.room) is ∙ room)

-- ---- the same for the thread that callers name

module _ (w : Inside) (now : WorldView) (t : ℕ) (is : view_of w ≡ now) (inv : IsBegun w) (r : Reserved) where
  -- the action that may be done is that of the thread
  pub acts_here : (P : Action → Type 0) → r.thread ≡ t → IsSomeAnd (acting now t) P
      → IsSomeAnd (acting (view_of w) r.thread) P
  acts_here P same acts = subst (λ (v : WorldView). IsSomeAnd (acting v r.thread) P) (sym is) (subst (λ (u : ℕ). IsSomeAnd (acting now u) P) (sym same) acts)

  pub thread_here : reserved_of w ≡ Some r → now.room ≡ Some t → r.thread ≡ t
  thread_here e room = thread_is (reserved_of w) r t e (ap (λ (v : WorldView). v.room) is ∙ room)

  pub reserved_here : reserved_of w ≡ Some r → IsReserved w.ground w.frames.items r
  reserved_here e = reserved_is w.ground w.frames.items (reserved_of w) r e inv.reserved

  pub applied_here : (v : WorldView) → r.thread ≡ t → v ≡ applied r.thread (view_of w) → v ≡ applied t now
  applied_here v same e = e ∙ ap (λ (u : ℕ). applied u (view_of w)) same ∙ ap (applied t) is

  pub entered_here : (v : WorldView) → r.thread ≡ t → v ≡ entered r.thread (view_of w) → v ≡ entered t now
  entered_here v same e = e ∙ ap (λ (u : ℕ). entered u (view_of w)) same ∙ ap (entered t) is
