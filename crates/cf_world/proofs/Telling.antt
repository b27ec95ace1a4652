-- What a ground tells is what the state after its journal says.
use Rattle.std.proofs.Common.{◌≡◌, ℕ, zero, suc, ◌+◌, ◌-◌, ◌<◌, ◌∙◌, List, [], ◌∷◌, ◌++◌, length, map, get_or, Result, Ok, Err, Option, Some, None, refl, sym, ap, subst, ◌==◌, arith}
use Rattle.std.specs.Prelude.{slice_get, slice_index_or, IfSome, OnOk}
use Rattle.std.specs.Option.{option_map}
use Rattle.std.specs.List.{range_with_len}
use Rattle.std.proofs.lemmas.List.{length-map, map-append}
use Rattle.std.proofs.lemmas.List.FromFn.{map-range_with_len_more}
use Rattle.cf_syntax.specs.declared.statement.Statement.{Statement}
use Rattle.cf_contents.specs.Contents.{Content, item_content, Object}
use Rattle.cf_contents.specs.Deeds.{deed_at, first_of}
use Rattle.cf_body.specs.Items.{ItemView, item_in, seen_of}
use Rattle.cf_body.specs.declared.item.LoopItem.{LoopItem}
use Rattle.cf_store.specs.Sources.{item_at}
use Rattle.cf_contents.specs.Stores.{objects_of, Held, MayGrow, Ready, ready_deed}
use Rattle.cf_model.specs.declared.entry.Entry.{Entry}
use Rattle.cf_model.specs.State.{State, Parts, flags_at, flags_of as fresh_flags}
use Rattle.cf_model.specs.Things.{Thing, thing_in, thing_of, thing_at}
use Rattle.cf_model.specs.Known.{receiver_in}
use Rattle.cf_model.specs.Journals.{After}
use Rattle.cf_model.proofs.Adding.{are_few}
use Rattle.cf_model.proofs.Numbering.{numbered_along}
use Rattle.cf_syntax.proofs.BlockLaws.{owned_fits}
use Rattle.cf_scene.specs.declared.flags.Flags.{Flags}
use Rattle.cf_world.specs.declared.ground.Ground.TheInside.{Inside}
use Rattle.cf_world.specs.Grounds.{IsGround, deed_of, flags_of}
use Rattle.cf_world.specs.Entering.{IsLastAnswer}

-- ---- items

-- an item as the state has it
abbrev pub thing_of_view : ItemView → Thing
thing_of_view x = record { handler = x.handler; info = x.info; valid = x.valid; item = x.item }

in_content : (c : Content) → thing_in c ≡ option_map thing_of_view (item_in c)
in_content (item_content handler info valid item) = refl
in_content _ = refl

among_bodies : (bodies : List Held) (i : ℕ)
    → thing_of (slice_get (objects_of bodies) i) ≡ option_map thing_of_view (item_at bodies i)
among_bodies [] i = refl
among_bodies (h ∷ hs) zero = in_content h.object.content
among_bodies (h ∷ hs) (suc i) = among_bodies hs i

-- ---- facts

module _ (g : Inside) (inv : IsGround g) where
  abbrev state : State
  state = After g.script g.journal.items

  pub thing_told : (i : ℕ) → thing_at state.parts i ≡ option_map thing_of_view (item_at g.store.bodies i)
  thing_told i =
      ap (λ (obs : List Object). thing_of (slice_get obs i)) (sym inv.follows.mirrors.objects_are) ∙ among_bodies g.store.bodies i

  pub item_told : (i : ℕ) (item : LoopItem) → option_map seen_of (Some item) ≡ item_at g.store.bodies i
      → thing_at state.parts i ≡ Some (thing_of_view (seen_of item))
  item_told i item e = thing_told i ∙ ap (option_map thing_of_view) (sym e)

  pub no_item_told : (i : ℕ) → ◌≡◌ {A = Option ItemView} None (item_at g.store.bodies i) → thing_at state.parts i ≡ None
  no_item_told i e = thing_told i ∙ ap (option_map thing_of_view) (sym e)

-- nothing is registered, and so nobody receives
pub no_receiver : (p : Parts) (r : ℕ) → p.registrations ≡ []
    → None ≡ receiver_in p (slice_index_or p.registrations r None)
no_receiver p r e = sym (ap (receiver_in p) (ap (λ rs. slice_index_or rs r None) e ∙ no_row r))
  where
    no_row : {A : Type 0} (n : ℕ) → slice_index_or {A = Option A} [] n None ≡ None
    no_row zero = refl
    no_row (suc n) = refl

-- ---- flags, and the deed that is ready

flags_in : (fs : List Flags) (t : ℕ) (f : Flags) → t < length fs → f ≡ get_or fs t f
    → flags_of f ≡ flags_at t (map flags_of fs)
flags_in [] t f within is = absurd (omega (arith, within))
flags_in (x ∷ fs) zero f within is = ap flags_of is
flags_in (x ∷ fs) (suc t) f within is = flags_in fs t f (omega (arith, within)) is

module _ (g : Inside) (inv : IsGround g) where
  abbrev st : State
  st = After g.script g.journal.items

  pub may_grow : MayGrow g.store.bodies
  may_grow = (are_few g.script g.journal.items).grow g.store.bodies inv.follows.mirrors.objects_are inv.short

  pub flags_count : length g.flags.items ≡ g.script.thread_count
  flags_count = sym (length-map g.flags.items flags_of) ∙ ap length inv.follows.flags_are ∙ (numbered_along g.script g.journal.items (owned_fits g.script inv.script.owned)).flags

  pub flags_told : (t : ℕ) (f : Flags) → t < length g.flags.items → f ≡ get_or g.flags.items t f
      → flags_of f ≡ flags_at t st.parts.flags
  flags_told t f within is = flags_in g.flags.items t f within is ∙ ap (flags_at t) inv.follows.flags_are

  -- ---- the deed that is ready

  pub ready_told : {T E : Type 0} (result : Result T E) (ready : Option Ready) (found : Option Statement)
      (x : Statement) (used : List (Option ℕ)) → found ≡ Some x
      → OnOk result (ready ≡ Some (ready_deed g.script.classes g.store.bodies x used)) → OnOk result (IfSome found (λ (y : Statement). ready ≡ Some (deed_of g.script st y used)))
  ready_told (Err e) ready found x used is h = tt
  ready_told (Ok v) ready found x used is h =
      subst (λ (q : Option Statement). IfSome q (λ (y : Statement). ready ≡ Some (deed_of g.script st y used))) (sym is)
      (h ∙ ap (λ (obs : List Object). Some (record { object = first_of used; deed = deed_at g.script.classes obs x used })) inv.follows.mirrors.objects_are)

-- ---- the flags at the start

pub flags_push : (fs : List Flags) (t : ℕ) (f : Flags)
    → map flags_of fs ≡ map (λ u. fresh_flags (u == 0)) (range_with_len 0 t) → flags_of f ≡ fresh_flags (t == 0)
    → map flags_of (fs ++ f ∷ []) ≡ map (λ u. fresh_flags (u == 0)) (range_with_len 0 (t + 1))
flags_push fs t f h e =
    map-append flags_of fs (f ∷ []) ∙ ap (λ xs. xs ++ flags_of f ∷ []) h ∙ ap (λ x. map (λ u. fresh_flags (u == 0)) (range_with_len 0 t) ++ x ∷ []) e
    ∙ sym (map-range_with_len_more (λ u. fresh_flags (u == 0)) 0 t t (omega arith))

-- ---- the last entry

last_at : (es : List Entry) (n : ℕ) (e : Entry) → n + 1 ≡ length es → slice_get es n ≡ Some e
    → IsLastAnswer es (Some e.answer)
last_at [] n e q h = absurd (omega (arith, q))
last_at (x ∷ []) zero e q h = sym (ap (option_map (λ (y : Entry). y.answer)) h)
last_at (x ∷ []) (suc n) e q h = absurd (omega (arith, q))
last_at (x ∷ y ∷ es) zero e q h = absurd (omega (arith, q))
last_at (x ∷ y ∷ es) (suc n) e q h = last_at (y ∷ es) n e (omega (arith, q)) h

pub last_told : (es : List Entry) (e : Entry) → Some e ≡ slice_get es (length es - 1) → IsLastAnswer es (Some e.answer)
last_told [] e h = absurd cc
last_told (x ∷ es) e h = last_at (x ∷ es) (length (x ∷ es) - 1) e (omega arith) (sym h)
