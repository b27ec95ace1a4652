-- What entries tell that claim a place of a parcel, and that pack an object for one.
use Rattle.std.proofs.Common.{◌≡◌, ℕ, zero, suc, ◌<◌, ◌∙◌, List, [], ◌∷◌, ◌++◌, length, Option, Some, None, get_or, set, get_or-set_same, get_or-set_other, length-set, refl, sym, ap, subst, inl, inr}
use Rattle.std.specs.Prelude.{slice_get, option_to_list}
use Rattle.std.proofs.lemmas.Bool.Decides.{eqb_tells}
use Rattle.cf_ids.specs.declared.answer.Answer.TheVariants as answers
use Rattle.rl_modes.specs.Loops.{Loop}
use Rattle.cf_syntax.specs.declared.script.Script.{Script}
use Rattle.cf_syntax.specs.BlockLines.{BlockLine, begins, claims, packs, thread_block, uses_in, thread_lines, handler_lines, block_of_handler, statements_in}
use Rattle.cf_syntax.specs.Owned.{FitsByBlock}
use Rattle.cf_syntax.specs.Packs.{IsWithin}
use Rattle.cf_syntax.proofs.StageLaws.{said_lines}
use Rattle.cf_syntax.proofs.PackLaws.{threads_pack_nothing, packs_within, claims_within}
use Rattle.cf_graph.specs.Holders.{Holder, variable, parcel}
use Rattle.cf_graph.specs.Edges.{Reference, held_by}
use Rattle.cf_graph.specs.Flows.{grows, flowed}
use Rattle.cf_contents.specs.Stores.{Held}
use Rattle.cf_next.specs.Stands.{Work, Kind, of_block, of_handler, of_run, Frame}
use Rattle.cf_next.specs.Demands.{Demand, does, frame_lines}
use Rattle.cf_next.specs.Next.{object_at, top_frame}
use Rattle.cf_model.specs.State.{State, stand_at, first_held}
use Rattle.cf_model.specs.Known.{facts_of}
use Rattle.cf_model.specs.Own.{own_reference, moves_to}
use Rattle.cf_model.specs.Parcels.{HasOneAtMost}
use Rattle.cf_model.specs.Steps.{idle, flowing, claim_step, pack_step, packed_holder, step_of, frames_at, bindings_of, depth_of, demanded}
use Rattle.cf_model.specs.Journals.{MayTake, MayUseAll, takes, uses_if}
use Rattle.cf_model.proofs.FirstHeld.{parcel_other, parcel_apart, first_moved, first_moved_here}
use Rattle.cf_model.proofs.LegalSteps.{packed_is_own}
use Rattle.cf_model.proofs.OwnLaws.{IsOf, OwnIs, own_is}
use Rattle.cf_model.proofs.Parcels.{OwnBlocks}
use Rattle.cf_model.proofs.Using.{IsSound, demand_may}
use Rattle.cf_model.proofs.Views.{FrameView, StandView, WorkView, is_call, is_close, is_end, is_line, is_phase, is_return, first_drops, first_owes, first_spends, of_frame, of_work, stand_view}
use Rattle.cf_scene.specs.declared.flags.Flags.{Flags}
use Rattle.cf_world.specs.Grounds.{parcel_at, HasPlaces, Follows}
use Rattle.cf_world.specs.Entering.{answer_for, packed_rows}
use Rattle.cf_world.proofs.Passing.{KeepsLoops}
use Rattle.cf_world.proofs.Counting.{Enters, enters_by, grows_follows, quiet_follows}
use Rattle.cf_world.proofs.Cutting.{own_some, no_parcel}

-- ---- rows with something else at a place

-- the rows with something at a place of a thread's
abbrev pub rows_with : List (List (Option ℕ)) → (t k : ℕ) → Option ℕ → List (List (Option ℕ))
rows_with rows t k object = set rows t (set (get_or rows t []) k object)

module _ (rows : List (List (Option ℕ))) (t k : ℕ) (object : Option ℕ) (thread : t < length rows) where
  row_own : get_or (rows_with rows t k object) t [] ≡ set (get_or rows t []) k object
  row_own = get_or-set_same rows t (set (get_or rows t []) k object) [] thread

  row_other : (u : ℕ) → (t ≡ u → ⊥) → get_or (rows_with rows t k object) u [] ≡ get_or rows u []
  row_other u apart = get_or-set_other rows t u (set (get_or rows t []) k object) [] (λ e. apart (sym e))

  pub place_own : k < length (get_or rows t []) → parcel_at (rows_with rows t k object) t k ≡ object
  place_own place = ap (λ (row : List (Option ℕ)). get_or row k None) row_own ∙ get_or-set_same (get_or rows t []) k object None place

  pub place_other : (u m : ℕ) → (u ≡ t → m ≡ k → ⊥) → parcel_at (rows_with rows t k object) u m ≡ parcel_at rows u m
  place_other u m apart = elim (eqb_tells t u) [
    | inl e ↦ subst (λ (v : ℕ). parcel_at (rows_with rows t k object) v m ≡ parcel_at rows v m) e.1
        (ap (λ (row : List (Option ℕ)). get_or row m None) row_own ∙ get_or-set_other (get_or rows t []) k m object None (λ q. apart (sym e.1) q))
    | inr e ↦ ap (λ (row : List (Option ℕ)). get_or row m None) (row_other u e.1)
  ]

  pub places_kept : (s : Script) → HasPlaces s rows → HasPlaces s (rows_with rows t k object)
  places_kept s has = record {
    threads = length-set rows t (set (get_or rows t []) k object) ∙ has.threads;
    places = λ u lt. elim (eqb_tells t u) [
      | inl e ↦ subst (λ (v : ℕ). v < s.thread_count → length (get_or (rows_with rows t k object) v []) ≡ length (uses_in (thread_block s v))) e.1
          (λ at. ap length row_own ∙ length-set (get_or rows t []) k object ∙ has.places t at) lt
      | inr e ↦ ap length (row_other u e.1) ∙ has.places u lt
    ];
  }

-- ---- the lines of parcels

module _ (s : Script) (t : ℕ) (st : State) (blocks : OwnBlocks t (frames_at t st)) where
  abbrev IsLineAt : BlockLine → Type 0
  IsLineAt x = (n : ℕ) × (slice_get (thread_lines s t) n ≡ Some x)

  abbrev line_of : Demand → Option BlockLine
  line_of (does y) = Some y
  line_of _ = None

  line_same : (x y : BlockLine) → ◌≡◌ {A = Option BlockLine} (Some y) (Some x) → y ≡ x
  line_same x y e = cc

  -- a line that a handler has too is of none of these kinds
  abbrev IsOfThread : BlockLine → Type 0
  IsOfThread (claims k v) = Unit {0}
  IsOfThread (packs u k v) = Unit {0}
  IsOfThread _ = ⊥

  no_handler : (h n : ℕ) (x : BlockLine) → IsOfThread x → slice_get (handler_lines s h) n ≡ Some x → ⊥
  no_handler h zero x of e = first x of e
    where
      first : (x : BlockLine) → IsOfThread x → ◌≡◌ {A = Option BlockLine} (Some (begins 0)) (Some x) → ⊥
      first (claims k v) of e = cc
      first (packs u k v) of e = cc
      first _ of e = of
  no_handler h (suc n) x of e = said_lines (λ y. IsOfThread y → ⊥) (statements_in (block_of_handler s h)) (λ m y is. λ h. h) n x e of

  own_block : (f : Frame) (fs : List Frame) → OwnBlocks t (f ∷ fs) → f.kind ≡ of_block → f.block ≡ t
  own_block f fs own e = (rw e at own).0

  by_kind : (x : BlockLine) (k : Kind) (b n : ℕ) → IsOfThread x → (k ≡ of_block → b ≡ t)
      → slice_get (frame_lines s k b) n ≡ Some x → IsLineAt x
  by_kind x of_block b n of own at = (n, subst (λ (c : ℕ). slice_get (thread_lines s c) n ≡ Some x) (own refl) at)
  by_kind x (of_handler k) b n of own at = absurd (no_handler b n x of at)
  by_kind x (of_run r) b n of own at = absurd cc

  by_frame : (x : BlockLine) (f : Frame) (d : Demand) → IsOfThread x → (f.kind ≡ of_block → f.block ≡ t) → line_of d ≡ Some x
      → FrameView s (facts_of st) t f d → IsLineAt x
  by_frame x f _ of own e (is_line y at) =
      by_kind x f.kind f.block f.number of own (at ∙ e)
  by_frame x f _ of own e (is_call k called found) = absurd cc
  by_frame x f _ of own e (is_end k) = absurd cc
  by_frame x f _ of own e (is_return k q end) = absurd cc
  by_frame x f _ of own e (is_phase r p q) = absurd cc
  by_frame x f _ of own e (is_close r q) = absurd cc

  by_work : (x : BlockLine) (work : List Work) (d : Demand) → line_of d ≡ Some x → WorkView (facts_of st) work d
      → IsLineAt x
  by_work x work _ e (first_owes p first) = absurd cc
  by_work x work _ e (first_spends i first) = absurd cc
  by_work x work _ e (first_drops b k p left first) = absurd cc

  by_stand : (x : BlockLine) (d : Demand) → IsOfThread x → line_of d ≡ Some x
      → StandView s (facts_of st) t (stand_at t st.stands) d → IsLineAt x
  by_stand x d of e (of_work w view) = by_work x (stand_at t st.stands).work d e view
  by_stand x d of e (of_frame f fs w q view) = by_frame x f d of (own_block f fs (subst (OwnBlocks t) q blocks)) e view

  -- a line that a thread demands is one of its block
  pub line_at : (x : BlockLine) → IsOfThread x → demanded s st t ≡ Some (does x) → IsLineAt x
  line_at x of e = by_stand x (does x) of refl (stand_view s (facts_of st) t (stand_at t st.stands) (does x) e)

  setup_packs : (u k : ℕ) (v : Option ℕ) (w n : ℕ) → slice_get (thread_lines s w) n ≡ Some (packs u k v)
      → IsWithin s u k
  setup_packs u k v zero n at = packs_within s n u k v at
  setup_packs u k v (suc w) n at = absurd (threads_pack_nothing s w n (packs u k v) at)

  pub pack_within : (u k : ℕ) (v : Option ℕ) → demanded s st t ≡ Some (does (packs u k v)) → IsWithin s u k
  pack_within u k v e = let at = line_at (packs u k v) tt e in setup_packs u k v t at.0 at.1

  pub claim_within : (k v : ℕ) → demanded s st t ≡ Some (does (claims k v)) → k < length (uses_in (thread_block s t))
  claim_within k v e = let at = line_at (claims k v) tt e in claims_within s t at.0 k v at.1

-- ---- what a claim and a pack leave

module _ (s : Script) (t : ℕ) (st : State) (bodies : List Held) (rows : List (List (Option ℕ))) (flags : List Flags) (time : ℕ) (loops : List Loop) (h : Follows s st bodies rows flags time loops) (keeps : KeepsLoops s t st loops) where
  -- a place of a parcel, and what it has after an entry
  at_place : (u k : ℕ) (object : Option ℕ) (edges : List Reference) → u < length rows → k < length (get_or rows u [])
      → first_held (parcel u k) edges ≡ object → ((v m : ℕ) → (v ≡ u → m ≡ k → ⊥) → first_held (parcel v m) edges ≡ first_held (parcel v m) st.edges)
      → (v m : ℕ) → parcel_at (rows_with rows u k object) v m ≡ first_held (parcel v m) edges
  at_place u k object edges thread place own others v m = elim (eqb_tells u v) [
    | inl e ↦ elim (eqb_tells k m) [
      | inl q ↦ subst (λ (w : ℕ). parcel_at (rows_with rows u k object) w m ≡ first_held (parcel w m) edges) e.1
          (subst (λ (n : ℕ). parcel_at (rows_with rows u k object) u n ≡ first_held (parcel u n) edges) q.1 (place_own rows u k object thread place ∙ sym own))
      | inr q ↦ apart (λ a b. q.1 (sym b))
    ]
    | inr e ↦ apart (λ a b. e.1 (sym a))
  ]
    where
      apart : (v ≡ u → m ≡ k → ⊥) → parcel_at (rows_with rows u k object) v m ≡ first_held (parcel v m) edges
      apart not = place_other rows u k object thread v m not ∙ h.parcels_are.at v m ∙ sym (others v m not)

  module _ (k v : ℕ) (e : demanded s st t ≡ Some (does (claims k v))) (thread : t < s.thread_count) (place : k < length (uses_in (thread_block s t))) (one_at_most : HasOneAtMost (parcel t k) st.edges) where
    abbrev to : Holder
    to = variable t (depth_of (frames_at t st)) v

    has_thread : t < length rows
    has_thread = subst (λ (n : ℕ). t < n) (sym h.parcels_are.has.threads) thread

    has_place : k < length (get_or rows t [])
    has_place = subst (λ (n : ℕ). k < n) (sym (h.parcels_are.has.places t thread)) place

    claimed : (object : Option ℕ) → first_held (parcel t k) st.edges ≡ object
        → Enters s t st (answer_for object) [] bodies (rows_with rows t k None) flags time loops
    claimed None none =
        let is = ap (λ (o : Option ℕ). claim_step st (parcel t k) o to) none in
        enters_by s t st (does (claims k v)) (idle st answers.Skip) answers.Skip bodies (rows_with rows t k None) flags time loops e is refl
        (grows_follows s t st bodies rows flags time loops h keeps (does (claims k v)) answers.Skip [] [] (rows_with rows t k None) e tt is (places_kept rows t k None has_thread s h.parcels_are.has)
        (at_place t k None st.edges has_thread has_place none (λ u m apart. refl)))
    claimed (Some o) found =
        let is = ap (λ (p : Option ℕ). claim_step st (parcel t k) p to) found in
        let moves = moves_to to (held_by (parcel t k) o ∷ []) in
        enters_by s t st (does (claims k v)) (flowing st answers.Ok (grows [] moves)) answers.Ok bodies (rows_with rows t k None) flags time loops e is refl
        (grows_follows s t st bodies rows flags time loops h keeps (does (claims k v)) answers.Ok [] moves (rows_with rows t k None) e tt is (places_kept rows t k None has_thread s h.parcels_are.has)
        (at_place t k None (flowed (grows [] moves) st.edges) has_thread has_place (one_at_most.gone o found)
        (λ u m apart. first_moved (parcel u m) (held_by (parcel t k) o) to st.edges (parcel_apart u m t k apart) refl)))

    pub claim_enters : Enters s t st (answer_for (parcel_at rows t k)) [] bodies (rows_with rows t k None) flags time loops
    claim_enters = subst (λ (o : Option ℕ). Enters s t st (answer_for o) [] bodies (rows_with rows t k None) flags time loops) (sym (h.parcels_are.at t k)) (claimed (first_held (parcel t k) st.edges) refl)

  module _ (u k : ℕ) (v : Option ℕ) (e : demanded s st t ≡ Some (does (packs u k v))) (within : IsWithin s u k) (own : FitsByBlock s) (is_sound : IsSound s st) where
    abbrev from : Holder
    from = packed_holder t (depth_of (frames_at t st)) v

    has_row : u < length rows
    has_row = subst (λ (n : ℕ). u < n) (sym h.parcels_are.has.threads) within.thread

    has_word : k < length (get_or rows u [])
    has_word = subst (λ (n : ℕ). k < n) (sym (h.parcels_are.has.places u within.thread)) within.place

    top_bindings : (fs : List Frame) → (top_frame fs).bindings ≡ bindings_of fs
    top_bindings [] = refl
    top_bindings (f ∷ fs) = refl

    pack_may : (o : ℕ) → object_at (bindings_of (frames_at t st)) v ≡ Some o → MayTake st t o
    pack_may o is =
        (subst (λ (q : Option ℕ). MayUseAll st t [] (uses_if takes q)) (ap (λ bs. object_at bs v) (top_bindings (frames_at t st)) ∙ is)
        (demand_may s t st is_sound own (does (packs u k v)) e)).0

    packed : (object : Option ℕ) → object_at (bindings_of (frames_at t st)) v ≡ object
        → Enters s t st (answer_for object) [] bodies (packed_rows rows u k object) flags time loops
    packed None none =
        let is = ap (λ (o : Option ℕ). pack_step t st from o (parcel u k)) none in
        enters_by s t st (does (packs u k v)) (idle st answers.Skip) answers.Skip bodies rows flags time loops e is refl
        (quiet_follows s t st bodies rows flags time loops h keeps (does (packs u k v)) answers.Skip [] [] e tt is (λ w m. tt))
    packed (Some o) found =
        let may = pack_may o found in
        let of : IsOf t from = packed_is_own t (depth_of (frames_at t st)) v in
        let q = own_some t from o st.edges may.edge in
        let has : OwnIs t o st.edges q.0 = own_is t from o st.edges q.0 of q.1 in
        let r : Reference = held_by q.0.holder o in
        let reference : own_reference t from o st.edges ≡ Some r = q.1 ∙ ap (λ (n : ℕ). Some (held_by q.0.holder n)) has.object in
        let moves = moves_to (parcel u k) (r ∷ []) in
        let is : step_of s t st (frames_at t st) (does (packs u k v)) ≡ flowing st answers.Ok (grows [] moves) =
        ap (λ (p : Option ℕ). pack_step t st from p (parcel u k)) found
        ∙ ap (λ (p : Option Reference). flowing st answers.Ok (grows [] (moves_to (parcel u k) (option_to_list p ++ [])))) reference in
        let other = no_parcel t q.0.holder has.thread in
        enters_by s t st (does (packs u k v)) (flowing st answers.Ok (grows [] moves)) answers.Ok bodies (rows_with rows u k (Some o)) flags time loops e is refl
        (grows_follows s t st bodies rows flags time loops h keeps (does (packs u k v)) answers.Ok [] moves (rows_with rows u k (Some o)) e tt is (places_kept rows u k (Some o) has_row s h.parcels_are.has)
        (at_place u k (Some o) (flowed (grows [] moves) st.edges) has_row has_word (first_moved_here (parcel u k) r st.edges)
        (λ w m apart. first_moved (parcel w m) r (parcel u k) st.edges (parcel_other w m q.0.holder other) (parcel_apart w m u k apart))))

    pub pack_enters : (object : Option ℕ) → object_at (bindings_of (frames_at t st)) v ≡ object
        → Enters s t st (answer_for object) [] bodies (packed_rows rows u k object) flags time loops
    pack_enters object is = packed object is
