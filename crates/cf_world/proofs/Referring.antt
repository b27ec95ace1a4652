-- The references by the parts of a world are those of the state, each as often.
use Rattle.std.proofs.Common.{◌≡◌, ℕ, zero, suc, ◌+◌, ◌<◌, ◌≤◌, Bool, List, [], ◌∷◌, ◌++◌, length, map, drop, Option, Some, None, refl, sym, ap, ◌∙◌, subst, arith, inl, inr}
use Rattle.std.specs.Prelude.{slice_get, slice_index_or, count_by, option_to_list}
use Rattle.std.proofs.lemmas.List.{length-map, map-append}
use Rattle.std.proofs.lemmas.Bool.{cases_lt}
use Rattle.std.specs.Option.{option_map}
use Rattle.cf_syntax.specs.declared.script.Script.{Script}
use Rattle.cf_graph.specs.declared.edge.Edge.{Edge}
use Rattle.cf_graph.specs.Holders.{Holder, variable, callout, owed, parcel, slot, in_mode, in_common}
use Rattle.cf_graph.specs.Edges.{Reference, edge_of, edges_of, held_by, held_if, weigh, one}
use Rattle.cf_graph.proofs.Counts.{weigh-append}
use Rattle.cf_graph.proofs.Degrees.{same_counts}
use Rattle.cf_graph.proofs.Flows.{own_weigh, other_weigh}
use Rattle.cf_contents.specs.Contents.{Object, slots_in, slots_at, times}
use Rattle.cf_contents.specs.Stores.{Held, left_in, left_to, given_up_by}
use Rattle.cf_contents.proofs.BodyLaws.{get-map, length-objects}
use Rattle.cf_next.specs.Stands.{Stand}
use Rattle.cf_next.specs.Standing.{Standing}
use Rattle.cf_next.specs.Held.{HasVariables, below}
use Rattle.cf_next.proofs.HeldLaws.{below-none}
use Rattle.cf_model.specs.State.{State, Parts, blank, stand_at, left_of}
use Rattle.cf_model.specs.declared.entry.Entry.{Entry}
use Rattle.cf_model.specs.Journals.{After, IsLegal}
use Rattle.cf_model.specs.Parcels.{HasOneAtMost}
use Rattle.cf_loops.specs.Following.{IsPlaceOfLoop, SamePlaces}
use Rattle.cf_model.specs.Tokens.{HeldAsTold, owed_in, frames_hold, callouts_hold}
use Rattle.cf_model.proofs.Places.{kinds_apart, held_objects as times-held}
use Rattle.cf_model.proofs.Limiting.{few_of_legal}
use Rattle.cf_model.proofs.Parcels.{parcels_one}
use Rattle.cf_model.proofs.Sound.{sound}
use Rattle.cf_world.specs.Begun.{AreFrames, IsBegun, view_of}
use Rattle.cf_world.specs.declared.begun.Begun.TheInside.{Inside}
use Rattle.cf_world.specs.Worlds.{edges_in}
use Rattle.cf_world.specs.Grounds.{MayRun, Mirrors, HoldsParcels, parcel_at}
use Rattle.cf_world.specs.Referring.{AddsGround, AllHaveVariables, parcel_references, place_references, slot_references, stand_references, stands_of}
use Rattle.cf_world.proofs.Weighing.{weigh-below-none, weigh-below, parcel-weigh, variable_parts, owed_part, slot_part, parcel_part, callout_parts, thread-none, thread-variable, thread-callout, thread-owed}

-- ---- bodies

drop-none : (n : ℕ) → ◌≡◌ {A = List ℕ} (drop n []) []
drop-none zero = refl
drop-none (suc n) = refl

left_is : (bodies : List Held) (o : ℕ) (n : ℕ) (h : Option Held) → slice_get bodies o ≡ h → given_up_by h ≡ n
    → left_to h ≡ drop n (slots_at (option_map (λ (b : Held). b.object) h))
left_is bodies o n None e g = sym (drop-none n)
left_is bodies o n (Some h) e g = ap (λ (k : ℕ). drop k (slots_in h.object.content)) g

left-mirrors : (p : Parts) (bodies : List Held) (o : ℕ) → Mirrors p bodies
    → left_in bodies o ≡ left_of p.objects p.dropped o
left-mirrors p bodies o h =
    left_is bodies o (times o p.dropped) (slice_get bodies o) refl (h.given_up o)
    ∙ ap (λ (ob : Option Object). drop (times o p.dropped) (slots_at ob)) (sym (get-map bodies o) ∙ ap (λ (os : List Object). slice_get os o) h.objects_are)

none_made : (bodies : List Held) (b : ℕ) → length bodies ≤ b → slice_get bodies b ≡ None
none_made [] b le = refl
none_made (x ∷ xs) zero le = absurd (omega arith)
none_made (x ∷ xs) (suc b) le = none_made xs b (omega (arith, le))

no_row : (rows : List (List (Option ℕ))) (t : ℕ) → length rows ≤ t → slice_index_or rows t [] ≡ []
no_row [] t le = refl
no_row (x ∷ xs) zero le = absurd (omega arith)
no_row (x ∷ xs) (suc t) le = no_row xs t (omega (arith, le))

no_place : (row : List (Option ℕ)) (k : ℕ) → length row ≤ k → slice_index_or row k None ≡ None
no_place [] k le = refl
no_place (x ∷ xs) zero le = absurd (omega arith)
no_place (x ∷ xs) (suc k) le = no_place xs k (omega (arith, le))

no_stand : (stands : List Stand) (t : ℕ) → length stands ≤ t → stand_at t stands ≡ blank
no_stand [] zero le = refl
no_stand [] (suc t) le = refl
no_stand (x ∷ xs) zero le = absurd (omega arith)
no_stand (x ∷ xs) (suc t) le = no_stand xs t (omega (arith, le))

-- ---- loops

-- references of modes and common items, each as often as it is there, and no others
pub record AreOfLoops (es of_loops : List Reference) : Type 0 where
  pub modes : (t m o : ℕ) → weigh (one (held_by (in_mode t m) o)) of_loops ≡ weigh (one (held_by (in_mode t m) o)) es
  pub common_items : (t o : ℕ)
      → weigh (one (held_by (in_common t) o)) of_loops ≡ weigh (one (held_by (in_common t) o)) es
  pub others : (r : Reference) → ((t m : ℕ) → r.holder ≡ in_mode t m → ⊥) → ((t : ℕ) → r.holder ≡ in_common t → ⊥)
      → weigh (one r) of_loops ≡ 0

-- what has as many references of each place of a loop, and no others, has those of loops
of_places : (es of_loops : List Reference) → SamePlaces es of_loops
    → ((r : Reference) → (IsPlaceOfLoop r.holder → ⊥) → weigh (one r) of_loops ≡ 0) → AreOfLoops es of_loops
of_places es of_loops same none = record {
  modes = λ t m o. same (held_by (in_mode t m) o) tt;
  common_items = λ t o. same (held_by (in_common t) o) tt;
  others = λ r modes commons. none r (by r.holder modes commons);
}
  where
    by : (h : Holder) → ((t m : ℕ) → h ≡ in_mode t m → ⊥) → ((t : ℕ) → h ≡ in_common t → ⊥) → IsPlaceOfLoop h → ⊥
    by (in_mode t m) a b p = a t m refl
    by (in_common t) a b p = b t refl
    by (variable t d v) a b p = p
    by (callout t d) a b p = p
    by (owed t) a b p = p
    by (parcel t k) a b p = p
    by (slot c) a b p = p

-- ---- all of them

module _ (s : Script) (st : State) (rows : List (List (Option ℕ))) (bodies : List Held) (of_loops : List Reference) (held : HeldAsTold s st) (count : length st.stands ≡ s.thread_count) (single : (t k : ℕ) → HasOneAtMost (parcel t k) st.edges) (mirrors : Mirrors st.parts bodies) (parcels : HoldsParcels s st rows) (loops : AreOfLoops st.edges of_loops) (few : (t : ℕ) → t < s.thread_count → HasVariables (stand_at t st.stands).frames) where
  abbrev of_threads : List Reference
  of_threads = below (stand_references s st.stands) s.thread_count

  abbrev of_parcels : List Reference
  of_parcels = below (parcel_references rows) (length rows)

  abbrev of_slots : List Reference
  of_slots = below (slot_references bodies) (length bodies)

  abbrev all : List Reference
  all = ((of_threads ++ of_parcels) ++ of_slots) ++ of_loops

  weigh-all : (w : Reference → ℕ)
      → weigh w all ≡ weigh w of_threads + weigh w of_parcels + weigh w of_slots + weigh w of_loops
  weigh-all w =
      omega (arith, weigh-append w ((of_threads ++ of_parcels) ++ of_slots) of_loops, weigh-append w (of_threads ++ of_parcels) of_slots, weigh-append w of_threads of_parcels)

  no_threads : (r : Reference) → ((t d v : ℕ) → r.holder ≡ variable t d v → ⊥)
      → ((t d : ℕ) → r.holder ≡ callout t d → ⊥) → ((t : ℕ) → r.holder ≡ owed t → ⊥) → weigh (one r) of_threads ≡ 0
  no_threads r a b c = weigh-below-none (one r) (stand_references s st.stands) s.thread_count (λ t. thread-none s r t (stand_at t st.stands) (a t) (b t) (c t))

  places-none : (r : Reference) (t : ℕ) → ((k : ℕ) → r.holder ≡ parcel t k → ⊥)
      → weigh (one r) (parcel_references rows t) ≡ 0
  places-none r t h =
      weigh-below-none (one r) (place_references rows t) (length (slice_index_or rows t [])) (λ k. other_weigh r (parcel t k) (option_to_list (parcel_at rows t k)) (h k))

  no_parcels : (r : Reference) → ((t k : ℕ) → r.holder ≡ parcel t k → ⊥) → weigh (one r) of_parcels ≡ 0
  no_parcels r h = weigh-below-none (one r) (parcel_references rows) (length rows) (λ t. places-none r t (h t))

  no_slots : (r : Reference) → ((b : ℕ) → r.holder ≡ slot b → ⊥) → weigh (one r) of_slots ≡ 0
  no_slots r h = weigh-below-none (one r) (slot_references bodies) (length bodies) (λ b. other_weigh r (slot b) (left_in bodies b) (h b))

  gone : (t : ℕ) → s.thread_count ≤ t → stand_at t st.stands ≡ blank
  gone t le = no_stand st.stands t (omega (arith, le, count))

  small : (t : ℕ) → HasVariables (stand_at t st.stands).frames
  small t = elim (cases_lt t s.thread_count) [
    | inl lt ↦ few t lt
    | inr le ↦ subst (λ (x : Stand). HasVariables x.frames) (sym (gone t le)) (λ d v lt le. refl)
  ]

  no_frame : (t d v o : ℕ) → s.thread_count ≤ t → frames_hold s (stand_at t st.stands).frames d v o ≡ 0
  no_frame t d v o le = ap (λ (x : Stand). frames_hold s x.frames d v o) (gone t le)

  no_callout : (t d o : ℕ) → s.thread_count ≤ t → callouts_hold (stand_at t st.stands).frames d o ≡ 0
  no_callout t d o le = ap (λ (x : Stand). callouts_hold x.frames d o) (gone t le)

  no_work : (t o : ℕ) → s.thread_count ≤ t → owed_in o (stand_at t st.stands).work ≡ 0
  no_work t o le = ap (λ (x : Stand). owed_in o x.work) (gone t le)

  own_variable : (t d v o : ℕ)
      → weigh (one (held_by (variable t d v) o)) of_threads ≡ frames_hold s (stand_at t st.stands).frames d v o
  own_variable t d v o =
      let r = held_by (variable t d v) o in
      let here = thread-variable s t d v o (stand_at t st.stands) (small t) in
      weigh-below (one r) (stand_references s st.stands) s.thread_count t
      (λ i apart. thread-none s r i (stand_at i st.stands) (λ e w q. apart (sym (variable_parts t d v i e w q).0)) (λ e. kinds_apart (variable t d v) (callout i e) refl) (kinds_apart (variable t d v) (owed i) refl))
      (λ le. here ∙ no_frame t d v o le)
      ∙ here

  own_callout : (t d o : ℕ)
      → weigh (one (held_by (callout t d) o)) of_threads ≡ callouts_hold (stand_at t st.stands).frames d o
  own_callout t d o =
      let r = held_by (callout t d) o in
      let here = thread-callout s t d o (stand_at t st.stands) in
      weigh-below (one r) (stand_references s st.stands) s.thread_count t
      (λ i apart. thread-none s r i (stand_at i st.stands) (λ e w. kinds_apart (callout t d) (variable i e w) refl) (λ e q. apart (sym (callout_parts t d i e q).0)) (kinds_apart (callout t d) (owed i) refl))
      (λ le. here ∙ no_callout t d o le)
      ∙ here

  own_owed : (t o : ℕ) → weigh (one (held_by (owed t) o)) of_threads ≡ owed_in o (stand_at t st.stands).work
  own_owed t o =
      let r = held_by (owed t) o in
      let here = thread-owed s t o (stand_at t st.stands) in
      weigh-below (one r) (stand_references s st.stands) s.thread_count t
      (λ i apart. thread-none s r i (stand_at i st.stands) (λ e w. kinds_apart (owed t) (variable i e w) refl) (λ e. kinds_apart (owed t) (callout i e) refl) (λ q. apart (sym (owed_part t i q))))
      (λ le. here ∙ no_work t o le)
      ∙ here

  -- of a holder that is none of a parcel, a body or a loop the threads have all
  thread_alone : (r : Reference) (n : ℕ) → weigh (one r) of_threads ≡ n → ((t k : ℕ) → r.holder ≡ parcel t k → ⊥)
      → ((b : ℕ) → r.holder ≡ slot b → ⊥) → ((t m : ℕ) → r.holder ≡ in_mode t m → ⊥) → ((t : ℕ) → r.holder ≡ in_common t → ⊥) → weigh (one r) all ≡ n
  thread_alone r n is a b c d = omega (arith, weigh-all (one r), is, no_parcels r a, no_slots r b, loops.others r c d)

  variable_same : (t d v o : ℕ)
      → weigh (one (held_by (variable t d v) o)) all ≡ frames_hold s (stand_at t st.stands).frames d v o
  variable_same t d v o =
      let h = variable t d v in
      thread_alone (held_by h o) (frames_hold s (stand_at t st.stands).frames d v o) (own_variable t d v o)
      (λ u k. kinds_apart h (parcel u k) refl) (λ b. kinds_apart h (slot b) refl)
      (λ u m. kinds_apart h (in_mode u m) refl) (λ u. kinds_apart h (in_common u) refl)

  callout_same : (t d o : ℕ)
      → weigh (one (held_by (callout t d) o)) all ≡ callouts_hold (stand_at t st.stands).frames d o
  callout_same t d o =
      let h = callout t d in
      thread_alone (held_by h o) (callouts_hold (stand_at t st.stands).frames d o) (own_callout t d o)
      (λ u k. kinds_apart h (parcel u k) refl) (λ b. kinds_apart h (slot b) refl)
      (λ u m. kinds_apart h (in_mode u m) refl) (λ u. kinds_apart h (in_common u) refl)

  owed_same : (t o : ℕ) → weigh (one (held_by (owed t) o)) all ≡ owed_in o (stand_at t st.stands).work
  owed_same t o =
      let h = owed t in
      thread_alone (held_by h o) (owed_in o (stand_at t st.stands).work) (own_owed t o)
      (λ u k. kinds_apart h (parcel u k) refl) (λ b. kinds_apart h (slot b) refl)
      (λ u m. kinds_apart h (in_mode u m) refl) (λ u. kinds_apart h (in_common u) refl)

  -- of a holder that is none of a thread, a parcel or a body the loops have all
  loop_alone : (r : Reference) → ((t d v : ℕ) → r.holder ≡ variable t d v → ⊥)
      → ((t d : ℕ) → r.holder ≡ callout t d → ⊥) → ((t : ℕ) → r.holder ≡ owed t → ⊥) → ((t k : ℕ) → r.holder ≡ parcel t k → ⊥) → ((b : ℕ) → r.holder ≡ slot b → ⊥) → weigh (one r) all ≡ weigh (one r) of_loops
  loop_alone r a b c d e = omega (arith, weigh-all (one r), no_threads r a b c, no_parcels r d, no_slots r e)

  mode_same : (t m o : ℕ) → weigh (one (held_by (in_mode t m) o)) all ≡ weigh (one (held_by (in_mode t m) o)) st.edges
  mode_same t m o =
      let h = in_mode t m in
      loop_alone (held_by h o) (λ u d v. kinds_apart h (variable u d v) refl) (λ u d. kinds_apart h (callout u d) refl)
      (λ u. kinds_apart h (owed u) refl) (λ u k. kinds_apart h (parcel u k) refl) (λ b. kinds_apart h (slot b) refl)
      ∙ loops.modes t m o

  common_same : (t o : ℕ) → weigh (one (held_by (in_common t) o)) all ≡ weigh (one (held_by (in_common t) o)) st.edges
  common_same t o =
      let h = in_common t in
      loop_alone (held_by h o) (λ u d v. kinds_apart h (variable u d v) refl) (λ u d. kinds_apart h (callout u d) refl)
      (λ u. kinds_apart h (owed u) refl) (λ u k. kinds_apart h (parcel u k) refl) (λ b. kinds_apart h (slot b) refl)
      ∙ loops.common_items t o

  own_place : (t k o : ℕ)
      → weigh (one (held_by (parcel t k) o)) (parcel_references rows t) ≡ weigh (one (held_by (parcel t k) o)) (place_references rows t k)
  own_place t k o =
      let r = held_by (parcel t k) o in
      weigh-below (one r) (place_references rows t) (length (slice_index_or rows t [])) k
      (λ i apart. other_weigh r (parcel t i) (option_to_list (parcel_at rows t i)) (λ q. apart (sym (parcel_part t k t i q).1)))
      (λ le. ap (λ (found : Option ℕ). weigh (one r) (held_if (parcel t k) found)) (no_place (slice_index_or rows t []) k le))

  no_parcel : (t : ℕ) (w : Reference → ℕ) → length rows ≤ t → weigh w (parcel_references rows t) ≡ 0
  no_parcel t w le =
      ap (λ (n : ℕ). weigh w (below (place_references rows t) n)) (ap length (no_row rows t le)) ∙ ap (weigh w) (below-none (place_references rows t))

  own_parcel : (t k o : ℕ)
      → weigh (one (held_by (parcel t k) o)) of_parcels ≡ weigh (one (held_by (parcel t k) o)) (place_references rows t k)
  own_parcel t k o =
      let r = held_by (parcel t k) o in
      weigh-below (one r) (parcel_references rows) (length rows) t
      (λ i apart. places-none r i (λ m q. apart (sym (parcel_part t k i m q).0)))
      (λ le. no_parcel t (one r) le)
      ∙ own_place t k o

  parcel_same : (t k o : ℕ) → weigh (one (held_by (parcel t k) o)) all ≡ weigh (one (held_by (parcel t k) o)) st.edges
  parcel_same t k o =
      let r = held_by (parcel t k) o in
      omega (
        arith,
        weigh-all (one r),
        own_parcel t k o,
        parcel-weigh (parcel t k) st.edges o (parcel_at rows t k) (sym (parcels.at t k)) (single t k),
        no_threads r (λ u d v. kinds_apart (parcel t k) (variable u d v) refl) (λ u d. kinds_apart (parcel t k) (callout u d) refl) (λ u. kinds_apart (parcel t k) (owed u) refl),
        no_slots r (λ b. kinds_apart (parcel t k) (slot b) refl),
        loops.others r (λ u m. kinds_apart (parcel t k) (in_mode u m) refl) (λ u. kinds_apart (parcel t k) (in_common u) refl),
      )

  slot_same : (b o : ℕ) → weigh (one (held_by (slot b) o)) all ≡ times o (left_of st.parts.objects st.parts.dropped b)
  slot_same b o =
      let r = held_by (slot b) o in
      let here : weigh (one r) of_slots ≡ weigh (one r) (slot_references bodies b) =
      weigh-below (one r) (slot_references bodies) (length bodies) b
      (λ c apart. other_weigh r (slot c) (left_in bodies c) (λ q. apart (sym (slot_part b c q))))
      (λ le. ap (λ (h : Option Held). weigh (one r) (map (held_by (slot b)) (left_to h))) (none_made bodies b le)) in
      let there : weigh (one r) (slot_references bodies b) ≡ times o (left_of st.parts.objects st.parts.dropped b) =
      own_weigh (slot b) o (left_in bodies b) ∙ times-held (slot b) o (left_in bodies b) ∙ ap (times o) (left-mirrors st.parts bodies b mirrors) in
      omega (
        arith,
        weigh-all (one r),
        here,
        there,
        no_threads r (λ u d v. kinds_apart (slot b) (variable u d v) refl) (λ u d. kinds_apart (slot b) (callout u d) refl) (λ u. kinds_apart (slot b) (owed u) refl),
        no_parcels r (λ u k. kinds_apart (slot b) (parcel u k) refl),
        loops.others r (λ u m. kinds_apart (slot b) (in_mode u m) refl) (λ u. kinds_apart (slot b) (in_common u) refl),
      )

  reference_same : (h : Holder) (o : ℕ) → weigh (one (held_by h o)) all ≡ weigh (one (held_by h o)) st.edges
  reference_same (variable t d v) o = variable_same t d v o ∙ sym (held (variable t d v) o)
  reference_same (callout t d) o = callout_same t d o ∙ sym (held (callout t d) o)
  reference_same (owed t) o = owed_same t o ∙ sym (held (owed t) o)
  reference_same (parcel t k) o = parcel_same t k o
  reference_same (slot b) o = slot_same b o ∙ sym (held (slot b) o)
  reference_same (in_mode t m) o = mode_same t m o
  reference_same (in_common t) o = common_same t o

  -- as many of them as of the state's pass each test
  pub edges_same : (p : Edge → Bool) (es : List Edge)
      → es ≡ ((edges_of of_threads ++ edges_of of_parcels) ++ edges_of of_slots) ++ edges_of of_loops
      → count_by p es ≡ count_by p (edges_of st.edges)
  edges_same p es is =
      let whole : es ≡ edges_of all =
      is ∙ ap (λ (fs : List Edge). (fs ++ edges_of of_slots) ++ edges_of of_loops) (sym (map-append edge_of of_threads of_parcels))
      ∙ ap (λ (fs : List Edge). fs ++ edges_of of_loops) (sym (map-append edge_of (of_threads ++ of_parcels) of_slots))
      ∙ sym (map-append edge_of ((of_threads ++ of_parcels) ++ of_slots) of_loops) in
      ap (count_by p) whole ∙ same_counts p all st.edges (λ r. reference_same r.holder r.object)

-- the edges of a world are those of the state after its journal
pub world-edges : (s : Script) (journal : List Entry) (rows : List (List (Option ℕ))) (bodies : List Held)
    (of_loops : List Reference) (frames : List Standing) (p : Edge → Bool) (es : List Edge)
    → AreOfLoops (After s journal).edges of_loops → MayRun s → Mirrors (After s journal).parts bodies → HoldsParcels s (After s journal) rows → AreFrames s (After s journal) frames → AllHaveVariables (stands_of frames) (length frames)
    → es ≡ ((edges_of (below (stand_references s (stands_of frames)) (length frames)) ++ edges_of (below (parcel_references rows) (length rows))) ++ edges_of (below (slot_references bodies) (length bodies))) ++ edges_of of_loops
    → count_by p es ≡ count_by p (edges_of (After s journal).edges)
world-edges s journal rows bodies of_loops frames p es loops runs mirrors parcels framed variables is =
    let st = After s journal in
    let count : length st.stands ≡ s.thread_count = sym (ap length framed.stand) ∙ length-map frames (λ (f : Standing). f.stand) ∙ framed.count in
    let places = edges_of (below (parcel_references rows) (length rows)) in
    let slots = edges_of (below (slot_references bodies) (length bodies)) in
    let few : (t : ℕ) → t < s.thread_count → HasVariables (stand_at t st.stands).frames =
    λ t lt. subst (λ (ss : List Stand). HasVariables (stand_at t ss).frames) framed.stand (variables t (omega (arith, lt, framed.count))) in
    edges_same s st rows bodies of_loops (sound s journal runs.owned).held count (λ t k. parcels_one s journal t k) mirrors parcels loops few p es
    (is ∙ ap (λ (n : ℕ). ((edges_of (below (stand_references s (stands_of frames)) n) ++ places) ++ slots) ++ edges_of of_loops) framed.count
    ∙ ap (λ (ss : List Stand). ((edges_of (below (stand_references s ss) s.thread_count) ++ places) ++ slots) ++ edges_of of_loops) framed.stand)

-- a world has at most as many bodies as there are numbers of objects
pub few-bodies : (s : Script) (journal : List Entry) (bodies : List Held) → IsLegal s journal
    → Mirrors (After s journal).parts bodies → length bodies ≤ 65536
few-bodies s journal bodies legal mirrors =
    omega (arith, (few_of_legal s journal legal).objects, length-objects bodies, ap length mirrors.objects_are)

-- the edges that are listed of a world whose script has begun
pub begun-edges : (w : Inside) (p : Edge → Bool) (none first es : List Edge) → IsBegun w → MayRun w.ground.script
    → none ≡ []
    → first ≡ none ++ edges_of (below (stand_references w.ground.script (stands_of w.frames.items)) (length w.frames.items)) → AllHaveVariables (stands_of w.frames.items) (length w.frames.items)
    → AddsGround w.ground first es → count_by p es ≡ count_by p (edges_of (edges_in (view_of w)))
begun-edges w p none first es begun runs empty is variables adds =
    let threads = edges_of (below (stand_references w.ground.script (stands_of w.frames.items)) (length w.frames.items)) in
    let places = edges_of (below (parcel_references adds.rows) (length adds.rows)) in
    let slots = edges_of (below (slot_references adds.bodies) (length adds.bodies)) in
    world-edges w.ground.script w.ground.journal adds.rows adds.bodies adds.loops w.frames.items p es (of_places (edges_in (view_of w)) adds.loops adds.of_loops adds.of_no_other) runs adds.mirrors adds.places begun.frames variables
    (adds.added ∙ ap (λ (fs : List Edge). ((fs ++ places) ++ slots) ++ edges_of adds.loops) (is ∙ ap (λ (fs : List Edge). fs ++ threads) empty))
