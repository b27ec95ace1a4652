-- What each entry of a thread tells its ground, by what is asked of it.
use Rattle.std.proofs.Common.{◌≡◌, ℕ, ◌<◌, ◌∙◌, List, [], ◌∷◌, length, map, Option, Some, None, get_or, refl, sym, ap, subst, inl, inr}
use Rattle.std.specs.Prelude.{slice_get, OnSome}
use Rattle.std.specs.Option.{option_map}
use Rattle.cf_ids.specs.declared.answer.Answer.{Answer}
use Rattle.cf_ids.specs.declared.answer.Answer.TheVariants as answers
use Rattle.cf_ids.specs.declared.answer.Ended.{Ended}
use Rattle.cf_syntax.specs.declared.script.Script.{Script}
use Rattle.cf_syntax.specs.Owned.{FitsByBlock}
use Rattle.cf_syntax.specs.Packs.{IsWithin}
use Rattle.cf_syntax.specs.BlockLines.{thread_block, uses_in}
use Rattle.cf_syntax.proofs.BlockLaws.{owned_fits}
use Rattle.cf_contents.specs.Contents.{present}
use Rattle.cf_contents.specs.Stores.{Held, with_body, body_dropped}
use Rattle.cf_next.specs.Stands.{Callee, item_of}
use Rattle.cf_next.specs.Demands.{spends}
use Rattle.rl_modes.specs.Loops.{Loop}
use Rattle.cf_scene.specs.Dealing.{IsDone, spending}
use Rattle.cf_scene.specs.Sleeping.{HasSlept}
use Rattle.cf_scene.specs.declared.dealt.Dealt.{Dealt}
use Rattle.cf_world.proofs.Called.{call_enters, call_valid, sleep_enters}
use Rattle.cf_world.proofs.Dealing.{deal_enters, spend_gains, spend_leaves}
use Rattle.cf_world.proofs.Passed.{pass_enters}
use Rattle.cf_model.specs.State.{State}
use Rattle.cf_model.specs.Steps.{fire_if, frames_at, type_in}
use Rattle.cf_model.specs.Journals.{After}
use Rattle.cf_model.proofs.Parcels.{OwnBlocks, parcels_after, parcels_one}
use Rattle.cf_model.proofs.Sound.{sound}
use Rattle.cf_model.proofs.Using.{IsSound}
use Rattle.cf_scene.specs.declared.flags.Flags.{Flags}
use Rattle.cf_world.specs.declared.ground.Ground.TheInside.{Inside}
use Rattle.cf_world.specs.Grounds.{IsGround, Mirrors, ends_in, flags_of, parcel_at, view_of}
use Rattle.cf_world.specs.Entering.{IsRetain, IsSkip, IsCut, IsDrop, IsClaim, IsPack, IsEnd, IsPass, IsCall, IsSleep, IsSpend, IsValidCallee, called_answer, answer_for, answer_of_cut, finalised_if, flags_at_end, packed_rows}
use Rattle.cf_world.proofs.Counting.{Enters, retain_enters, skip_enters, end_enters}
use Rattle.cf_world.proofs.Cutting.{Cuts, Drops, owed_cuts, release_cuts, drop_drops}
use Rattle.cf_world.proofs.Passing.{KeepsLoops, keeps_loops}
use Rattle.cf_world.proofs.Packing.{rows_with, pack_within, claim_within, claim_enters, pack_enters}

-- what is done where something is found is done
pub where_found : (f : ℕ → ℕ × ℕ) (found : Option ℕ) (o : ℕ) (result : Option (ℕ × ℕ)) (P : Type 0) → found ≡ Some o
    → result ≡ option_map f found → OnSome result P → P
where_found f found o None P e is h = absurd (none_some f found o e is)
  where
    none_some : (f : ℕ → ℕ × ℕ) (q : Option ℕ) (o : ℕ) → q ≡ Some o → ◌≡◌ {A = Option (ℕ × ℕ)} None (option_map f q) → ⊥
    none_some f None o e is = absurd cc
    none_some f (Some p) o e is = absurd cc
where_found f found o (Some x) P e is h = h

module _ (g : Inside) (t : ℕ) (inv : IsGround g) where
  abbrev s : Script
  s = g.script

  abbrev st : State
  st = After g.script g.journal.items

  pub own : FitsByBlock s
  own = owned_fits s inv.script.owned

  pub is_sound : IsSound s st
  is_sound = sound s g.journal.items inv.script.owned

  pub keeps : KeepsLoops s t st g.loops
  keeps = keeps_loops s t st own is_sound inv.script.stage g.loops inv.follows.has_loops

  pub retain_tells : (object : Option ℕ) → IsRetain (view_of g) t object
      → Enters s t st (answer_for object) (present (object ∷ [])) g.store.bodies g.parcels g.flags.items g.time g.loops
  retain_tells object r = retain_enters s t st g.store.bodies g.parcels g.flags.items g.time g.loops inv.follows keeps r.statement r.var object r.demands r.retains r.object_is

  pub skip_tells : IsSkip (view_of g) t → Enters s t st answers.Skip [] g.store.bodies g.parcels g.flags.items g.time g.loops
  skip_tells r = skip_enters s t st g.store.bodies g.parcels g.flags.items g.time g.loops inv.follows keeps r.statement r.var r.demands r.releases r.empty

  pub cut_tells : (o : ℕ) → IsCut (view_of g) t o
      → Cuts s t st g.store.bodies g.parcels g.flags.items g.time g.loops inv.follows keeps o
  cut_tells o (inl r) = release_cuts s t st g.store.bodies g.parcels g.flags.items g.time g.loops inv.follows keeps own is_sound r.statement r.var o r.demands r.releases r.object
  cut_tells o (inr e) = owed_cuts s t st g.store.bodies g.parcels g.flags.items g.time g.loops inv.follows keeps own is_sound o e

  -- the same, by what is left
  pub cut_entered : (o : ℕ) → IsCut (view_of g) t o → (ended : Ended) → ends_in (view_of g) o ended
      → (bodies : List Held) → bodies ≡ finalised_if ended o g.store.bodies
      → Enters s t st (answer_of_cut ended (type_in (slice_get st.parts.objects o))) [] bodies g.parcels g.flags.items g.time g.loops
  cut_entered o r ended e bodies is =
      subst (λ (bs : List Held). Enters s t st (answer_of_cut ended (type_in (slice_get st.parts.objects o))) [] bs g.parcels g.flags.items g.time g.loops) (sym is)
      (subst (λ (d : Ended). Enters s t st (answer_of_cut d (type_in (slice_get st.parts.objects o))) [] (finalised_if d o g.store.bodies) g.parcels g.flags.items g.time g.loops) (sym e) (cut_tells o r).enters)

  pub drop_tells : (b o : ℕ) → IsDrop (view_of g) t b o
      → Drops s t st g.store.bodies g.parcels g.flags.items g.time g.loops inv.follows keeps own is_sound b o
  drop_tells b o r = drop_drops s t st g.store.bodies g.parcels g.flags.items g.time g.loops inv.follows keeps own is_sound b r.place o r.demands

  pub drop_entered : (b o : ℕ) → IsDrop (view_of g) t b o → (ended : Ended) → ends_in (view_of g) o ended
      → (left bodies : List Held) → left ≡ with_body body_dropped b g.store.bodies
      → bodies ≡ finalised_if ended o left → Enters s t st (answer_of_cut ended (type_in (slice_get st.parts.objects o))) [] bodies g.parcels g.flags.items g.time g.loops
  drop_entered b o r ended e left bodies dropped is =
      subst (λ (bs : List Held). Enters s t st (answer_of_cut ended (type_in (slice_get st.parts.objects o))) [] bs g.parcels g.flags.items g.time g.loops) (sym (is ∙ ap (finalised_if ended o) dropped))
      (subst (λ (d : Ended). Enters s t st (answer_of_cut d (type_in (slice_get st.parts.objects o))) [] (finalised_if d o (with_body body_dropped b g.store.bodies)) g.parcels g.flags.items g.time g.loops) (sym e) (drop_tells b o r).enters)

  blocks : OwnBlocks t (frames_at t st)
  blocks = (parcels_after s g.journal.items).blocks t

  pub claim_place : (k : ℕ) → t < s.thread_count → IsClaim (view_of g) t k → k < length (uses_in (thread_block s t))
  claim_place k lt r = claim_within s t st blocks k r.var r.demands

  pub claim_here : (k : ℕ) → t < s.thread_count → IsClaim (view_of g) t k
      → (t < length g.parcels) × (k < length (get_or g.parcels t []))
  claim_here k lt r = (
    subst (λ (n : ℕ). t < n) (sym inv.follows.parcels_are.has.threads) lt,
    subst (λ (n : ℕ). k < n) (sym (inv.follows.parcels_are.has.places t lt)) (claim_place k lt r),
  )

  pub claim_tells : (k : ℕ) → t < s.thread_count → IsClaim (view_of g) t k
      → Enters s t st (answer_for (parcel_at g.parcels t k)) [] g.store.bodies (rows_with g.parcels t k None) g.flags.items g.time g.loops
  claim_tells k lt r =
      claim_enters s t st g.store.bodies g.parcels g.flags.items g.time g.loops inv.follows keeps k r.var r.demands lt (claim_place k lt r) (parcels_one s g.journal.items t k)

  pub claim_entered : (k : ℕ) → t < s.thread_count → IsClaim (view_of g) t k → (rows : List (List (Option ℕ)))
      → rows ≡ rows_with g.parcels t k None
      → Enters s t st (answer_for (parcel_at g.parcels t k)) [] g.store.bodies rows g.flags.items g.time g.loops
  claim_entered k lt r rows is =
      subst (λ (q : List (List (Option ℕ))). Enters s t st (answer_for (parcel_at g.parcels t k)) [] g.store.bodies q g.flags.items g.time g.loops) (sym is) (claim_tells k lt r)

  pub pack_place : (u k : ℕ) (object : Option ℕ) → t < s.thread_count → IsPack (view_of g) t u k object → IsWithin s u k
  pack_place u k object lt r = pack_within s t st blocks u k r.var r.demands

  pub pack_here : (u k : ℕ) (object : Option ℕ) → t < s.thread_count → IsPack (view_of g) t u k object
      → (u < length g.parcels) × (k < length (get_or g.parcels u []))
  pack_here u k object lt r =
      let within = pack_place u k object lt r in (
        subst (λ (n : ℕ). u < n) (sym inv.follows.parcels_are.has.threads) within.thread,
        subst (λ (n : ℕ). k < n) (sym (inv.follows.parcels_are.has.places u within.thread)) within.place,
      )

  pub pack_tells : (u k : ℕ) (object : Option ℕ) → t < s.thread_count → IsPack (view_of g) t u k object
      → Enters s t st (answer_for object) [] g.store.bodies (packed_rows g.parcels u k object) g.flags.items g.time g.loops
  pack_tells u k object lt r =
      pack_enters s t st g.store.bodies g.parcels g.flags.items g.time g.loops inv.follows keeps u k r.var r.demands (pack_place u k object lt r) own is_sound object r.object_is

  pub pack_entered : (u k : ℕ) (object : Option ℕ) → t < s.thread_count → IsPack (view_of g) t u k object
      → (rows : List (List (Option ℕ))) → rows ≡ packed_rows g.parcels u k object
      → Enters s t st (answer_for object) [] g.store.bodies rows g.flags.items g.time g.loops
  pack_entered u k object lt r rows is =
      subst (λ (q : List (List (Option ℕ))). Enters s t st (answer_for object) [] g.store.bodies q g.flags.items g.time g.loops) (sym is) (pack_tells u k object lt r)

  pub end_tells : (flags : List Flags) → IsEnd (view_of g) t
      → map flags_of flags ≡ flags_at_end t (map flags_of g.flags.items)
      → Enters s t st answers.Ok [] g.store.bodies g.parcels flags g.time g.loops
  end_tells flags e is = end_enters s t st g.store.bodies g.parcels g.flags.items g.time g.loops inv.follows keeps flags e is

  -- what changes nothing but where its thread stands
  pub pass_tells : (x : Answer) (list : List ℕ) → IsPass (view_of g) t x list
      → Enters s t st x [] g.store.bodies g.parcels g.flags.items g.time g.loops
  pass_tells x list r =
      subst (λ (y : Answer). Enters s t st y [] g.store.bodies g.parcels g.flags.items g.time g.loops) (sym r.answer_is)
      (pass_enters s t st g.store.bodies g.parcels g.flags.items g.time g.loops inv.follows keeps r.demand r.demands r.passes)

  -- the call of a handler
  pub call_tells : (k : Callee) (r : IsCall (view_of g) t k) (bodies : List Held)
      → Mirrors (fire_if st.parts (item_of k)) bodies
      → Enters s t st (called_answer (view_of g) t k) (present (r.callout.info ∷ item_of k ∷ [])) bodies g.parcels g.flags.items g.time g.loops
  call_tells k r bodies mirrors = call_enters s t st g.store.bodies g.parcels g.flags.items g.time g.loops inv.follows keeps k r.callout bodies r.demands mirrors

  -- what is called is valid
  pub called_valid : (k : Callee) → IsCall (view_of g) t k → IsValidCallee st.parts k
  called_valid k r = call_valid s st t k r.callout r.demands

  -- the sleep of a run
  pub sleep_tells : (deadline : Option ℕ) (r : IsSleep (view_of g) t deadline) (x : Answer) (flags : List Flags)
      → HasSlept st t r.run x flags → Enters s t st x [] g.store.bodies g.parcels flags g.time g.loops
  sleep_tells deadline r x flags slept = sleep_enters s t st g.store.bodies g.parcels g.flags.items g.time g.loops inv.follows keeps r.run x flags r.demands r.top slept

  -- an item that is invalidated after its handler
  pub spend_tells : (i : ℕ) → IsSpend (view_of g) t i → (x : Dealt) (bodies : List Held) (loops : List Loop)
      → IsDone s st t (spending s st i) x bodies loops
      → Enters s t st x.answer [] bodies g.parcels g.flags.items g.time loops
  spend_tells i r x bodies loops done =
      subst (λ (y : Answer). Enters s t st y [] bodies g.parcels g.flags.items g.time loops) (sym done.answer)
      (subst (λ (os : List ℕ). Enters s t st (spending s st i).answer os bodies g.parcels g.flags.items g.time loops) (spend_gains s st i)
      (deal_enters s t st g.store.bodies g.parcels g.flags.items g.time g.loops inv.follows (spends i) (spending s st i) [] bodies g.flags.items loops r refl
      (spend_leaves s st i bodies g.flags.items loops t inv.follows.flags_are done.mirrors done.loops_are)))
