-- The deal of a thread's entry, as the ground does it: what comes into places of loops and what goes out of them.
use Rattle.std.proofs.Common.{◌≡◌, ℕ, ◌+◌, ◌<◌, ◌≤◌, ◌∙◌, Bool, true, false, cond, List, [], ◌∷◌, ◌++◌, length, map, replicate, Option, Some, None, refl, sym, ap, subst, arith, length-append}
use Rattle.std.proofs.lemmas.List.{append-nil, length-map, length-replicate}
use Rattle.rl_base.specs.declared.places.Place.TheVariants.{Common as CommonItems}
use Rattle.rl_modes.specs.Loops.{items_at}
use Rattle.cf_ids.specs.declared.numbers.Item.{Item}
use Rattle.cf_syntax.specs.declared.statement.Statement.{Statement}
use Rattle.cf_syntax.specs.declared.statement.Statement.TheVariants as forms
use Rattle.cf_syntax.specs.Mentions.{first_of}
use Rattle.cf_syntax.specs.Numbered.{NamesMode, NamesOwn, NamesThread}
use Rattle.cf_syntax.specs.BlockLines.{says}
use Rattle.rl_modes.specs.Loops.{Loop}
use Rattle.cf_syntax.specs.declared.script.Script.{Script}
use Rattle.cf_graph.specs.Holders.{Holder, variable, callout, owed, parcel, slot, in_mode, in_common}
use Rattle.cf_graph.specs.Edges.{Reference}
use Rattle.cf_graph.specs.Flows.{grows, still, flowed}
use Rattle.cf_contents.specs.Stores.{Held}
use Rattle.cf_next.specs.Demands.{Demand, does}
use Rattle.cf_model.specs.State.{State, Parts}
use Rattle.cf_model.specs.Own.{moves_to}
use Rattle.cf_model.specs.Things.{Thing, thing_at}
use Rattle.cf_model.specs.Deals.{Deal, common_deal, deal_of, every_place, invalidate_deal, okay, posts_of, thread_in, with_used}
use Rattle.cf_model.specs.Steps.{Step, deal_step, demanded, depth_of, done_by, frames_at, spend_if, statement_step, step_finals, step_of}
use Rattle.cf_model.specs.Journals.{After}
use Rattle.cf_model.proofs.FirstHeld.{NoParcel, PassesBy, first_flowed, parcel_other}
use Rattle.cf_model.proofs.Places.{AllLoop, IsLoop, every_loop, present_loop}
use Rattle.cf_loops.specs.Following.{AfterDeal, AreLoops, loop_at}
use Rattle.cf_loops.proofs.Looking.{items_told}
use Rattle.cf_loops.proofs.Staying.{kept_by_flow}
use Rattle.cf_scene.specs.Acts.{Brings, IsDealt, TellsRun}
use Rattle.cf_scene.specs.Dealing.{spending}
use Rattle.cf_scene.specs.Gains.{GainsFit, HoldsCommon, shared_gains}
use Rattle.cf_scene.specs.Needs.{FitsCommon, GainsAtMost, MovesAtMost}
use Rattle.cf_scene.specs.Scenes.{InScenes, all_flags}
use Rattle.cf_scene.specs.declared.dealt.Dealt.{Dealt}
use Rattle.cf_scene.proofs.OverLoops.{IsOverLoops, deal_over_loops, deal_posts_none}
use Rattle.cf_scene.specs.declared.flags.Flags.{Flags}
use Rattle.cf_world.specs.declared.ground.Ground.TheInside.{Inside}
use Rattle.cf_world.specs.Grounds.{Follows, HasLoops, IsGround, Mirrors, flags_of, view_of}
use Rattle.cf_world.specs.Entering.{IsDealing, gained_in, listed_if, listed_in, used_in}
use Rattle.cf_world.proofs.Apart.{deals_keep}
use Rattle.cf_world.proofs.Counting.{Enters, enters_by}
use Rattle.cf_world.proofs.Growing.{follows_step}
use Rattle.cf_world.proofs.Naming.{said_names}
use Rattle.cf_world.proofs.Telling.{flags_count}

-- ---- parcels

loop_no_parcel : (h : Holder) → IsLoop h → NoParcel h
loop_no_parcel (variable t d v) h = absurd h
loop_no_parcel (callout t d) h = absurd h
loop_no_parcel (owed t) h = absurd h
loop_no_parcel (parcel t k) h = absurd h
loop_no_parcel (slot b) h = absurd h
loop_no_parcel (in_mode t m) h = tt
loop_no_parcel (in_common t) h = tt

-- what goes between places of loops and a thread passes the parcels by
loops_pass : (t u k : ℕ) (ins outs : List Reference) → AllLoop ins → AllLoop outs
    → PassesBy (parcel u k) (grows ins (moves_to (owed t) outs))
loops_pass t u k [] [] ins outs = tt
loops_pass t u k [] (r ∷ rs) ins outs =
    (parcel_other u k r.holder (loop_no_parcel r.holder outs.0), refl, loops_pass t u k [] rs ins outs.1)
loops_pass t u k (r ∷ rs) qs ins outs =
    (parcel_other u k r.holder (loop_no_parcel r.holder ins.0), loops_pass t u k rs qs ins.1 outs)

-- ---- a deal over run loops

-- loops do not ask which objects are finalised
pub refinalised : (s : Script) (p : Parts) (es : List Reference) (loops : List Loop) (finals : List ℕ)
    → AreLoops s p es loops → AreLoops s (record p { finalised = finals }) es loops
refinalised s p es loops finals h =
    kept_by_flow s p (record p { finalised = finals }) es still loops h (record { commons = refl; kinds = λ i k e. e }) (tt, tt) (λ r. omega arith)

-- what a deal leaves to a ground
pub record Leaves (s : Script) (t : ℕ) (st : State) (deal : Deal) (bodies : List Held) (flags : List Flags)
    (loops : List Loop) : Type 0 where
  pub mirrors : Mirrors deal.parts bodies
  pub flags_are : map flags_of flags ≡ deal.parts.flags
  pub time : deal.parts.time ≡ st.parts.time
  pub registrations : deal.parts.registrations ≡ st.parts.registrations
  pub loops_are : AfterDeal s st t deal loops
  pub enters : AllLoop deal.enters
  pub leaves : AllLoop deal.leaves

module _ (s : Script) (t : ℕ) (st : State) (bodies : List Held) (rows : List (List (Option ℕ))) (flags : List Flags) (time : ℕ) (loops : List Loop) (h : Follows s st bodies rows flags time loops) where
  pub deal_enters : (d : Demand) (deal : Deal) (posts : List ℕ) (bodies' : List Held) (flags' : List Flags)
      (loops' : List Loop) → demanded s st t ≡ Some d → step_of s t st (frames_at t st) d ≡ deal_step t deal posts
      → Leaves s t st deal bodies' flags' loops'
      → Enters s t st deal.answer (map (λ (r : Reference). r.object) deal.enters) bodies' rows flags' time loops'
  deal_enters d deal posts bodies' flags' loops' e is left =
      let step = deal_step t deal posts in
      enters_by s t st d step deal.answer bodies' rows flags' time loops' e is refl
      (follows_step s t st d step bodies' rows flags' time loops' is
      (record { objects_are = left.mirrors.objects_are; live = left.mirrors.live; given_up = left.mirrors.given_up })
      h.parcels_are.has
      (λ u k. h.parcels_are.at u k ∙ sym (first_flowed (parcel u k) step.flow st.edges (loops_pass t u k deal.enters deal.leaves left.enters left.leaves)))
      left.flags_are (h.time_is ∙ sym left.time)
      (subst (λ (x : Step). HasLoops s (record { parts = record x.parts { finalised = step_finals x st ++ x.parts.finalised }; edges = flowed x.flow st.edges; stands = (done_by s t st d).stands }) loops') (sym is)
      (record { loops_are = refinalised s deal.parts (flowed step.flow st.edges) loops' (step_finals step st ++ deal.parts.finalised) left.loops_are; unregistered = left.registrations ∙ h.has_loops.unregistered })))

-- ---- an item that is spent

-- a case of two deals
either : (P : Deal → Type 0) (b : Bool) (x y : Deal) → P x → P y → P (cond b x y)
either P true x y h k = h
either P false x y h k = k

-- a deal that changes no flag, no time and no registration, by places of loops alone
record Quiet (st : State) (deal : Deal) : Type 0 where
  flags : deal.parts.flags ≡ st.parts.flags
  time : deal.parts.time ≡ st.parts.time
  registrations : deal.parts.registrations ≡ st.parts.registrations
  enters : AllLoop deal.enters
  leaves : AllLoop deal.leaves

pub spend_leaves : (s : Script) (st : State) (i : ℕ) (bodies : List Held) (flags : List Flags) (loops : List Loop)
    (t : ℕ) → map flags_of flags ≡ st.parts.flags → Mirrors (spending s st i).parts bodies
    → AfterDeal s st t (spending s st i) loops → Leaves s t st (spending s st i) bodies flags loops
spend_leaves s st i bodies flags loops t flags_are mirrors after =
    let q = by (thing_at st.parts i) in
    record { mirrors = mirrors; flags_are = flags_are ∙ sym q.flags; time = q.time; registrations = q.registrations; loops_are = after; enters = q.enters; leaves = q.leaves }
  where
    quiet : Quiet st (okay st.parts)
    quiet = record { flags = refl; time = refl; registrations = refl; enters = tt; leaves = tt }

    gone : (x : Thing) → Quiet st (invalidate_deal s st i x)
    gone x = either (Quiet st) x.valid _ _
        (record { flags = refl; time = refl; registrations = refl; enters = tt; leaves = present_loop (every_place s i st.edges) st.edges (every_loop s i st.edges) })
        (record { flags = refl; time = refl; registrations = refl; enters = tt; leaves = tt })

    by : (x : Option Thing) → Quiet st (spend_if s st i x)
    by None = quiet
    by (Some x) = either (Quiet st) x.valid _ _ (gone x) quiet

-- it gains nothing
pub spend_gains : (s : Script) (st : State) (i : ℕ)
    → map (λ (r : Reference). r.object) (spending s st i).enters ≡ []
spend_gains s st i = by (thing_at st.parts i)
  where
    by : (x : Option Thing) → map (λ (r : Reference). r.object) (spend_if s st i x).enters ≡ []
    by None = refl
    by (Some x) = either (λ (d : Deal). map (λ (r : Reference). r.object) d.enters ≡ []) x.valid _ _
        (either (λ (d : Deal). map (λ (r : Reference). r.object) d.enters ≡ []) x.valid _ _ refl refl) refl

-- ---- a statement over run loops

-- what comes into places is what a mode gains that becomes a common one, and one item so often
brings_all : (s : Script) (t : ℕ) (st : State) (x : Statement) (used : List (Option ℕ)) (res : Dealt)
    → Brings x (deal_of s t st x used) res
    → shared_gains st t x ++ replicate res.came res.item ≡ map (λ (r : Reference). r.object) (deal_of s t st x used).enters
brings_all s t st (forms.Common u m) used res h =
    let shared = map (λ (r : Reference). r.object) (with_used st.parts (thread_in t u) (λ w. common_deal st w m)).enters in
    ap (λ (n : ℕ). shared ++ replicate n res.item) h ∙ append-nil shared
brings_all s t st x used res h = sym h

module _ (g : Inside) (t : ℕ) (inv : IsGround g) (object : Option ℕ) (runs : Bool) (x : Statement) (dealing : IsDealing (view_of g) t object runs x) (within : t < g.script.thread_count) where
  abbrev here : State
  here = After g.script g.journal.items

  abbrev used : List (Option ℕ)
  used = used_in (view_of g) t x

  abbrev its : Deal
  its = deal_of g.script t here x used

  count : length g.loops ≡ g.script.thread_count
  count = inv.follows.has_loops.loops_are.threads

  names : NamesOwn g.script x
  names = said_names g.script here t inv.script.numbered x dealing.demands

  pub named_there : NamesThread (length g.loops) x
  named_there = subst (λ (n : ℕ). NamesThread n x) (sym count) names.thread

  pub mode_there : NamesMode (length g.script.modes) x
  mode_there = names.mode

  pub loops_few : length g.loops ≤ 64
  loops_few = omega (arith, count, inv.script.numbered.threads)

  pub loop_there : t < length g.loops
  loop_there = omega (arith, count, within)

  pub flags_there : length g.flags.items ≡ length g.loops
  flags_there = flags_count g inv ∙ sym count

  -- room for what a mode gains that becomes a common one
  holds_common : (o : Option ℕ) (room : ℕ) → FitsCommon here o room → HoldsCommon g.loops o room
  holds_common None room h = tt
  holds_common (Some w) room h =
      let items = items_at CommonItems (loop_at w g.loops).held in
      omega (
        arith,
        h,
        length-map items (λ (i : Item). i.id),
        ap length (items_told g.script here.parts here.edges w (loop_at w g.loops) (inv.follows.has_loops.loops_are.loops_are w) CommonItems),
      )

  pub gains_fit : (room : ℕ) → MovesAtMost g.script t here x used room → GainsFit g.loops t x room
  gains_fit room h = by x h.common
    where
      by : (y : Statement) → GainsAtMost here t y room → GainsFit g.loops t y room
      by (forms.Common u m) k = holds_common (thread_in t u) room k
      by y k = tt

  -- the deal is done
  pub is_dealt : (res : Dealt) (bodies : List Held) (loops : List Loop) (flags : List Flags)
      → InScenes g.store.bodies g.loops (λ (s : Script) (st : State). (us : List (Option ℕ)) → first_of us ≡ object
      → st.parts.flags ≡ all_flags g.flags.items → NamesMode (length s.modes) x → TellsRun st t runs x
      → IsDealt s st t (deal_of s t st x us) x res bodies loops flags)
      → IsDealt g.script here t its x res bodies loops flags
  is_dealt res bodies loops flags told =
      told g.script here inv.follows.mirrors inv.follows.has_loops.loops_are used dealing.object_is (sym inv.follows.flags_are) mode_there dealing.runs_is

  module _ (res : Dealt) (bodies : List Held) (loops : List Loop) (flags : List Flags) (dealt : IsDealt g.script here t its x res bodies loops flags) where
    over : IsOverLoops here.parts its
    over = deal_over_loops g.script t here x used dealing.acts

    posts : posts_of here.parts x used ≡ []
    posts = deal_posts_none g.script t here x used dealing.acts

    step_is : step_of g.script t here (frames_at t here) (does (says x)) ≡ deal_step t its (posts_of here.parts x used)
    step_is = ap (statement_step g.script t (depth_of (frames_at t here)) here x used) (deals_keep x dealing.acts)

    pub statement_enters : Enters g.script t here its.answer (map (λ (r : Reference). r.object) its.enters) bodies g.parcels flags g.time loops
    statement_enters =
        deal_enters g.script t here g.store.bodies g.parcels g.flags.items g.time g.loops inv.follows (does (says x)) its (posts_of here.parts x used) bodies flags loops dealing.demands step_is
        (record { mirrors = dealt.mirrors; flags_are = dealt.flags_are; time = over.time; registrations = over.registrations; loops_are = dealt.loops_are; enters = over.enters; leaves = over.leaves })

    pub gains_told : shared_gains here t x ++ replicate res.came res.item ≡ gained_in (view_of g) t
    gains_told = brings_all g.script t here x used res dealt.came ∙ sym statement_enters.gains

    pub lists_told : replicate res.went res.item ≡ listed_in (view_of g) t
    lists_told =
        let out = map (λ (r : Reference). r.object) its.leaves in
        sym dealt.went ∙ sym (append-nil out) ∙ ap (λ (ps : List ℕ). out ++ ps) (sym posts) ∙ ap (λ (y : Step). y.list) (sym step_is)
        ∙ ap (listed_if g.script t here) (sym dealing.demands)

    -- there is room for what comes and what goes
    pub came_fits : (room : ℕ) → MovesAtMost g.script t here x used room → length (shared_gains here t x) + res.came ≤ room
    came_fits room h =
        omega (
          arith,
          h.deal.enters,
          length-map its.enters (λ (r : Reference). r.object),
          ap length (brings_all g.script t here x used res dealt.came),
          length-append (shared_gains here t x) (replicate res.came res.item),
          length-replicate res.came res.item,
        )

    pub went_fits : (room : ℕ) → MovesAtMost g.script t here x used room → res.went ≤ room
    went_fits room h =
        omega (arith, h.deal.leaves, length-map its.leaves (λ (r : Reference). r.object), ap length dealt.went, length-replicate res.went res.item)
