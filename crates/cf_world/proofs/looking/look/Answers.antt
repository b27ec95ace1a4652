-- Answers to the goals of `looking::look`.
use Rattle.std.proofs.Common.{◌≡◌, ◌∙◌, ◌<◌, ◌&&◌, true, false, length, Some, None, sym, refl, ap, arith}
use Rattle.std.specs.Prelude.{nat_le}
use Rattle.cf_next.specs.Steps.{demand_of}
use Rattle.cf_model.specs.State.{flags_at, stand_at}
use Rattle.cf_model.specs.Journals.{is_asleep, makes_line, sleeps}
use Rattle.cf_model.specs.Known.{facts_of}
use Rattle.cf_model.specs.Steps.{demanded}
use Rattle.cf_world.specs.Grounds.{state_of}
use Rattle.cf_world.proofs.Looks.{action_here, block_here, demand_here, done_here, few_first, few_second, goes_here, is_done_here, looked_acts, looked_asleep, looked_done, looked_full, placed_here, step_found}
use Rattle.cf_world.proofs.Moving.{lent_here, within_frames}
use Rattle.cf_world.proofs.looking.look.Goals as goal
use Rattle.cf_world.proofs.looking.look.Goals.{else-is_full-via-then-is_full+else-makes_object, else-is_full-via-else-is_full}

pub returns-then-is_done : goal.returns-then-is_done
returns-then-is_done c =
    let g = c.args.ground.now in
    let t = c.args.t in
    let st = state_of g in
    let fs = c.args.frames.now in
    let so = c.requires.frames in
    let within = c.requires.thread in
    let runs = c.script-script.ensures.runs in
    let f = c.index-frames-t.result in
    let lent = lent_here fs t c.t.inside.0 f _ c.index-frames-t.is c.t.view_is (within_frames g.script st.stands fs t so within) in
    let started : (flags_at t st.parts.flags).is_started ≡ true = ap (λ h. h.is_started) (sym c.flags-flags.ensures) ∙ c.if-not-flags.false in
    looked_done g c.args.limit t started (sym (is_done_here g t fs so within runs f lent c.is_done.result c.is_done.ensures) ∙ c.if-is_done.true)

pub returns-then-is_asleep : goal.returns-then-is_asleep
returns-then-is_asleep c =
    let g = c.args.ground.now in
    let t = c.args.t in
    let st = state_of g in
    let fs = c.args.frames.now in
    let so = c.requires.frames in
    let within = c.requires.thread in
    let runs = c.script-script.ensures.runs in
    let f = c.index-frames-t.result in
    let lent = lent_here fs t c.t.inside.0 f _ c.index-frames-t.is c.t.view_is (within_frames g.script st.stands fs t so within) in
    let started : (flags_at t st.parts.flags).is_started ≡ true = ap (λ h. h.is_started) (sym c.flags-flags.ensures) ∙ c.if-not-flags.false in
    let going : (stand_at t st.stands).is_done ≡ false = sym (is_done_here g t fs so within runs f lent c.is_done.result c.is_done.ensures) ∙ c.if-is_done.false in
    looked_asleep g c.args.limit t started going (ap (λ h. is_asleep h.sleep) (sym c.flags-flags.ensures) ∙ sym c.if-is_asleep.ensures)

pub returns-then-limit-len : goal.returns-then-limit-len
returns-then-limit-len c =
    let g = c.args.ground.now in
    let t = c.args.t in
    let st = state_of g in
    let fs = c.args.frames.now in
    let so = c.requires.frames in
    let within = c.requires.thread in
    let runs = c.script-script.ensures.runs in
    let f = c.index-frames-t.result in
    let lent = lent_here fs t c.t.inside.0 f _ c.index-frames-t.is c.t.view_is (within_frames g.script st.stands fs t so within) in
    let started : (flags_at t st.parts.flags).is_started ≡ true = ap (λ h. h.is_started) (sym c.flags-flags.ensures) ∙ c.if-not-flags.false in
    let going : (stand_at t st.stands).is_done ≡ false = sym (is_done_here g t fs so within runs f lent c.is_done.result c.is_done.ensures) ∙ c.if-is_done.false in
    let awake : sleeps st t ≡ false = ap (λ h. is_asleep h.sleep) (sym c.flags-flags.ensures) ∙ sym c.if-is_asleep.ensures in
    let counted : c.len.result ≡ length g.journal = omega (arith, c.len.ensures, c.ground.inside.journal.ok.0, ap (λ v. length v.journal) c.ground.view_is) in
    goes_here g t fs so within runs f lent c.args.limit c.depth.result c.depth.ensures started awake going (omega (arith, counted, c.if-limit-len.true))

pub returns-in_default : goal.returns-in_default
returns-in_default c =
    let g = c.args.ground.now in
    let t = c.args.t in
    let st = state_of g in
    let fs = c.args.frames.now in
    let so = c.requires.frames in
    let within = c.requires.thread in
    let runs = c.script-script.ensures.runs in
    let script = c.script-script in
    let f = c.index-frames-t.result in
    let lent = lent_here fs t c.t.inside.0 f _ c.index-frames-t.is c.t.view_is (within_frames g.script st.stands fs t so within) in
    let started : (flags_at t st.parts.flags).is_started ≡ true = ap (λ h. h.is_started) (sym c.flags-flags.ensures) ∙ c.if-not-flags.false in
    let none : ◌≡◌ None (demanded g.script st t) = demand_here g t fs so within runs f lent script.result.now None script.ensures.script c.in_default.ensures.demand in
    looked_done g c.args.limit t started (done_here g t fs so within runs f lent c.depth.result c.depth.ensures (sym none))

pub returns-then-makes_object : goal.returns-then-makes_object
returns-then-makes_object c =
    let g = c.args.ground.now in
    let t = c.args.t in
    let st = state_of g in
    let fs = c.args.frames.now in
    let so = c.requires.frames in
    let within = c.requires.thread in
    let runs = c.script-script.ensures.runs in
    let script = c.script-script in
    let f = c.index-frames-t.result in
    let lent = lent_here fs t c.t.inside.0 f _ c.index-frames-t.is c.t.view_is (within_frames g.script st.stands fs t so within) in
    let started : (flags_at t st.parts.flags).is_started ≡ true = ap (λ h. h.is_started) (sym c.flags-flags.ensures) ∙ c.if-not-flags.false in
    let x = c.in-Some.step in
    let demands : demanded g.script st t ≡ Some (demand_of x) = sym (demand_here g t fs so within runs f lent script.result.now (Some x) script.ensures.script c.in-Some.ensures.demand) in
    let awake : sleeps st t ≡ false = ap (λ h. is_asleep h.sleep) (sym c.flags-flags.ensures) ∙ sym c.if-is_asleep.ensures in
    let counted : c.len.result ≡ length g.journal = omega (arith, c.len.ensures, c.ground.inside.journal.ok.0, ap (λ v. length v.journal) c.ground.view_is) in
    let short : length g.journal < c.args.limit = omega (arith, counted, c.if-limit-len.false) in
    looked_full g c.args.limit t started awake (demand_of x) demands short (sym c.makes_object.ensures ∙ c.if-makes_object.true) (sym c.is_full.ensures ∙ c.if-is_full.true)

pub returns : goal.returns
returns c =
    let g = c.args.ground.now in
    let t = c.args.t in
    let st = state_of g in
    let fs = c.args.frames.now in
    let so = c.requires.frames in
    let within = c.requires.thread in
    let runs = c.script-script.ensures.runs in
    let script = c.script-script in
    let f = c.index-frames-t.result in
    let lent = lent_here fs t c.t.inside.0 f _ c.index-frames-t.is c.t.view_is (within_frames g.script st.stands fs t so within) in
    let started : (flags_at t st.parts.flags).is_started ≡ true = ap (λ h. h.is_started) (sym c.flags-flags.ensures) ∙ c.if-not-flags.false in
    let x = c.in-Some.step in
    let demands : demanded g.script st t ≡ Some (demand_of x) = sym (demand_here g t fs so within runs f lent script.result.now (Some x) script.ensures.script c.in-Some.ensures.demand) in
    let awake : sleeps st t ≡ false = ap (λ h. is_asleep h.sleep) (sym c.flags-flags.ensures) ∙ sym c.if-is_asleep.ensures in
    let counted : c.len.result ≡ length g.journal = omega (arith, c.len.ensures, c.ground.inside.journal.ok.0, ap (λ v. length v.journal) c.ground.view_is) in
    let short : length g.journal < c.args.limit = omega (arith, counted, c.if-limit-len.false) in
    let step = step_found g t fs so within runs f lent script.result.now x script.ensures.script c.in-Some.ensures.step in
    let room : (makes_line (Some (demand_of x)) && nat_le 65536 (length st.parts.objects)) ≡ false = elim c.else-is_full.branch [
      | else-is_full-via-then-is_full+else-makes_object w ↦ few_first _ _ (sym w.makes_object.ensures ∙ w.if-makes_object.false)
      | else-is_full-via-else-is_full w ↦ few_second _ _ (sym c.is_full.ensures ∙ w.if-is_full.false)
    ] in
    looked_acts g c.args.limit t started awake (demand_of x) demands short runs within c.requires.most c.requires.room room
    (record { thread = t; found = c.found_of-kept.result; action = c.action-kept.result }) refl
    (action_here g t fs so within runs f lent script.result.now c.action-kept.result (demand_of x) script.ensures.script c.action-kept.ensures)
    (c.found_of-kept.ensures g.script (facts_of st) t (stand_at t st.stands) step
    (placed_here g t fs so within runs f lent x c.block.result step (block_here g t fs so within runs f lent script.result.now c.block.result script.ensures.script c.block.ensures)))
