-- Answers to the goals of `leading::next_while_going`.
use Rattle.std.proofs.Common.{◌≡◌, ◌∙◌, ◌+◌, ◌<◌, Bool, true, false, length, refl, sym, subst, arith}
use Rattle.cf_model.specs.Journals.{has_stalled, is_going}
use Rattle.cf_world.specs.Grounds.{state_of}
use Rattle.cf_world.proofs.Awaiting.{Passed, down, goes, is_over, lead_awake, passed_asleep, passed_idle, unstarted, up}
use Rattle.cf_world.proofs.Moving.{lent_here}
use Rattle.cf_world.proofs.leading.next_while_going.Goals as goal
use Rattle.cf_world.proofs.leading.next_while_going.Goals.{then-flags+then-not-is_done+in-Until, else-flags, else-flags-via-then-flags+else-not-is_done, else-flags-via-else-flags}

pub returns-in_default : goal.returns-in_default
returns-in_default c =
    let g = c.args.ground.now in
    let st = state_of g in
    let fs = c.args.frames.now in
    let t = c.loop-t.t in
    let within : t < length fs = omega arith in
    let lent = lent_here fs t t c.index-frames-t.result _ c.index-frames-t.is refl within in
    let so = c.requires.frames in
    lead_awake g.script st (has_stalled g.journal) t (omega (arith, so.count))
    (goes g.script st fs so t _ c.flags-flags.result c.index-frames-t.result c.is_done.result lent c.flags-flags.ensures (omega arith) c.is_done.ensures c.if-flags.true c.if-not-is_done.true)
    (up g.script st fs so t _ c.flags-flags.result c.index-frames-t.result c.is_done.result lent c.flags-flags.ensures (omega arith) c.is_done.ensures c.in_default.is)
    c.requires.going

pub loop-t-preserved : goal.loop-t-preserved
loop-t-preserved c =
    let g = c.args.ground.now in
    let st = state_of g in
    let fs = c.args.frames.now in
    let so = c.requires.frames in
    let t = c.loop-t.t in
    let within : t < length fs = omega arith in
    elim c.if-flags.branch [
      | then-flags+then-not-is_done+in-Until w ↦
          let lent = lent_here fs t t w.index-frames-t.result _ w.index-frames-t.is refl within in
          subst (λ (b : Bool). Passed st (t + 1) b c.if-flags.due) (sym w.some_sleep-is)
          (subst (Passed st (t + 1) true) (sym (w.due-is ∙ w.earlier-due.ensures))
          (passed_asleep st t c.loop-t.some_sleep c.loop-t.due _ c.loop-t.invariant
          (goes g.script st fs so t _ c.flags-flags.result w.index-frames-t.result w.is_done.result lent c.flags-flags.ensures (omega arith) w.is_done.ensures w.if-flags.true w.if-not-is_done.true)
          (down g.script st fs so t _ c.flags-flags.result w.index-frames-t.result w.is_done.result lent c.flags-flags.ensures (omega arith) w.is_done.ensures _ w.in-Until.is)))
      | else-flags w ↦
          let idle : is_going st t ≡ false = elim w.else-flags.branch [
            | else-flags-via-then-flags+else-not-is_done v ↦
                let lent = lent_here fs t t v.index-frames-t.result _ v.index-frames-t.is refl within in
                is_over g.script st fs so t _ c.flags-flags.result v.index-frames-t.result v.is_done.result lent c.flags-flags.ensures (omega arith) v.is_done.ensures v.if-not-is_done.false
            | else-flags-via-else-flags v ↦ unstarted st t _ c.flags-flags.result c.flags-flags.ensures (omega arith) v.if-flags.false
          ] in
          subst (λ (b : Bool). Passed st (t + 1) b c.if-flags.due) (sym w.some_sleep-is)
          (subst (Passed st (t + 1) c.loop-t.some_sleep) (sym w.due-is)
          (passed_idle st t c.loop-t.some_sleep c.loop-t.due c.loop-t.invariant idle))
    ]
