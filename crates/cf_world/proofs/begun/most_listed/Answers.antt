-- Answers to the goals of `begun::most_listed`.
use Rattle.std.proofs.Common.{ap, sym, subst, arith}
use Rattle.cf_next.specs.Stands.{Stand}
use Rattle.cf_next.specs.Standing.{innermost_run}
use Rattle.cf_world.specs.Begun.{AreMost, FitsPhase}
use Rattle.cf_world.specs.Grounds.{state_of}
use Rattle.cf_world.proofs.Collecting.{phase_more}
use Rattle.cf_world.proofs.Moving.{lent_here}
use Rattle.cf_world.proofs.Rounds.{stand_told}
use Rattle.cf_world.proofs.begun.most_listed.Goals as goal

pub returns-in-Enters-clause-most : goal.returns-in-Enters-clause-most
returns-in-Enters-clause-most c =
    let g = c.args.ground.now in
    let st = state_of g in
    let fs = c.args.frames.now in
    let t = c.args.reserved.now.thread in
    let p = c.in-Enters.phase in
    let lent = lent_here fs t c.t.inside.0 c.index-frames-t.result _ c.index-frames-t.is c.t.view_is (omega (arith, c.requires.frames.count, c.requires.found.acts.thread)) in
    let run = ap (λ (s : Stand). innermost_run s.frames) (stand_told g fs t c.index-frames-t.result c.requires.frames lent) in
    subst (AreMost g t c.max.result) (sym c.in-Enters.is)
    (phase_more st t c.most_collected.result c.max.result p _ (omega (arith, c.max.ensures)) (subst (FitsPhase st t c.most_collected.result p) run c.most_collected.ensures))
