-- Answers to the goals of `run::Run::release`.
use Rattle.std.proofs.Common.{ℕ, ◌+◌, Some, sym, subst, ◌∙◌}
use Rattle.cf_world.specs.Worlds.{entered}
use Rattle.cf_serial.specs.Running.{IsStep}
use Rattle.cf_serial.proofs.Growing.{acting_of, clock_stays, cut_ends, cut_made, cut_some, entered_is, run_cut}
use Rattle.cf_serial.proofs.run.Run.release.Goals as goal

pub ended-ended-requires : goal.ended-ended-requires
ended-ended-requires c =
    let r = c.args.self.now in
    let p = acting_of r c.args.t (Some c.args.o) c.requires.acts in
    record { made = cut_made r c.requires.run c.args.t p.action c.requires.acts.picked_is p.acts c.args.o p.cut_is }

pub release-requires-clause-ended : goal.release-requires-clause-ended
release-requires-clause-ended c =
    let r = c.args.self.now in
    let p = acting_of r c.args.t (Some c.args.o) c.requires.acts in
    c.ended-ended.ensures ∙ cut_ends r c.requires.run c.args.t p.action c.requires.acts.picked_is p.acts c.args.o p.cut_is

pub lower-requires-clause-made : goal.lower-requires-clause-made
lower-requires-clause-made c =
    let r = c.args.self.now in
    let p = acting_of r c.args.t (Some c.args.o) c.requires.acts in
    cut_made r c.requires.run c.args.t p.action c.requires.acts.picked_is p.acts c.args.o p.cut_is

pub lower-requires-clause-some : goal.lower-requires-clause-some
lower-requires-clause-some c =
    let r = c.args.self.now in
    let p = acting_of r c.args.t (Some c.args.o) c.requires.acts in
    cut_some r c.requires.run c.args.t p.action c.requires.acts.picked_is p.acts c.args.o p.cut_is

pub returns-clause-step : goal.returns-clause-step
returns-clause-step c =
    let r = c.args.self.now in
    let p = acting_of r c.args.t (Some c.args.o) c.requires.acts in
    let w = c.release.new.self in
    let is = entered_is r c.requires.run c.args.t p.action c.requires.acts.picked_is p.acts w (λ before gained. before) c.release.ensures.entered in
    subst (λ (p : ℕ). IsStep r (record { world = w; threads = r.threads; pointer = p + 1; numbers = c.lower.new.self; stalled = r.stalled })) (sym c.t.view_is)
    (run_cut r c.requires.run c.args.t p.action c.requires.acts.picked_is p.acts c.args.o p.cut_is w r.world.gained c.lower.new.self is c.lower.ensures)

pub returns-clause-clock : goal.returns-clause-clock
returns-clause-clock c = λ now.
    let r = c.args.self.now in
    let p = acting_of r c.args.t (Some c.args.o) c.requires.acts in
    let w = c.release.new.self in
    let is = entered_is r c.requires.run c.args.t p.action c.requires.acts.picked_is p.acts w (λ before gained. before) c.release.ensures.entered in
    clock_stays r c.requires.run c.args.t p.action c.requires.acts.picked_is p.acts w r.world.gained c.lower.new.self now is
