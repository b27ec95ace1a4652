-- Answers to the goals of `loops::stop_run`.
use Rattle.std.proofs.Common.{◌∙◌, ap}
use Rattle.cf_next.specs.Stands.{stop_stand}
use Rattle.cf_next.specs.Standing.{Standing}
use Rattle.cf_world.proofs.Moving.{lent_here, stopped_by, within_some}
use Rattle.cf_world.proofs.loops.stop_run.Goals as goal

pub returns-in-Some : goal.returns-in-Some
returns-in-Some c = λ s stands so.
    let fs = c.args.frames.now.items in
    let u = c.in-Some.thread in
    let within = within_some c.args.stopped u fs c.in-Some.is c.requires in
    let lent = lent_here fs u c.thread.inside.0 c.index_mut.result.now _ c.index_mut.ensures.value c.thread.view_is within in
    stopped_by s stands fs u c.thread.inside.0 c.args.stopped c.stop.new.self so within c.in-Some.is c.thread.view_is
    (c.stop.ensures.thread ∙ ap (λ (f : Standing). f.thread) lent) (c.stop.ensures.stand ∙ ap (λ (f : Standing). stop_stand f.stand) lent)
