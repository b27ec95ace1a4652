-- Answers to the goals of `frames::Frames::advance_by`.
use Rattle.std.proofs.Common.{◌∙◌, ap}
use Rattle.cf_next.specs.Advance.{advanced}
use Rattle.cf_next.specs.Standing.{finals_in}
use Rattle.cf_next.specs.Steps.{demand_of}
use Rattle.cf_next.proofs.FormLaws.{step-fits}
use Rattle.cf_next.proofs.frames.Frames.advance_by.Goals as goal

pub returns-clause-stand : goal.returns-clause-stand
returns-clause-stand g c =
    let facts = g.F.Facts.known c.args.facts.now in
    let now = c.args.self.now in
    c.go_on.ensures.stand (step-fits c.args.script.now facts now.thread now.stand c.args.step.now c.requires.step c.has_numbers.ensures)
    ∙ ap (λ cut. advanced facts now.thread (demand_of c.args.step.now) c.args.answer.now (finals_in cut c.args.answer.now) c.args.list.now now.stand) c.cut.ensures
