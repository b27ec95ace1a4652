-- Answers to the goals of `frames::Frames::advance`.
use Rattle.std.proofs.Common.{◌∙◌, Option, ap, subst}
use Rattle.std.specs.Prelude.{IfSome}
use Rattle.cf_next.specs.declared.step.Step.{Step}
use Rattle.cf_next.specs.Advance.{advanced}
use Rattle.cf_next.specs.Standing.{finals_in}
use Rattle.cf_next.specs.Steps.{IsStep, demand_of}
use Rattle.cf_next.proofs.FormLaws.{cut-same, step-fits}
use Rattle.cf_next.proofs.frames.Frames.advance.Goals as goal

pub returns-then-is_post-clause-stand : goal.returns-then-is_post-clause-stand
returns-then-is_post-clause-stand g c =
    let facts = g.F.Facts.known c.args.facts.now in
    let script = c.args.script.now in
    let now = c.args.self.now in
    let step = c.in-Some.step in
    let is = subst (λ (o : Option Step). IfSome o (IsStep script facts now.thread now.stand)) c.in-Some.is c.step.ensures.step in
    λ e. rw is.demand (c.go_on.ensures.stand (step-fits script facts now.thread now.stand step is c.has_numbers.ensures)
    ∙ ap (λ cut. advanced facts now.thread (demand_of step) c.args.answer.now (finals_in cut c.args.answer.now) c.args.list.now now.stand) (cut-same script facts now.thread now.stand c.args.action.now step is e c.cut_of.result c.cut_of.ensures.retain c.cut_of.ensures.other))
