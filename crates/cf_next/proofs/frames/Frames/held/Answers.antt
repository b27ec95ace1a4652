-- Answers to the goals of `frames::Frames::held`.
use Rattle.std.proofs.Common.{◌≡◌, ◌∙◌, ap}
use Rattle.std.proofs.lemmas.Result.{IfOk-weaker}
use Rattle.cf_next.specs.Standing.{Standing}
use Rattle.cf_next.specs.Views.{works_of}
use Rattle.cf_next.proofs.HeldLaws.{held-whole}
use Rattle.cf_next.proofs.frames.Frames.held.Goals as goal

pub returns-clause-objects : goal.returns-clause-objects
returns-clause-objects c =
    let f = c.self.inside in
    IfOk-weaker c.add_owed.result _ _
    (λ done owed.
    held-whole c.args.script.now c.args.self.now.stand f.stack.frames (works_of c.as_slice.result.now) c.args.out.now.items c.add_frames.new.out.items c.add_owed.new.out.items
    (ap (λ (x : Standing). x.stand.frames) c.self.view_is)
    (ap works_of c.as_slice.ensures.value ∙ ap (λ (x : Standing). x.stand.work) c.self.view_is)
    c.in_ok-add_frames.ensures.objects owed)
    c.add_owed.ensures
