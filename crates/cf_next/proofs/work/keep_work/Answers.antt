-- Answers to the goals of `work::keep_work`.
use Rattle.std.proofs.Common.{◌∙◌, ap, arith}
use Rattle.cf_next.specs.Views.{work_of, works_of}
use Rattle.cf_next.proofs.StackLaws.{kept-last}
use Rattle.cf_next.proofs.work.keep_work.Goals as goal

pub returns-clause-items : goal.returns-clause-items
returns-clause-items c =
    ap works_of c.truncate.ensures.items ∙ kept-last work_of c.args.left c.args.work.now.items (omega (arith, c.args.work.now.ok, c.requires))
