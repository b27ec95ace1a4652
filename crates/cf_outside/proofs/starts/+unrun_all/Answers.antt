-- Answers to the goals of `starts::+unrun_all`.
use Rattle.std.proofs.Common.{rules}
use Rattle.cf_outside.proofs.Zipped.{zip_more}
use Rattle.cf_outside.proofs.starts.+unrun_all.Goals as goal

pub returns-in-Some-clause-outs : goal.returns-in-Some-clause-outs
returns-in-Some-clause-outs g t c =
    zip_more
    g.J.Job.keeps
    c.pop.new.self.items
    c.args.jobs.items
    c.unrun_all-outs.result.items
    c.push_reserved.new.self.items
    c.in-Some.job
    c.unrun.result
    (search rules)
    c.push_reserved.ensures.items
    c.unrun_all-outs.ensures.outs
    c.unrun.ensures
