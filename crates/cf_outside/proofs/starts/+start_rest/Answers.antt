-- Answers to the goals of `starts::+start_rest`.
use Rattle.std.proofs.Common.{rules}
use Rattle.cf_outside.proofs.Zipped.{zip_more}
use Rattle.cf_outside.proofs.starts.+start_rest.Goals as goal

pub returns-in-Ok-clause-outs : goal.returns-in-Ok-clause-outs
returns-in-Ok-clause-outs g t c =
    zip_more
    g.J.Job.keeps
    c.pop.new.self.items
    c.args.jobs.items
    c.start_rest-joined.result.outs.items
    c.push_reserved.new.self.items
    c.in-Some.job
    c.join.result
    (search rules)
    c.push_reserved.ensures.items
    c.start_rest-joined.ensures.outs
    (search rules)

pub returns-in-Err-clause-outs : goal.returns-in-Err-clause-outs
returns-in-Err-clause-outs g t c =
    zip_more
    g.J.Job.keeps
    c.pop.new.self.items
    c.args.jobs.items
    c.unrun_all-outs.result.items
    c.push_reserved-in-Err.new.self.items
    c.in-Some.job
    c.work.result
    (search rules)
    c.push_reserved-in-Err.ensures.items
    c.unrun_all-outs.ensures.outs
    (search rules)
