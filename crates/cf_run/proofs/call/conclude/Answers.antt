-- Answers to the goals of `call::conclude`.
use Rattle.cf_run.specs.Calls.{call_by, took_by}
use Rattle.cf_run.proofs.Concluding.{concluded}
use Rattle.cf_run.proofs.call.conclude.Goals as goal

pub returns : goal.returns
returns g c = λ words before after h.
    concluded (call_by words before after (took_by g.K.Sink.taken g.K.Sink.faults c.args.sink.now)
    (took_by g.K.Sink.taken g.K.Sink.faults c.write_settled-written.new.sink) (record { status = c.status_after-status.result; journal = c.into_journal.result }))
    c.write_settled-written.result c.args.settled h c.status_after-status.ensures c.into_journal.ensures c.write_settled-written.ensures
