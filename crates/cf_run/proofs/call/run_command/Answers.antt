-- Answers to the goals of `call::run_command`.
use Rattle.std.proofs.Common.{map}
use Rattle.cf_run.specs.Calls.{told_by}
use Rattle.cf_run.proofs.Concluding.{can_write}
use Rattle.cf_run.proofs.call.run_command.Goals as goal

pub conclude-requires : goal.conclude-requires
conclude-requires g c =
    can_write (map (λ w. w.now) c.args.words.now) (told_by g.S.Source.files g.S.Source.left g.S.Source.faults c.args.source.now)
    (told_by g.S.Source.files g.S.Source.left g.S.Source.faults c.settle.new.source) c.in-Ok.settled c.in-Ok.ensures
