use Rattle.cf_loops.proofs.Entering.{room_kept}
use Rattle.cf_loops.proofs.loops.Loops.reserve_common.Goals as goal

pub returns-clause-kept : goal.returns-clause-kept
returns-clause-kept c = λ s st h. room_kept s st c.args.self.now c.reserve.new.self c.args.t c.requires c.reserve.ensures.only_room h
