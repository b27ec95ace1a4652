use Rattle.cf_loops.proofs.Entering.{room_kept}
use Rattle.cf_loops.proofs.loops.Loops.reserve_add.Goals as goal

pub returns-in-Some-clause-kept : goal.returns-in-Some-clause-kept
returns-in-Some-clause-kept c = λ s st h. room_kept s st c.args.self.now c.reserve.new.self c.args.t c.requires c.reserve.ensures.only_room h
