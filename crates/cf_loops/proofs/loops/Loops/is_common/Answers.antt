use Rattle.std.proofs.Common.{◌∙◌}
use Rattle.cf_loops.proofs.Looking.{common_told, thread_there}
use Rattle.cf_loops.proofs.loops.Loops.is_common.Goals as goal

pub returns-in-Some : goal.returns-in-Some
returns-in-Some c = λ s st h lt mode.
    c.is_common.ensures ∙ common_told s st.parts st.edges c.args.self.now c.args.t c.args.m c.in-Some.modes.now h c.in-Some.ensures mode

pub returns-in-None : goal.returns-in-None
returns-in-None c = λ s st h lt mode. absurd (thread_there s st.parts st.edges c.args.self.now c.args.t h c.in-None.ensures lt)
