use Rattle.std.proofs.Common.{◌∙◌}
use Rattle.cf_loops.specs.Following.{no_loop}
use Rattle.cf_loops.proofs.Looking.{empty_told, loop_found, loop_missing}
use Rattle.cf_loops.proofs.loops.Loops.is_empty.Goals as goal

pub returns-in-Some : goal.returns-in-Some
returns-in-Some c = λ s st h.
    let l = c.in-Some.modes.now in
    c.is_empty.ensures ∙ empty_told s st.parts st.edges c.args.t l (loop_found s st.parts st.edges c.args.self.now c.args.t l h c.in-Some.ensures) c.args.m

pub returns-in-None : goal.returns-in-None
returns-in-None c = λ s st h.
    empty_told s st.parts st.edges c.args.t no_loop (loop_missing s st.parts st.edges c.args.self.now c.args.t h c.in-None.ensures) c.args.m
