use Rattle.std.proofs.Common.{◌∙◌, sym}
use Rattle.rl_base.specs.declared.places.Place.TheVariants.{Mode}
use Rattle.cf_loops.specs.Following.{no_loop}
use Rattle.cf_loops.proofs.Telling.{held_is}
use Rattle.cf_loops.proofs.Looking.{loop_found, loop_missing}
use Rattle.cf_loops.proofs.loops.Loops.holds.Goals as goal

pub returns-in-Some : goal.returns-in-Some
returns-in-Some c = λ s st h.
    let l = c.in-Some.modes.now in
    c.holds.ensures ∙ sym (held_is s st.parts st.edges c.args.t l (loop_found s st.parts st.edges c.args.self.now c.args.t l h c.in-Some.ensures) (Mode c.args.m) c.args.i)

pub returns-in-None : goal.returns-in-None
returns-in-None c = λ s st h.
    sym (held_is s st.parts st.edges c.args.t no_loop (loop_missing s st.parts st.edges c.args.self.now c.args.t h c.in-None.ensures) (Mode c.args.m) c.args.i)
