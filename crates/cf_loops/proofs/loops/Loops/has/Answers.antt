use Rattle.std.proofs.Common.{◌∙◌, sym, ap}
use Rattle.rl_modes.specs.Loops.{Loop, holds_at}
use Rattle.cf_loops.specs.Following.{no_loop}
use Rattle.cf_loops.proofs.Telling.{held_is}
use Rattle.cf_loops.proofs.Looking.{found_is, loop_found, loop_missing, missing_is}
use Rattle.cf_loops.proofs.loops.Loops.has.Goals as goal

pub returns-in-Some : goal.returns-in-Some
returns-in-Some c =
    let l = c.in-Some.modes.now in
    record {
      here = c.holds.ensures ∙ ap (λ (m : Loop). holds_at m.held c.args.i c.args.place.now) (sym (found_is c.args.self.now c.args.t l c.in-Some.ensures));
      known = λ s st h. c.holds.ensures ∙ sym (held_is s st.parts st.edges c.args.t l (loop_found s st.parts st.edges c.args.self.now c.args.t l h c.in-Some.ensures) c.args.place.now c.args.i);
    }

pub returns-in-None : goal.returns-in-None
returns-in-None c = record {
  here = ap (λ (m : Loop). holds_at m.held c.args.i c.args.place.now) (sym (missing_is c.args.self.now c.args.t c.in-None.ensures));
  known = λ s st h. sym (held_is s st.parts st.edges c.args.t no_loop (loop_missing s st.parts st.edges c.args.self.now c.args.t h c.in-None.ensures) c.args.place.now c.args.i);
}
