use Rattle.std.proofs.Common.{◌∙◌, ap, sym, ℕ, replicate}
use Rattle.cf_loops.proofs.Looking.{thread_there}
use Rattle.cf_loops.proofs.Invalidating.{dropped_objects}
use Rattle.cf_loops.proofs.loops.Loops.dropped.Goals as goal

pub returns-in-Some : goal.returns-in-Some
returns-in-Some c = λ s st h lt.
    dropped_objects s st c.args.self.now c.args.t c.args.i c.in-Some.modes.now h c.in-Some.ensures c.args.place.now
    ∙ ap (λ (n : ℕ). replicate n c.args.i) (sym c.count_dropped.ensures)

pub returns-in-None : goal.returns-in-None
returns-in-None c = λ s st h lt. absurd (thread_there s st.parts st.edges c.args.self.now c.args.t h c.in-None.ensures lt)
