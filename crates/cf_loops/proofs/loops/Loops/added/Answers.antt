use Rattle.std.proofs.Common.{◌∙◌, ap, sym, length}
use Rattle.rl_base.specs.declared.places.Place.{Place}
use Rattle.cf_model.specs.Deals.{places_added}
use Rattle.cf_loops.proofs.Looking.{added_count, thread_there}
use Rattle.cf_loops.proofs.loops.Loops.added.Goals as goal

pub returns-in-Some : goal.returns-in-Some
returns-in-Some c = λ s st h lt.
    let count = added_count s st c.args.self.now c.args.t c.args.i c.in-Some.modes.now h c.in-Some.ensures in
    c.count_added.ensures count.0 ∙ count.1 ∙ ap (λ (q : Place). length (places_added s c.args.t c.args.i st q)) (sym c.in-Common.is)

pub returns-in-None : goal.returns-in-None
returns-in-None c = λ s st h lt. absurd (thread_there s st.parts st.edges c.args.self.now c.args.t h c.in-None.ensures lt)
