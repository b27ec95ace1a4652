-- Answers to the goals of `ground::GroundFacts::is_empty`.
use Rattle.cf_model.specs.Journals.{After}
use Rattle.cf_world.proofs.ground.GroundFacts.is_empty.Goals as goal

pub returns : goal.returns
returns c =
    let g = c.self.inside in
    rw (← c.self.view_is) (c.is_empty.ensures g.script (After g.script g.journal.items) c.self.invariant.follows.has_loops.loops_are)
