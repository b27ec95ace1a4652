-- Answers to the goals of `ground::Ground::last_answer`.
use Rattle.cf_world.proofs.Telling.{last_told}
use Rattle.cf_world.proofs.ground.Ground.last_answer.Goals as goal

pub returns-in-Some : goal.returns-in-Some
returns-in-Some c = rw (← c.self.view_is) (last_told c.self.inside.journal.items c.in-Some.entry.now (rw c.as_slice.ensures.value at c.in-Some.ensures.value))
