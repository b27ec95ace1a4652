-- Answers to the goals of `pair_plans::remove_pair`.
use Rattle.cf_store.proofs.Doing.{remove_does}
use Rattle.cf_store.proofs.pair_plans.remove_pair.Goals as goal

pub returns-in-Some : goal.returns-in-Some
returns-in-Some c = rw c.in-Some.is (remove_does _ _ _ c.requires.removes c.changing.ensures)
