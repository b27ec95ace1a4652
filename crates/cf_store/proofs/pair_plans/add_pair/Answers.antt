-- Answers to the goals of `pair_plans::add_pair`.
use Rattle.cf_store.proofs.Doing.{put_does}
use Rattle.cf_store.proofs.pair_plans.add_pair.Goals as goal

pub returns-in-None : goal.returns-in-None
returns-in-None c = rw c.in-None.is (put_does _ _ _ _ _ _ c.requires.puts c.in-Some.ensures c.changing.ensures)
