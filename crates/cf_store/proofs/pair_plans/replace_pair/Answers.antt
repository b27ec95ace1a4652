-- Answers to the goals of `pair_plans::replace_pair`.
use Rattle.cf_store.proofs.Doing.{put_does}
use Rattle.cf_store.proofs.pair_plans.replace_pair.Goals as goal

pub returns-in-Some-old : goal.returns-in-Some-old
returns-in-Some-old c = rw c.in-Some-old.is (put_does _ _ _ _ _ _ c.requires.puts c.in-Some.ensures c.changing.ensures)
