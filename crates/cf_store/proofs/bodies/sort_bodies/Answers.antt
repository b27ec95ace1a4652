-- Answers to the goals of `bodies::sort_bodies`.
use Rattle.std.proofs.Common.{◌∙◌, arith, rules}
use Rattle.cf_store.proofs.Setting.{same_set}
use Rattle.cf_store.proofs.bodies.sort_bodies.Goals as goal

pub loop-place-preserved : goal.loop-place-preserved
loop-place-preserved c = record {
  items = same_set _ c.loop-place.place _ _ (omega arith) c.index_mut.ensures.value c.sort.ensures ∙ c.loop-place.invariant.items;
  len = search rules;
  capacity = search rules;
}
