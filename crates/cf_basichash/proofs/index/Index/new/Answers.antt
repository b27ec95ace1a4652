-- Answers to the goals of `index::Index::new`.
use Rattle.cf_basichash.proofs.PlacesLemmas.{index_within_none}
use Rattle.cf_basichash.proofs.index.Index.new.Goals as goal

pub invariant_of-result : goal.invariant_of-result
invariant_of-result c = index_within_none _ _ _ c.new.ensures.items c.new-2.ensures.items
