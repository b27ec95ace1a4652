-- Answers to the goals of `searches::first_item`.
use Rattle.std.proofs.Common.{rules, nat_lt}
use Rattle.std.proofs.lemmas.List.Sorted.{IsPartitionPoint-from_clause}
use Rattle.rl_modes.proofs.Cuts.{cut_from}
use Rattle.rl_modes.proofs.searches.first_item.Goals as goal

pub returns : goal.returns
returns c = cut_from _ _ _ c.partition_point.ensures.bound
    (IsPartitionPoint-from_clause (λ i. nat_lt i.id c.args.least) _ _ c.partition_point.ensures.partitioned c.requires
    (λ a r q k. search rules))
