-- Answers to the goals of `modes::spot_of`.
use Rattle.std.proofs.Common.{rules, nat_lt}
use Rattle.std.proofs.lemmas.List.Sorted.{IsPartitionPoint-from_clause}
use Rattle.rl_modes.proofs.Cuts.{cut_from}
use Rattle.rl_modes.proofs.modes.spot_of.Goals as goal

pub returns : goal.returns
returns c = cut_from _ _ _ c.partition_point.ensures.bound
    (IsPartitionPoint-from_clause (λ n. nat_lt n c.args.mode) _ _ c.partition_point.ensures.partitioned c.requires
    (λ a r q k. search rules))
