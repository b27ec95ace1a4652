-- Answers to the goals of `searches::first_place`.
use Rattle.std.proofs.Common.{rules, nat_lt}
use Rattle.std.proofs.lemmas.List.Sorted.{IsPartitionPoint-from_clause}
use Rattle.rl_base.specs.Modes.{rank}
use Rattle.rl_modes.proofs.Cuts.{cut_from}
use Rattle.rl_modes.proofs.searches.first_place.Goals as goal

pub returns : goal.returns
returns c = cut_from _ _ _ c.partition_point.ensures.bound
    (IsPartitionPoint-from_clause (λ p. nat_lt (rank p) c.args.least) _ _ c.partition_point.ensures.partitioned
    c.requires (λ a r q k. search rules))
