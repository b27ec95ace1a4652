-- Answers to the goals of `searches::seat_of`.
use Rattle.std.proofs.Common.{rules}
use Rattle.std.proofs.lemmas.List.Sorted.{IsPartitionPoint-from_clause}
use Rattle.rl_modes.specs.Fields.{sits_before}
use Rattle.rl_modes.proofs.Cuts.{cut_from}
use Rattle.rl_modes.proofs.searches.seat_of.Goals as goal

pub returns-clause-cut : goal.returns-clause-cut
returns-clause-cut c = cut_from _ _ _ c.partition_point.ensures.bound
    (IsPartitionPoint-from_clause (sits_before c.args.item c.args.place.now) _ _ c.partition_point.ensures.partitioned
    c.requires (λ a r q k. search rules))
