-- Answers to the goals of `rows::place_of`.
use Rattle.std.proofs.Common.{ltb, rules}
use Rattle.std.proofs.lemmas.Bool.{ltb-true, ltb-false}
use Rattle.std.proofs.lemmas.List.Sorted.{IsPartitionPoint-from_clause}
use Rattle.rl_timers.proofs.Tables.{lower_first}
use Rattle.rl_timers.proofs.rows.place_of.Goals as goal

pub returns : goal.returns
returns c =
    let t = c.args.t in
    let point = IsPartitionPoint-from_clause (λ r. ltb r.number t) _ _ c.partition_point.ensures.partitioned
    (lower_first _ t c.requires) (λ a r f called. search rules) in
    record {
      within = c.partition_point.ensures.bound;
      lower = λ k d low high. ltb-true _ t (point.0 k d low high);
      higher = λ k d low high. ltb-false _ t (point.1 k d low high);
    }
