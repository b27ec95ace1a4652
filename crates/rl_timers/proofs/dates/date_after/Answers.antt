-- Answers to the goals of `dates::date_after`.
use Rattle.std.proofs.Common.{arith}
use Rattle.std.proofs.lemmas.Bool.Decides.{nat_tests}
use Rattle.rl_timers.proofs.NextDates.{date_before_first}
use Rattle.rl_timers.proofs.dates.date_after.Goals as goal

pub returns-then-now-first : goal.returns-then-now-first
returns-then-now-first c =
    let is = date_before_first c.args.first c.args.interval c.args.now (omega arith) (omega arith) in
    grind (arith, nat_tests)
