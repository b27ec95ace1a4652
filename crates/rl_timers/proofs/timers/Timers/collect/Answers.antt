-- Answers to the goals of `timers::Timers::collect`.
use Rattle.std.proofs.Common.{◌≡◌, ◌++◌, false, [], sym, ap, ◌∙◌}
use Rattle.std.proofs.lemmas.List.{append-nil}
use Rattle.rl_base.specs.Dates.{has_come}
use Rattle.rl_timers.specs.Timings.{Timing, due_among, numbers_of}
use Rattle.rl_timers.specs.Rows.{queued}
use Rattle.rl_timers.proofs.Choosing.{first_of, none_due}
use Rattle.rl_timers.proofs.timers.Timers.collect.Goals as goal

pub returns-else-has_come-clause-collected : goal.returns-else-has_come-clause-collected
returns-else-has_come-clause-collected c =
    let rows = c.self.inside.rows.items in
    let numbers = numbers_of c.args.items.now in
    let first = c.first_date.ensures ∙ ap first_of c.self.invariant.listed in
    let early : has_come (first_of (queued rows)) c.args.now ≡ false = ap (λ o. has_come o c.args.now) (sym first)
    ∙ sym c.has_come.ensures ∙ c.if-has_come.false in
    let none : due_among c.args.self.now.timers c.args.now numbers
    ≡ [] = ap (λ (s : Timing). due_among s.timers c.args.now numbers) (sym c.self.view_is)
    ∙ none_due rows c.args.now early numbers in
    sym (ap (λ l. c.args.out.now.items ++ l) none ∙ append-nil c.args.out.now.items)
