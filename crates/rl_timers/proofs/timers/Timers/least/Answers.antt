-- Answers to the goals of `timers::Timers::least`.
use Rattle.std.proofs.Common.{sym, ap, ◌∙◌}
use Rattle.rl_timers.specs.Timings.{Timing, least_among, numbers_of}
use Rattle.rl_timers.proofs.Choosing.{first_of, none_dated, earliest_is_least}
use Rattle.rl_timers.proofs.timers.Timers.least.Goals as goal

pub returns-in_err-earliest : goal.returns-in_err-earliest
returns-in_err-earliest c =
    let rows = c.self.inside.rows.items in
    let numbers = numbers_of c.args.items.now in
    let first = c.in_err-earliest.ensures ∙ ap first_of c.self.invariant.listed in
    let none = ap (λ (s : Timing). least_among s.timers numbers) (sym c.self.view_is)
    ∙ none_dated rows (sym first) numbers in
    c.from_residual.ensures ∙ sym none

pub least_among-requires-clause-earliest : goal.least_among-requires-clause-earliest
least_among-requires-clause-earliest c =
    let first = c.in_ok-earliest.ensures ∙ ap first_of c.self.invariant.listed in
    λ t date is. earliest_is_least c.self.inside.rows.items c.as_slice.result.now c.in_ok-earliest.earliest t date
    c.as_slice.ensures.value (sym first) is
