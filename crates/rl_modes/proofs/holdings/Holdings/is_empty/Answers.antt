-- Answers to the goals of `holdings::Holdings::is_empty`.
use Rattle.rl_modes.proofs.Looks.{count_tells}
use Rattle.rl_modes.proofs.holdings.Holdings.is_empty.Goals as goal

pub returns : goal.returns
returns c = rw (← c.self.view_is, c.count_of.ensures, c.as_slice.ensures.value, c.self.invariant.0.counted)
    (count_tells c.args.mode _)
