-- Answers to the goals of `enter::advance`.
use Rattle.std.proofs.Common.{ℕ, ◌<◌, length, sym, subst}
use Rattle.cf_machine.proofs.Entering.{there}
use Rattle.cf_machine.proofs.enter.advance.Goals as goal

pub advance-requires-clause-there : goal.advance-requires-clause-there
advance-requires-clause-there c =
    subst (λ (t : ℕ). t < length c.args.stands.now) (sym c.thread_of.ensures)
    (there c.args.script.now _ c.args.entry.now.thread c.args.stands.now c.args.step.now c.requires)
