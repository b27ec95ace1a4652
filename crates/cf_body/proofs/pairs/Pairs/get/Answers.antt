-- Answers to the goals of `pairs::Pairs::get`.
use Rattle.std.proofs.Common.{Some, None}
use Rattle.cf_body.proofs.Pairing.{got}
use Rattle.cf_body.proofs.pairs.Pairs.get.Goals as goal

pub returns-in-Some : goal.returns-in-Some
returns-in-Some c = rw (← c.self.view_is) (got _ _ _ _ (Some c.in-Some.value.now) c.self.invariant c.in-Some.ensures)

pub returns-in-None : goal.returns-in-None
returns-in-None c = rw (← c.self.view_is) (got _ _ _ _ None c.self.invariant c.in-None.ensures)
