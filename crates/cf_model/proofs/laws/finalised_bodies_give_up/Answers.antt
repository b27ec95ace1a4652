-- Answers to the goals of `laws::finalised_bodies_give_up`.
use Rattle.cf_syntax.proofs.BlockLaws.{owned_fits}
use Rattle.cf_model.proofs.Waits.{given_up_along}
use Rattle.cf_model.proofs.laws.finalised_bodies_give_up.Goals as goal

pub returns : goal.returns
returns c = λ s es own. given_up_along s es (owned_fits s own)
