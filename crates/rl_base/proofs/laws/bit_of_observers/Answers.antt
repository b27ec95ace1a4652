-- Answers to the goals of `laws::bit_of_observers`.
use Rattle.rl_base.proofs.ActivitiesLemmas.{observer_bit-after, observer_bit-left}
use Rattle.rl_base.proofs.laws.bit_of_observers.Goals as goal

pub returns : goal.returns
returns c = record {
  valid = λ calls o. observer_bit-after o calls;
  valid_left = λ calls o. observer_bit-left o calls;
}
