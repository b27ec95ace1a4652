-- Answers to the goals of `laws::bits_of_sources`.
use Rattle.rl_base.proofs.SignalsLemmas.{valid_bit-after, signal_bit-after, valid_bit-left, signal_bit-left}
use Rattle.rl_base.proofs.laws.bits_of_sources.Goals as goal

pub returns : goal.returns
returns c = record {
  valid = λ calls s. valid_bit-after s calls;
  signalled = λ calls s. signal_bit-after s calls;
  valid_left = λ calls s. valid_bit-left s calls;
  signalled_left = λ calls s. signal_bit-left s calls;
}
