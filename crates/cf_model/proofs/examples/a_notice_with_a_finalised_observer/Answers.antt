-- Answers to the goals of `examples::a_notice_with_a_finalised_observer`.
use Rattle.std.proofs.Common.{refl}
use Rattle.cf_contents.proofs.OnLiterals.{description_on_literals}
use Rattle.cf_model.proofs.examples.a_notice_with_a_finalised_observer.Goals as goal

pub returns-clause-whole : goal.returns-clause-whole
unfolding description_on_literals
returns-clause-whole c = refl
