-- Answers to the goals of `rows::a_script_that_is_owned`.
use Rattle.std.proofs.Common.{refl}
use Rattle.cf_syntax.proofs.examples.a_script_that_is_owned.Goals as goal

pub returns : goal.returns
returns c = refl
