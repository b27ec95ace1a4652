-- Answers to the goals of `rows::an_owned_script_fits`.
use Rattle.cf_syntax.proofs.BlockLaws.{owned_fits}
use Rattle.cf_syntax.proofs.examples.an_owned_script_fits.Goals as goal

pub returns : goal.returns
returns c = λ s owned. owned_fits s owned
