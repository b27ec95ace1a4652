-- Answers to the goals of `laws::packs_are_within`.
use Rattle.cf_syntax.proofs.PackLaws.{packs_within, claims_within}
use Rattle.cf_syntax.proofs.laws.packs_are_within.Goals as goal

pub returns-clause-packed : goal.returns-clause-packed
returns-clause-packed c = packs_within

pub returns-clause-claimed : goal.returns-clause-claimed
returns-clause-claimed c = claims_within
