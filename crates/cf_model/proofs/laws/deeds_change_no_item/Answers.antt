-- Answers to the goals of `laws::deeds_change_no_item`.
use Rattle.cf_model.proofs.DeedLaws.{deed_keeps, deed_makes_none}
use Rattle.cf_model.proofs.laws.deeds_change_no_item.Goals as goal

pub returns-clause-changed : goal.returns-clause-changed
returns-clause-changed c = λ s objects x used b i. deed_keeps s.classes objects x used b i

pub returns-clause-made : goal.returns-clause-made
returns-clause-made c = λ s objects x used new e. deed_makes_none s.classes objects x used new e
