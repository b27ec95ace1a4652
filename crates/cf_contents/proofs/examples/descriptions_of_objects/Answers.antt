-- Answers to the goals of `examples::descriptions_of_objects`.
use Rattle.std.proofs.Common.{refl}
use Rattle.cf_contents.proofs.OnLiterals.{description_on_literals}
use Rattle.cf_contents.proofs.examples.descriptions_of_objects.Goals as goal

pub returns-clause-text : goal.returns-clause-text
unfolding description_on_literals
returns-clause-text c = refl

pub returns-clause-some_data : goal.returns-clause-some_data
unfolding description_on_literals
returns-clause-some_data c = refl

pub returns-clause-number : goal.returns-clause-number
unfolding description_on_literals
returns-clause-number c = refl

pub returns-clause-instance : goal.returns-clause-instance
unfolding description_on_literals
returns-clause-instance c = refl

pub returns-clause-array : goal.returns-clause-array
unfolding description_on_literals
returns-clause-array c = refl

pub returns-clause-dictionary : goal.returns-clause-dictionary
unfolding description_on_literals
returns-clause-dictionary c = refl

pub returns-clause-set : goal.returns-clause-set
unfolding description_on_literals
returns-clause-set c = refl

pub returns-clause-bag : goal.returns-clause-bag
unfolding description_on_literals
returns-clause-bag c = refl

pub returns-clause-heap : goal.returns-clause-heap
unfolding description_on_literals
returns-clause-heap c = refl
