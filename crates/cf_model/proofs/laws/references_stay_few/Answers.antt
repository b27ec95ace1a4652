-- Answers to the goals of `laws::references_stay_few`.
use Rattle.cf_model.proofs.Limiting.{few_references, few_of_owned}
use Rattle.cf_model.proofs.laws.references_stay_few.Goals as goal

pub returns-clause-legal : goal.returns-clause-legal
returns-clause-legal c = few_references

pub returns-clause-owned : goal.returns-clause-owned
returns-clause-owned c = few_of_owned
