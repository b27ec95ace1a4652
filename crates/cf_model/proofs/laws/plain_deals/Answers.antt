-- Answers to the goals of `laws::plain_deals`.
use Rattle.cf_model.proofs.PlainDeals.{deals_plainly}
use Rattle.cf_model.proofs.laws.plain_deals.Goals as goal

pub returns : goal.returns
returns c = deals_plainly
