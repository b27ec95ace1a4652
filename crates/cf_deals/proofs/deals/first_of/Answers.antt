-- Answers to the goals of `deals::first_of`.
use Rattle.std.proofs.Common.{sym, ◌∙◌, arith}
use Rattle.cf_deals.proofs.Reading.{used-read}
use Rattle.cf_deals.proofs.deals.first_of.Goals as goal

pub returns : goal.returns
returns c = sym c.index-used-0.is ∙ used-read c.args.used.now 0 c.index-used-0.result (omega arith) c.index-used-0.is
