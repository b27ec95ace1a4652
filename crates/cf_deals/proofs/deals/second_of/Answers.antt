-- Answers to the goals of `deals::second_of`.
use Rattle.std.proofs.Common.{sym, ◌∙◌, arith}
use Rattle.cf_deals.proofs.Reading.{used-read}
use Rattle.cf_deals.proofs.deals.second_of.Goals as goal

pub returns : goal.returns
returns c = sym c.index-used-1.is ∙ used-read c.args.used.now 1 c.index-used-1.result (omega arith) c.index-used-1.is
