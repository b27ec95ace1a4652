-- Answers to the goals of `deals::third_of`.
use Rattle.std.proofs.Common.{sym, ◌∙◌, arith}
use Rattle.cf_deals.proofs.Reading.{used-read}
use Rattle.cf_deals.proofs.deals.third_of.Goals as goal

pub returns : goal.returns
returns c = sym c.index-used-2.is ∙ used-read c.args.used.now 2 c.index-used-2.result (omega arith) c.index-used-2.is
