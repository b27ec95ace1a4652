-- Answers to the goals of `lists::Lists::first`.
use Rattle.std.proofs.Common.{ap}
use Rattle.cf_notify.specs.Links.{is_mark, holds}
use Rattle.cf_notify.proofs.Nexts.{next_same}
use Rattle.cf_notify.proofs.Steps.{mark_at}
use Rattle.cf_notify.proofs.lists.Lists.first.Goals as goal

pub returns : goal.returns
returns c = rw (← c.self.view_is, c.first_of.ensures, c.as_slice.ensures.value)
    (next_same (holds c.self.inside.links.items c.args.list) _ (λ j. ap (is_mark c.args.list)
    (mark_at c.self.inside.links.items j)) 0 _ (c.self.invariant.firsts c.args.list))
