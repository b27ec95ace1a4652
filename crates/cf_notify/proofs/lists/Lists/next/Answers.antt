-- Answers to the goals of `lists::Lists::next`.
use Rattle.std.proofs.Common.{ap, sym, ◌∙◌, ◌+◌}
use Rattle.cf_notify.specs.Links.{is_mark, holds}
use Rattle.cf_notify.proofs.Nexts.{next_same}
use Rattle.cf_notify.proofs.Steps.{mark_at}
use Rattle.cf_notify.proofs.lists.Lists.next.Goals as goal

pub returns : goal.returns
returns c = rw (← c.self.view_is, c.next_of.ensures, c.as_slice.ensures.value)
    (λ l e. next_same (holds c.self.inside.links.items l) _ (λ j. ap (is_mark l)
    (mark_at c.self.inside.links.items j)) (c.args.k + 1) _ (c.self.invariant.nexts c.args.k l
    (sym (mark_at c.self.inside.links.items c.args.k) ∙ e)))
