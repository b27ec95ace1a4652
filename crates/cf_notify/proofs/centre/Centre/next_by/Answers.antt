-- Answers to the goals of `centre::Centre::next_by`.
use Rattle.std.proofs.Common.{sym, ◌∙◌, ◌+◌}
use Rattle.cf_notify.specs.Links.{is_in}
use Rattle.cf_notify.proofs.Nexts.{next_same}
use Rattle.cf_notify.proofs.Numbers.{by_in, mark_is}
use Rattle.cf_notify.proofs.centre.Centre.next_by.Goals as goal

pub returns-clause-next : goal.returns-clause-next
returns-clause-next c = rw (← c.self.view_is) (λ l t.
    let same = by_in c.self.inside.made.items c.self.inside.observers.marks c.self.invariant.observed l in
    next_same (is_in c.self.inside.observers.marks l) _ same (c.args.k + 1) c.next.result
    (c.next.ensures l (mark_is l _ (sym (same c.args.k) ∙ t))))
