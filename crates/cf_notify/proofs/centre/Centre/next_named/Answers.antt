-- Answers to the goals of `centre::Centre::next_named`.
use Rattle.std.proofs.Common.{sym, ◌∙◌, ◌+◌}
use Rattle.cf_notify.specs.Links.{is_in}
use Rattle.cf_notify.proofs.Nexts.{next_same}
use Rattle.cf_notify.proofs.Numbers.{named_in, mark_is}
use Rattle.cf_notify.proofs.centre.Centre.next_named.Goals as goal

pub returns : goal.returns
returns c = rw (← c.self.view_is) (λ l t.
    let same = named_in c.self.inside.made.items c.self.inside.names.marks c.self.invariant.named l in
    next_same (is_in c.self.inside.names.marks l) _ same (c.args.k + 1) c.next.result
    (c.next.ensures l (mark_is l _ (sym (same c.args.k) ∙ t))))
