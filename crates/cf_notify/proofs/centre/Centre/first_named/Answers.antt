-- Answers to the goals of `centre::Centre::first_named`.
use Rattle.cf_notify.specs.Links.{is_in}
use Rattle.cf_notify.proofs.Nexts.{next_same}
use Rattle.cf_notify.proofs.Numbers.{named_in}
use Rattle.cf_notify.proofs.centre.Centre.first_named.Goals as goal

pub returns : goal.returns
returns c = rw (← c.self.view_is) (next_same (is_in c.self.inside.names.marks c.args.list) _
    (named_in c.self.inside.made.items c.self.inside.names.marks c.self.invariant.named c.args.list) 0 c.first.result
    c.first.ensures)
