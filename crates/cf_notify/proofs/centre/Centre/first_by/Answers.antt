-- Answers to the goals of `centre::Centre::first_by`.
use Rattle.cf_notify.specs.Links.{is_in}
use Rattle.cf_notify.proofs.Nexts.{next_same}
use Rattle.cf_notify.proofs.Numbers.{by_in}
use Rattle.cf_notify.proofs.centre.Centre.first_by.Goals as goal

pub returns : goal.returns
returns c = rw (← c.self.view_is) (next_same (is_in c.self.inside.observers.marks c.args.o) _
    (by_in c.self.inside.made.items c.self.inside.observers.marks c.self.invariant.observed c.args.o) 0 c.first.result
    (rw c.o.view_is at c.first.ensures))
