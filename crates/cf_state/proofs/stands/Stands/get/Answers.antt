-- Answers to the goals of `stands::Stands::get`.
use Rattle.std.proofs.Common.{List, subst}
use Rattle.std.specs.Slice.{IsItemAt}
use Rattle.cf_next.specs.Standing.{Standing}
use Rattle.cf_state.proofs.Placing.{got}
use Rattle.cf_state.proofs.stands.Stands.get.Goals as goal

pub returns : goal.returns
returns c =
    let item = subst (λ (fs : List Standing). IsItemAt fs c.args.thread c.get.result) c.deref.ensures.value c.get.ensures.lookup in
    rw (← c.self.view_is) (got c.args.thread c.self.inside.stands.items c.get.result c.self.invariant item)
