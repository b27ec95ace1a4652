use Rattle.std.proofs.Common.{List, ap, ◌∙◌}
use Rattle.rl_modes.specs.Loops.{Loop}
use Rattle.cf_model.specs.Deals.{drop_deal}
use Rattle.cf_loops.specs.Following.{AfterDeal}
use Rattle.cf_loops.specs.Changing.{held_after_drop}
use Rattle.cf_loops.proofs.Looking.{at_read, at_set}
use Rattle.cf_loops.proofs.Entering.{drop_follows}
use Rattle.cf_loops.proofs.loops.Loops.drop_from.Goals as goal

pub returns : goal.returns
returns c = λ s st h by.
    let loops = c.args.self.now in
    let t = c.args.t in
    let m = c.leave.new.modes in
    let was = at_read loops c.self.inside.loops.items t c.t.inside.0 c.index_mut.result.now c.self.view_is c.t.view_is c.requires c.index_mut.ensures.value in
    at_set (λ (ls : List Loop). AfterDeal s st by (drop_deal s st t c.args.place.now c.args.i) ls) loops c.self.inside.loops.items t c.t.inside.0 m c.self.view_is c.t.view_is
    (drop_follows s st loops t m h c.requires by c.args.i c.args.place.now
    (c.leave.ensures.held ∙ ap (held_after_drop c.args.i c.args.place.now) was) (c.leave.ensures.common_modes ∙ ap (λ (x : Loop). x.common_modes) was))
