use Rattle.std.proofs.Common.{List, ap, cond, ◌∙◌}
use Rattle.rl_base.specs.declared.places.Place.TheVariants.{Mode}
use Rattle.rl_modes.specs.Loops.{Loop, is_among, each_in, common_gained, with_these, with_mode}
use Rattle.cf_model.specs.Deals.{common_deal}
use Rattle.cf_loops.specs.Following.{AfterDeal}
use Rattle.cf_loops.proofs.Looking.{at_read, at_set, among_told}
use Rattle.cf_loops.proofs.Entering.{common_follows}
use Rattle.cf_loops.proofs.loops.Loops.make_common.Goals as goal

pub returns : goal.returns
returns c = λ s st h by mode.
    let loops = c.args.self.now in
    let t = c.args.t in
    let n = c.args.m in
    let m = c.make_common.new.modes in
    let was = at_read loops c.self.inside.loops.items t c.t.inside.0 c.index_mut.result.now c.self.view_is c.t.view_is c.requires.thread c.index_mut.ensures.value in
    at_set (λ (ls : List Loop). AfterDeal s st by (common_deal st t n) ls) loops c.self.inside.loops.items t c.t.inside.0 m c.self.view_is c.t.view_is
    (common_follows s st loops t m h c.requires.thread by n mode (among_told s st.parts st.edges loops t n h c.requires.thread mode)
    (c.make_common.ensures.held ∙ ap (λ (x : Loop). cond (is_among n x.common_modes) x.held (with_these (each_in (Mode n) (common_gained n x.held)) x.held)) was)
    (c.make_common.ensures.common_modes ∙ ap (λ (x : Loop). cond (is_among n x.common_modes) x.common_modes (with_mode n x.common_modes)) was))
