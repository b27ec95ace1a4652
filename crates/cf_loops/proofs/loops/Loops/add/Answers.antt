use Rattle.std.proofs.Common.{List, ap, ◌∙◌}
use Rattle.rl_modes.specs.Loops.{Loop, in_each, with_these}
use Rattle.cf_model.specs.Deals.{entering, held_at, places_added}
use Rattle.cf_loops.specs.Following.{AfterDeal}
use Rattle.cf_loops.specs.Changing.{places_gained}
use Rattle.cf_loops.proofs.Looking.{at_read, at_set}
use Rattle.cf_loops.proofs.Entering.{add_follows}
use Rattle.cf_loops.proofs.loops.Loops.add.Goals as goal

pub returns : goal.returns
returns c = λ s st h by low kind.
    let loops = c.args.self.now in
    let t = c.args.t in
    let i = c.args.item.now in
    let m = c.add_to.new.modes in
    let was = at_read loops c.self.inside.loops.items t c.t.inside.0 c.index_mut.result.now c.self.view_is c.t.view_is c.requires.thread c.index_mut.ensures.value in
    at_set (λ (ls : List Loop). AfterDeal s st by (entering st.parts (held_at t i.id (places_added s t i.id st c.args.place.now))) ls) loops c.self.inside.loops.items t c.t.inside.0 m c.self.view_is c.t.view_is
    (add_follows s st loops t m h c.requires.thread by i c.args.place.now low kind c.requires.absent
    (c.add_to.ensures.held ∙ ap (λ (x : Loop). with_these (in_each i (places_gained i.id c.args.place.now x)) x.held) was) (c.add_to.ensures.common_modes ∙ ap (λ (x : Loop). x.common_modes) was))
