use Rattle.std.proofs.Common.{◌∙◌, ap, List, map}
use Rattle.cf_ids.specs.declared.numbers.Item.{Item}
use Rattle.rl_base.specs.declared.places.Place.TheVariants.{Mode}
use Rattle.cf_loops.specs.Following.{no_loop}
use Rattle.cf_loops.proofs.Looking.{items_told, loop_found, loop_missing}
use Rattle.cf_loops.proofs.loops.Loops.items.Goals as goal

pub returns-in-Some : goal.returns-in-Some
returns-in-Some c = λ s st h.
    let l = c.in-Some.modes.now in
    ap (λ (is : List Item). map (λ i. i.id) is) c.items.ensures
    ∙ items_told s st.parts st.edges c.args.t l (loop_found s st.parts st.edges c.args.self.now c.args.t l h c.in-Some.ensures) (Mode c.args.m)

pub returns-in-None : goal.returns-in-None
returns-in-None c = λ s st h.
    items_told s st.parts st.edges c.args.t no_loop (loop_missing s st.parts st.edges c.args.self.now c.args.t h c.in-None.ensures) (Mode c.args.m)
