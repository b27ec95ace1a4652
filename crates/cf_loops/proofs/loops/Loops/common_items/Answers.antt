use Rattle.std.proofs.Common.{◌∙◌, sym, ap, List, map}
use Rattle.cf_ids.specs.declared.numbers.Item.{Item}
use Rattle.rl_base.specs.declared.places.Place.TheVariants.{Common}
use Rattle.rl_modes.specs.Loops.{Loop, items_at}
use Rattle.cf_loops.specs.Following.{no_loop}
use Rattle.cf_loops.proofs.Looking.{found_is, items_told, loop_found, loop_missing, missing_is}
use Rattle.cf_loops.proofs.loops.Loops.common_items.Goals as goal

pub returns-in-Some : goal.returns-in-Some
returns-in-Some c = record {
  here = c.common_items.ensures ∙ ap (λ (l : Loop). items_at Common l.held) (sym (found_is c.args.self.now c.args.t c.in-Some.modes.now c.in-Some.ensures));
  known = λ s st h.
      let l = c.in-Some.modes.now in
      ap (λ (is : List Item). map (λ i. i.id) is) c.common_items.ensures
      ∙ items_told s st.parts st.edges c.args.t l (loop_found s st.parts st.edges c.args.self.now c.args.t l h c.in-Some.ensures) Common;
}

pub returns-in-None : goal.returns-in-None
returns-in-None c = record {
  here = ap (λ (l : Loop). items_at Common l.held) (sym (missing_is c.args.self.now c.args.t c.in-None.ensures));
  known = λ s st h.
      items_told s st.parts st.edges c.args.t no_loop (loop_missing s st.parts st.edges c.args.self.now c.args.t h c.in-None.ensures) Common;
}
