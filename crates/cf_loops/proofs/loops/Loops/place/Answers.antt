use Rattle.std.proofs.Common.{◌∙◌, sym, ap, List}
use Rattle.std.specs.Prelude.{slice_get}
use Rattle.rl_base.specs.declared.places.Place.{Place}
use Rattle.cf_loops.specs.Following.{no_loop}
use Rattle.cf_loops.proofs.Looking.{loop_found, loop_missing, places_none, places_told}
use Rattle.cf_loops.proofs.loops.Loops.place.Goals as goal

pub returns-in-Some : goal.returns-in-Some
returns-in-Some c = λ s st h.
    let l = c.in-Some.modes.now in
    c.place.ensures
    ∙ ap (λ (ps : List Place). slice_get ps c.args.k) (sym (places_told s st.parts st.edges c.args.t l (loop_found s st.parts st.edges c.args.self.now c.args.t l h c.in-Some.ensures) h.few c.args.i))

pub returns-in-None : goal.returns-in-None
returns-in-None c = λ s st h.
    ap (λ (ps : List Place). slice_get ps c.args.k)
    (sym (places_told s st.parts st.edges c.args.t no_loop (loop_missing s st.parts st.edges c.args.self.now c.args.t h c.in-None.ensures) h.few c.args.i ∙ places_none c.args.i))
