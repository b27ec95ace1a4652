-- Answers to the goals of `enter::go_on`.
use Rattle.std.proofs.Common.{List, sym, subst}
use Rattle.cf_graph.specs.Edges.{Reference}
use Rattle.cf_next.specs.Steps.{IsStep}
use Rattle.cf_model.specs.State.{stand_at}
use Rattle.cf_state.specs.Known.{facts_in}
use Rattle.cf_state.specs.States.{state_of}
use Rattle.cf_machine.proofs.Entering.{put-together}
use Rattle.cf_machine.proofs.enter.go_on.Goals as goal

pub move_on-requires : goal.move_on-requires
move_on-requires c =
    let state = c.args.state.now in
    let t = c.args.entry.now.thread in
    subst (λ (es : List Reference). IsStep c.args.script.now (facts_in state.parts es) t (stand_at t state.stands) c.args.step.now)
    (sym c.as_slice.ensures.value) c.requires.step

pub returns : goal.returns
returns c =
    put-together c.args.entry.now.thread c.args.step.now c.args.entry.now.answer c.args.left.done (state_of c.args.state.now)
    _ _ _ _ _ c.as_slice.ensures.value c.requires.edges c.requires.last c.in_ok-change.ensures c.in_ok-move_on.ensures
