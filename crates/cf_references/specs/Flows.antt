-- Flows of the program, as the definitions have them.
use Rattle.cf_graph.specs.Flows as flows
use Rattle.cf_model.specs.Own.{moves_to}
use Rattle.cf_references.specs.declared.flow.Flow.{Flow}
use Rattle.cf_references.specs.declared.flow.Flow.TheVariants.{Grows, Shrinks}
use Rattle.cf_references.specs.Views.{holder_of}

-- a flow
abbrev pub flow_of : Flow → flows.Flow
flow_of (Grows enters moves to) = flows.grows enters.items (moves_to (holder_of to) moves.items)
flow_of (Shrinks r) = flows.shrinks r
