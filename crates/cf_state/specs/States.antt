-- The state of a run as the program has it.
use Rattle.cf_model.specs.State as state
use Rattle.cf_state.specs.declared.state.State.{State}

-- a state
abbrev pub state_of : State → state.State
state_of s = record { parts = s.parts; edges = s.edges.items; stands = s.stands }
