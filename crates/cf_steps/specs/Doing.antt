-- What an entry does, as the program has it and as the definitions have it.
use Rattle.cf_references.specs.Flows.{flow_of}
use Rattle.cf_model.specs.State.{Parts}
use Rattle.cf_model.specs.Steps as steps
use Rattle.cf_state.specs.Updates.{updated}
use Rattle.cf_steps.specs.declared.done.Done.{Done}

-- a step
abbrev pub step_of : Parts → Done → steps.Step
step_of p d = record {
  answer = d.answer;
  flow = flow_of d.flow;
  parts = updated d.update p;
  list = d.list.items;
  stops = d.stops;
}
