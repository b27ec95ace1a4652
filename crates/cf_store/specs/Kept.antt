-- What holds of a store between its calls.
use Rattle.std.specs.Prelude.{◌≡◌, List, Option, map}
use Rattle.rl_base.specs.declared.sources.SourceState.{SourceState}
use Rattle.cf_body.specs.Bodies.{BodyView, held_of}
use Rattle.cf_store.specs.Applies.{IsReadyIn}
use Rattle.cf_store.specs.Sources.{sources_in}
use Rattle.cf_store.specs.declared.plan.ReadyPlan.{ReadyPlan}

-- what is ready can be done, and the table has the sources among the bodies
pub record IsKept (bodies : List BodyView) (plan : Option ReadyPlan) (table : List SourceState) : Type 0 where
  pub ready : IsReadyIn bodies plan
  pub sources : table ≡ sources_in (map held_of bodies)
