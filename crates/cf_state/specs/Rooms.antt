-- There is a number for what becomes of the parts of a state.
use Rattle.std.specs.Prelude.{◌<◌, length}
use Rattle.cf_ids.specs.declared.limits.TheConstants.{OBJECTS}
use Rattle.cf_model.specs.State.{Parts}
use Rattle.cf_state.specs.declared.update.Update.{Update}
use Rattle.cf_state.specs.declared.update.Update.TheVariants as updates

-- an object, a registration or a slot that is given up has a number
abbrev pub HasNumber : Update → Parts → Type 0
HasNumber (updates.Make ob) p = length p.objects < OBJECTS
HasNumber (updates.Observe r) p = length p.registrations < 4294967294
HasNumber (updates.Drop b) p = length p.dropped < 4294967294
HasNumber _ p = Unit {0}
