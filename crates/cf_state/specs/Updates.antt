-- What becomes of the parts of a state, as the program has it and as the definitions have it.
use Rattle.std.specs.Prelude.{List, [], ◌∷◌, ◌++◌, map, Some, None, if◌then◌else◌}
use Rattle.rl_base.specs.Receivers.{forgets, is_there_and}
use Rattle.cf_contents.specs.Deeds.{objects_after}
use Rattle.cf_plain.specs.Views.{change_of}
use Rattle.cf_model.specs.State.{Parts, with_flags}
use Rattle.cf_model.specs.Steps as steps
use Rattle.cf_state.specs.declared.update.Update.{Update}
use Rattle.cf_state.specs.declared.update.Update.TheVariants as updates

-- the parts after what becomes of them
abbrev pub updated : Update → Parts → Parts
updated updates.Nothing p = p
updated (updates.Change o change) p = record p { objects = objects_after (Some o) (change_of change) p.objects }
updated (updates.Make ob) p = record p { objects = p.objects ++ ob ∷ [] }
updated (updates.Common t m) p = record p { commons = record { thread = t; mode = m } ∷ p.commons }
updated (updates.Observe r) p = record p { registrations = p.registrations ++ Some r ∷ [] }
updated (updates.Forget o name filter) p = record p {
  registrations = map (λ r. if is_there_and (forgets o name filter) r then None else r) p.registrations;
}
updated (updates.Flag t f) p = record p { flags = with_flags t f p.flags }
updated updates.Start p = record p { flags = steps.start_all p.flags }
updated (updates.Drop b) p = record p { dropped = b ∷ p.dropped }
