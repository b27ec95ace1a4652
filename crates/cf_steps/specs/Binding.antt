-- What a statement binds, as the program has it.
use Rattle.std.specs.Prelude.{ℕ, List, Option, Some, None}
use Rattle.std.specs.Option.{option_map}
use Rattle.cf_ids.specs.declared.answer.Answer.{Answer}
use Rattle.cf_plain.specs.Deeds.{origin_of}
use Rattle.cf_plain.specs.Views.{item_of}
use Rattle.cf_model.specs.Steps as steps
use Rattle.cf_steps.specs.declared.binding.Bound.{Bound}
use Rattle.cf_steps.specs.declared.binding.Made.{Made}

-- an item that is made, with its handler
abbrev pub made_view : Made → steps.Made
made_view m = record { handler = m.handler; item = item_of m.item }

-- what a statement answers if it finds nothing to bind, and where the object comes from
abbrev pub bound_view : Bound → steps.Bound
bound_view b = record { answer = b.answer; origin = origin_of b.origin }
