-- Answers to the goals of `heap::id_at_turn`.
use Rattle.std.proofs.Common.{ap, ◌∙◌}
use Rattle.std.specs.Option.{option_map}
use Rattle.cf_members.proofs.Treating.{id_of, id_in}
use Rattle.cf_members.proofs.heap.id_at_turn.Goals as goal

pub returns : goal.returns
returns g c = c.id_at.ensures ∙ ap (option_map id_of) c.at_turn.ensures.turn ∙ id_in _
