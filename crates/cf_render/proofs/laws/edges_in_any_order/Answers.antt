-- Answers to the goals of `laws::edges_in_any_order`.
use Rattle.cf_render.proofs.Counting.{in_any_order}
use Rattle.cf_render.proofs.laws.edges_in_any_order.Goals as goal

pub returns : goal.returns
returns c = in_any_order
