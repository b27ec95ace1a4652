-- Answers to the goals of `laws::objects_are_told`.
use Rattle.cf_render.proofs.Telling.{objects_told}
use Rattle.cf_render.proofs.laws.objects_are_told.Goals as goal

pub returns : goal.returns
returns c = objects_told
