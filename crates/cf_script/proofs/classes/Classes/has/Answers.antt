-- Answers to the goals of `classes::Classes::has`.
use Rattle.std.proofs.Common.{ap, ◌∙◌}
use Rattle.cf_script.specs.Views.{names_of}
use Rattle.cf_script.proofs.ClassLaws.{same_any}
use Rattle.cf_script.proofs.classes.Classes.has.Goals as goal

pub returns : goal.returns
returns c = c.contains.ensures ∙ same_any c.self.inside.names.keys c.args.self.now c.args.name.now (c.self.invariant.1 ∙ ap names_of c.self.view_is)
