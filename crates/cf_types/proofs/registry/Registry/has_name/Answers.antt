-- Answers to the goals of `registry::Registry::has_name`.
use Rattle.std.proofs.Common.{List, ap, ◌∙◌}
use Rattle.cf_types.specs.declared.classes.Class.{Class}
use Rattle.cf_types.specs.Registry.{has_name}
use Rattle.cf_types.proofs.Names.{found}
use Rattle.cf_types.proofs.registry.Registry.has_name.Goals as goal

pub returns : goal.returns
returns c = c.contains_key.ensures ∙ found c.self.inside.classes.entries c.args.name.now c.self.invariant.1
    ∙ ap (λ (classes : List Class). has_name classes c.args.name.now) c.self.view_is
