-- Answers to the goals of `classes::Classes::named`.
use Rattle.std.proofs.Common.{ap, sym, ◌∙◌}
use Rattle.cf_script.specs.Views.{names_of}
use Rattle.cf_script.proofs.ClassLaws.{not_found, found}
use Rattle.cf_script.proofs.classes.Classes.named.Goals as goal

pub returns-in_err-place : goal.returns-in_err-place
returns-in_err-place c =
    c.from_residual.ensures
    ∙ sym (not_found c.self.inside.names.keys c.args.self.now c.args.name.now (c.self.invariant.1 ∙ ap names_of c.self.view_is) (sym c.get_index_of.ensures.index ∙ c.in_err-place.was))

pub returns : goal.returns
returns c = sym (found c.self.inside.names.keys c.args.self.now c.args.name.now c.in_ok-place.place (c.self.invariant.1 ∙ ap names_of c.self.view_is) (sym c.get_index_of.ensures.index ∙ c.in_ok-place.was))
