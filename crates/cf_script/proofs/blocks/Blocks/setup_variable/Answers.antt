-- Answers to the goals of `blocks::Blocks::setup_variable`.
use Rattle.std.proofs.Common.{ℕ, List, ap, sym, ◌∙◌}
use Rattle.std.specs.Global.{Vec}
use Rattle.cf_syntax.specs.Text.{place_of, setup_variables}
use Rattle.cf_script.proofs.NameLaws.{place_named}
use Rattle.cf_script.proofs.blocks.Blocks.setup_variable.Goals as goal

pub returns-in_err-place : goal.returns-in_err-place
returns-in_err-place c =
    let names = sym (ap setup_variables c.self.view_is) ∙ sym c.self.invariant.1 in
    c.from_residual.ensures ∙ sym (ap (λ (ns : List (List ℕ)). place_of ns c.args.name.now) names ∙ place_named (λ (n : Vec ℕ). n.items) c.args.name.now c.self.inside.setup.keys ∙ sym c.get_index_of.ensures.index ∙ c.in_err-place.was)

pub returns : goal.returns
returns c =
    let names = sym (ap setup_variables c.self.view_is) ∙ sym c.self.invariant.1 in
    sym (ap (λ (ns : List (List ℕ)). place_of ns c.args.name.now) names ∙ place_named (λ (n : Vec ℕ). n.items) c.args.name.now c.self.inside.setup.keys ∙ sym c.get_index_of.ensures.index ∙ c.in_ok-place.was)
