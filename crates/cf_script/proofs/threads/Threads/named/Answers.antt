-- Answers to the goals of `threads::Threads::named`.
use Rattle.std.proofs.Common.{ℕ, ◌+◌, List, ap, sym, ◌∙◌}
use Rattle.std.specs.Option.{option_map}
use Rattle.cf_syntax.specs.FormStatements.{thread_named}
use Rattle.cf_script.specs.Views.{lent}
use Rattle.cf_script.proofs.ThreadLaws.{thread_is}
use Rattle.cf_script.proofs.threads.Threads.named.Goals as goal

pub returns-in_err-place : goal.returns-in_err-place
returns-in_err-place c =
    c.from_residual.ensures ∙ ap (option_map (λ (i : ℕ). i + 1)) (sym c.in_err-place.was)
    ∙ thread_is c.as_slice.result.now c.args.name.now c.place_of.result c.place_of.ensures.place
    ∙ ap (λ (ns : List (List ℕ)). thread_named ns c.args.name.now) (ap lent c.as_slice.ensures.value ∙ c.self.view_is)

pub returns : goal.returns
returns c =
    ap (option_map (λ (i : ℕ). i + 1)) (sym c.in_ok-place.was)
    ∙ thread_is c.as_slice.result.now c.args.name.now c.place_of.result c.place_of.ensures.place
    ∙ ap (λ (ns : List (List ℕ)). thread_named ns c.args.name.now) (ap lent c.as_slice.ensures.value ∙ c.self.view_is)
