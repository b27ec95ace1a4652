-- Answers to the goals of `names::Names::known`.
use Rattle.std.proofs.Common.{◌≡◌, false, ap, sym, ◌∙◌}
use Rattle.std.specs.Prelude.{codes}
use Rattle.std.specs.Str.{bytes_eq}
use Rattle.cf_syntax.specs.FormWords.{Names}
use Rattle.cf_script.specs.Views.{texts}
use Rattle.cf_script.proofs.TestedLaws.{known_word}
use Rattle.cf_script.proofs.names.Names.known.Goals as goal
use Rattle.cf_script.proofs.names.Names.known.Goals.{else-not-in_handler-via-then-not-in_handler+else-is, else-not-in_handler-via-else-not-in_handler}

pub returns : goal.returns
returns c =
    let word = c.args.word.now in
    let plain : c.args.in_handler ≡ false → bytes_eq word (codes "info") ≡ false = λ outside. elim c.else-not-in_handler.branch [
      | else-not-in_handler-via-then-not-in_handler+else-is w ↦ sym w.is.ensures ∙ w.if-is.false
      | else-not-in_handler-via-else-not-in_handler w ↦ absurd cc
    ] in
    known_word c.args.in_handler c.args.self.now (texts c.self.inside.variables.keys) word c.in_ok-place.place (ap (λ (n : Names). n.variables) c.self.view_is)
    (c.in_ok-place.ensures.tested c.self.invariant.tested) plain c.in_ok-place.ensures.place c.in_ok-place.ensures.names
