-- Answers to the goals of `places::make_common`.
use Rattle.std.proofs.Common.{true, false, sym, ◌∙◌}
use Rattle.cf_scene.proofs.Doing.{common_answer}
use Rattle.cf_scene.proofs.places.make_common.Goals as goal
use Rattle.cf_scene.proofs.places.make_common.Goals.{then-is_common, else-is_common}

pub returns : goal.returns
returns c = λ s st loops by lt mode.
    let told = c.is_common.ensures s st loops lt mode in
    record {
      answer_is = elim c.if-is_common.branch [
        | then-is_common w ↦ w.answer-is ∙ common_answer st c.args.t c.args.m true (sym told ∙ w.if-is_common.true)
        | else-is_common w ↦ w.answer-is ∙ common_answer st c.args.t c.args.m false (sym told ∙ w.if-is_common.false)
      ];
      loops_are = c.make_common.ensures s st loops by mode;
    }
