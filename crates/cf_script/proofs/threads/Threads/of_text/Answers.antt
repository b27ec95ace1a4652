-- Answers to the goals of `threads::Threads::of_text`.
use Rattle.std.proofs.Common.{ap, sym, ◌∙◌}
use Rattle.cf_script.specs.Views.{lent}
use Rattle.cf_script.proofs.AbsentLaws.{none_named}
use Rattle.cf_script.proofs.threads.Threads.of_text.Goals as goal

pub returns-then-is_none : goal.returns-then-is_none
returns-then-is_none c =
    ap lent c.new.ensures.items
    ∙ sym (none_named c.args.text.now c.find.result c.is_none.result c.find.ensures c.is_none.ensures c.if-is_none.true)
