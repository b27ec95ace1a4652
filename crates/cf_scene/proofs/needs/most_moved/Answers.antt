-- Answers to the goals of `needs::most_moved`.
use Rattle.std.proofs.Common.{sym, subst}
use Rattle.cf_syntax.specs.declared.statement.Statement.{Statement}
use Rattle.cf_scene.specs.Needs.{MovesAtMost}
use Rattle.cf_scene.proofs.Needing.{moves_common}
use Rattle.cf_scene.proofs.needs.most_moved.Goals as goal

pub returns-in-Common : goal.returns-in-Common
returns-in-Common c = λ s st h used acts object.
    let n = c.most_gained.result in
    subst (λ (x : Statement). MovesAtMost s c.args.t st x used n) (sym c.in-Common.is)
    (moves_common s c.args.t st used n c.in-Common.thread c.in-Common.mode c.thread_of-in-Common.result c.thread_of-in-Common.ensures (c.most_gained.ensures s st h))
