-- Answers to the goals of `edges::add_thread`.
use Rattle.std.proofs.Common.{List, ℕ, map, ◌++◌, ap, ◌∙◌}
use Rattle.std.proofs.lemmas.Result.{IfOk-weaker}
use Rattle.cf_world.specs.Referring.{thread_edge}
use Rattle.cf_world.proofs.EdgeLists.{thread-added}
use Rattle.cf_world.proofs.edges.add_thread.Goals as goal

pub returns-clause-items : goal.returns-clause-items
returns-clause-items c =
    IfOk-weaker c.add_held.result _ _
    (λ done added.
    thread-added c.args.script.now c.args.t c.args.frames.now.stand c.new-objects.result.items c.held.new.out.items c.args.edges.now.items c.add_held.new.edges.items
    c.new-objects.ensures.items c.in_ok-held.ensures.objects
    (added ∙ ap (λ (os : List ℕ). c.args.edges.now.items ++ map (thread_edge c.args.t) os) c.as_slice.ensures.value))
    c.add_held.ensures
