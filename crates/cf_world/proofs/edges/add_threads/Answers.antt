-- Answers to the goals of `edges::add_threads`.
use Rattle.std.proofs.Common.{◌++◌, sym, ap, subst, ◌∙◌, append-nil, arith}
use Rattle.cf_graph.specs.Edges.{edges_of}
use Rattle.cf_next.specs.Held.{HasVariables}
use Rattle.cf_next.specs.Standing.{Standing}
use Rattle.cf_next.proofs.HeldLaws.{below-none}
use Rattle.cf_world.specs.Referring.{stand_references, stands_of, thread_references}
use Rattle.cf_world.proofs.EdgeLists.{threads-more, variables-more}
use Rattle.cf_world.proofs.edges.add_threads.Goals as goal

pub loop-t-init : goal.loop-t-init
loop-t-init c = record {
  items = rw (below-none (stand_references c.args.script.now (stands_of c.args.frames.now))) (sym (append-nil c.args.edges.now.items));
  variables = λ u lt. absurd (omega (arith, lt));
}

pub loop-t-preserved : goal.loop-t-preserved
loop-t-preserved c =
    let frames = c.args.frames.now in
    let t = c.loop-t.t in
    let x = c.index-frames-t.result in
    record {
      items = threads-more c.args.script.now frames t x c.args.edges.now.items c.loop-t.edges.items c.add_thread.new.edges.items c.loop-t-test.true c.loop-t.invariant.items
          (c.in_ok-add_thread.ensures.items ∙ ap (λ (y : Standing). c.loop-t.edges.items ++ edges_of (thread_references c.args.script.now t y.stand)) c.index-frames-t.is);
      variables = variables-more frames t x c.loop-t-test.true c.loop-t.invariant.variables (subst (λ (y : Standing). HasVariables y.stand.frames) c.index-frames-t.is c.in_ok-add_thread.ensures.variables);
    }
