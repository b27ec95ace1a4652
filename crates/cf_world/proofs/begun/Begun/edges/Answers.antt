-- Answers to the goals of `begun::Begun::edges`.
use Rattle.std.proofs.Common.{length, ap, ◌∙◌, arith}
use Rattle.std.specs.Prelude.{count_by}
use Rattle.cf_graph.specs.Edges.{edges_of}
use Rattle.cf_world.specs.Worlds.{WorldView, edges_in}
use Rattle.cf_world.proofs.Referring.{begun-edges}
use Rattle.cf_world.proofs.begun.Begun.edges.Goals as goal

pub add_threads-requires : goal.add_threads-requires
add_threads-requires c = record {
  threads = rw c.script.ensures.script c.script.ensures.runs.numbered.threads;
  few = omega (arith, c.script.ensures.runs.numbered.threads, c.self.invariant.frames.count, ap length c.as_slice.ensures.value);
}

pub returns : goal.returns
returns c = λ p.
    begun-edges c.self.inside p c.new-edges.result.items c.add_threads.new.edges.items c.add_ground.new.edges.items c.self.invariant c.script.ensures.runs c.new-edges.ensures.items
    (rw (c.script.ensures.script, c.as_slice.ensures.value) at c.in_ok-add_threads.ensures.items)
    (rw c.as_slice.ensures.value at c.in_ok-add_threads.ensures.variables)
    c.in_ok-add_ground.ensures
    ∙ ap (λ (view : WorldView). count_by p (edges_of (edges_in view))) c.self.view_is
