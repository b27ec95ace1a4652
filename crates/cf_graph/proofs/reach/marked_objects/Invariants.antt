-- The loop invariants of `reach::marked_objects`.
use Rattle.cf_graph.proofs.Chosen.{IsChosen}
use Rattle.cf_graph.proofs.reach.marked_objects.Given as goal

abbrev pub invariant-loop-o : goal.invariant-loop-o
invariant-loop-o l = IsChosen l.marks l.o l.objects.items
