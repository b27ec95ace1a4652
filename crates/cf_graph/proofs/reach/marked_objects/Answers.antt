-- Answers to the goals of `reach::marked_objects`.
use Rattle.cf_graph.proofs.Chosen.{chosen-skip, chosen-push}
use Rattle.cf_graph.proofs.reach.marked_objects.Goals as goal
use Rattle.cf_graph.proofs.reach.marked_objects.Goals.{then-marks-o+in_ok-push, else-marks-o}

pub loop-o-preserved : goal.loop-o-preserved
loop-o-preserved c = elim c.if-marks-o.branch [
  | then-marks-o+in_ok-push w ↦
      rw w.objects-is (rw w.in_ok-push.ensures.items
      (chosen-push c.args.marks.now c.loop-o.o _ w.if-marks-o.true c.loop-o.invariant))
  | else-marks-o w ↦ rw w.objects-is (chosen-skip c.args.marks.now c.loop-o.o _ w.if-marks-o.false c.loop-o.invariant)
]
