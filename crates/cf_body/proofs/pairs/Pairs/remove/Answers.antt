-- Answers to the goals of `pairs::Pairs::remove`.
use Rattle.std.proofs.Common.{Some, None}
use Rattle.cf_body.proofs.Pairing.{taken_out, left_in}
use Rattle.cf_body.proofs.pairs.Pairs.remove.Goals as goal
use Rattle.cf_body.proofs.pairs.Pairs.remove.Goals.{in-Some, in-None}

pub returns-clause-out : goal.returns-clause-out
returns-clause-out c =
    elim c.match-remove.branch [
      | in-Some w ↦ rw (← c.self.view_is, w.result-is, w.id_of.ensures, w.id_of-in-Some.ensures)
          (taken_out _ _ _ _ (Some (w.in-Some.key, w.in-Some.value)) c.self.invariant w.in-Some.ensures.answer)
      | in-None w ↦ rw (← c.self.view_is, w.result-is) (taken_out _ _ _ _ None c.self.invariant w.in-None.ensures.answer)
    ]

pub returns-clause-items : goal.returns-clause-items
returns-clause-items c = rw (← c.self.view_is) (left_in _ _ _ _ _ c.self.invariant c.remove.ensures.rows)
