-- Answers to the goals of `pairs::Pairs::put`.
use Rattle.std.proofs.Common.{Some, None}
use Rattle.cf_body.proofs.Pairing.{got, put_in, added_none, changed_some}
use Rattle.cf_body.proofs.pairs.Pairs.put.Goals as goal

pub returns-in-Added-clause-old : goal.returns-in-Added-clause-old
returns-in-Added-clause-old c = rw (← c.self.view_is) (got _ _ _ _ None c.self.invariant (added_none _ _ c.in-Added.ensures.answer))

pub returns-in-Added-clause-items : goal.returns-in-Added-clause-items
returns-in-Added-clause-items c = rw (← c.self.view_is, ← c.value_cell.ensures) (put_in _ _ _ _ _ _ c.self.invariant c.set.ensures.rows)

pub returns-clause-old : goal.returns-clause-old
returns-clause-old c =
    rw (← c.self.view_is, c.id_of.ensures) (got _ _ _ _ (Some c.in-Changed.old) c.self.invariant (changed_some _ _ _ _ c.in-Changed.ensures.answer))

pub returns-clause-items : goal.returns-clause-items
returns-clause-items c = rw (← c.self.view_is, ← c.value_cell.ensures) (put_in _ _ _ _ _ _ c.self.invariant c.set.ensures.rows)
