-- Answers to the goals of `set::Set::add`.
use Rattle.std.proofs.Common.{refl}
use Rattle.std.proofs.lemmas.Bool.{false≢true}
use Rattle.cf_set_bag.proofs.Membership.{none_found}
use Rattle.cf_set_bag.proofs.set.Set.add.Goals as goal
use Rattle.cf_set_bag.proofs.set.Set.add.Goals.{in-Ok, in-Err}

pub returns-clause-absent : goal.returns-clause-absent
returns-clause-absent g c =
    let same = none_found (g.C.Callbacks.same c.self.inside.rows.callbacks c.args.e) c.self.inside.rows.rows in
    rw (← c.self.view_is)
    (elim c.match-add.branch [
      | in-Ok w ↦ rw w.result-is (λ ok. same.0 (c.add.ensures.absent.0 (rw w.in-Ok.is refl)), λ none. refl)
      | in-Err w ↦ rw w.result-is (
        λ ok. absurd (false≢true ok),
        λ none. rw w.in-Err.is at
            (c.add.ensures.absent.1 (same.1 none)),
      )
    ])
