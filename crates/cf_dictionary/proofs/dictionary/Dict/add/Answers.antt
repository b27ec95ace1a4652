-- Answers to the goals of `dictionary::Dict::add`.
use Rattle.cf_basichash.proofs.TablesLemmas.{none_together}
use Rattle.cf_dictionary.proofs.dictionary.Dict.add.Goals as goal

pub returns-clause-absent : goal.returns-clause-absent
returns-clause-absent g c =
    let same = none_together (g.C.Callbacks.same c.self.inside.rows.callbacks c.args.k) c.self.inside.rows.rows in
    rw (← c.self.view_is) (λ ok. same.0 (c.add.ensures.absent.0 ok), λ none. c.add.ensures.absent.1 (same.1 none))
