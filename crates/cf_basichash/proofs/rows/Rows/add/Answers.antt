-- Answers to the goals of `rows::Rows::add`.
use Rattle.std.proofs.Common.{◌≡◌, None, sym, ◌∙◌}
use Rattle.cf_basichash.proofs.SeekLemmas.{table_with}
use Rattle.cf_basichash.proofs.TablesLemmas.{none_from_test}
use Rattle.cf_basichash.specs.Tables.{place_of}
use Rattle.cf_basichash.proofs.rows.Rows.add.Goals as goal

pub invariant_of-self : goal.invariant_of-self
invariant_of-self g c =
    let absent : place_of (g.C.Callbacks.same c.self.inside.callbacks c.args.k) c.self.inside.rows.items ≡ None =
    sym (rw c.deref.ensures.value at c.seek.ensures)
    ∙ none_from_test c.seek.result (sym c.is_some.ensures ∙ c.if-is_some.false) in
    table_with _ _ _ _ _ _ _ _ c.self.invariant (g.met.C.Callbacks.equivalence c.self.inside.callbacks) c.args.k
    c.args.v c.hash-hash.result absent c.hash-hash.ensures c.push.ensures.hashes c.push.ensures.room
    c.push_reserved.ensures.items c.push_reserved.ensures.capacity
