-- Answers to the goals of `rows::Rows::swap_value`.
use Rattle.std.proofs.Common.{◌≡◌, refl, slice_get, Some}
use Rattle.std.proofs.lemmas.Option.{slice_get_read}
use Rattle.cf_basichash.proofs.SeekLemmas.{table_rekeyed}
use Rattle.cf_basichash.proofs.rows.Rows.swap_value.Goals as goal

pub invariant_of-self : goal.invariant_of-self
invariant_of-self g c =
    let there : slice_get c.self.inside.rows.items c.args.i ≡ Some c.index_mut-row.result.now =
    slice_get_read _ _ _ _ refl (rw (← c.self.view_is) at c.requires) c.index_mut-row.ensures.value in
    table_rekeyed _ _ _ _ _ _ _ _ _ _ (g.met.C.Callbacks.equivalence c.self.inside.callbacks)
    (g.met.C.Callbacks.equal_hashes c.self.inside.callbacks) c.self.invariant there
    ((g.met.C.Callbacks.equivalence c.self.inside.callbacks).refl _) refl refl

pub returns-clause-out : goal.returns-clause-out
returns-clause-out g c =
    let there : slice_get c.self.inside.rows.items c.args.i ≡ Some c.index_mut-row.result.now =
    slice_get_read _ _ _ _ refl (rw (← c.self.view_is) at c.requires) c.index_mut-row.ensures.value in
    rw (← c.self.view_is, there) c.replace.ensures.value

pub returns-clause-rows : goal.returns-clause-rows
returns-clause-rows g c =
    let there : slice_get c.self.inside.rows.items c.args.i ≡ Some c.index_mut-row.result.now =
    slice_get_read _ _ _ _ refl (rw (← c.self.view_is) at c.requires) c.index_mut-row.ensures.value in
    rw (← c.self.view_is, there, c.replace.ensures.after)
