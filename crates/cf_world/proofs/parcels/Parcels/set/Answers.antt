-- Answers to the goals of `parcels::Parcels::set`.
use Rattle.std.proofs.Common.{◌<◌, length, refl, arith}
use Rattle.std.proofs.lemmas.List.{length-map}
use Rattle.cf_world.proofs.Placing.{set_row}
use Rattle.cf_world.proofs.parcels.Parcels.set.Goals as goal

pub returns : goal.returns
returns c =
    let thread = rw (← c.self.view_is, ← c.t.view_is) at c.requires.thread in
    let within : c.t.inside.0 < length c.self.inside.rows.items = omega (arith, thread, length-map c.self.inside.rows.items (λ row. row.items)) in
    rw (← c.self.view_is, ← c.t.view_is) (set_row (λ row. row.items) c.self.inside.rows.items c.t.inside.0 c.args.k c.index_mut.result.now _ c.args.object within c.index_mut.ensures.value refl)
