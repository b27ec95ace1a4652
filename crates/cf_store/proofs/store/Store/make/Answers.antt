-- Answers to the goals of `store::Store::make`.
use Rattle.std.proofs.Common.{◌≡◌, length, arith}
use Rattle.cf_store.proofs.Keeping.{next_kept, kept_made}
use Rattle.cf_store.proofs.store.Store.make.Goals as goal

pub make-requires-clause-last : goal.make-requires-clause-last
make-requires-clause-last c =
    let last : c.len.result ≡ length c.self.inside.bodies.items = omega (arith, c.len.ensures) in
    next_kept _ _ _ _ c.self.invariant last

pub invariant_of-self : goal.invariant_of-self
invariant_of-self c =
    let last : c.len.result ≡ length c.self.inside.bodies.items = omega (arith, c.len.ensures) in
    rw (c.push_reserved.ensures.items, c.set_ready.ensures) (kept_made _ _ _ _ _ _ c.self.invariant last c.make.ensures.sources)
