-- Answers to the goals of `store::Store::apply`.
use Rattle.std.proofs.Common.{sym, ◌∙◌}
use Rattle.cf_store.proofs.Keeping.{kept_done}
use Rattle.cf_store.proofs.store.Store.apply.Goals as goal

pub invariant_of-self : goal.invariant_of-self
invariant_of-self c =
    kept_done _ _ c.in-Some.field-0 _ _ _ c.self.invariant (sym c.take.ensures.value ∙ c.in-Some.is)
    c.change_body-took.ensures.bodies c.take.ensures.after
