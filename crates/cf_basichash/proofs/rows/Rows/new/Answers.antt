-- Answers to the goals of `rows::Rows::new`.
use Rattle.std.proofs.Common.{ap}
use Rattle.cf_basichash.specs.Places.{Places}
use Rattle.cf_basichash.proofs.SeekLemmas.{table_of_none}
use Rattle.cf_basichash.proofs.rows.Rows.new.Goals as goal

pub invariant_of-result : goal.invariant_of-result
invariant_of-result g c =
    table_of_none _ _ c.new-2.result _ _ c.new.ensures.items (ap (λ (p : Places). p.hashes) c.new-2.ensures)
    (ap (λ (p : Places). p.room) c.new-2.ensures)
