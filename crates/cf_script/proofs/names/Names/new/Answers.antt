-- Answers to the goals of `names::Names::new`.
use Rattle.std.proofs.Common.{rules}
use Rattle.cf_script.proofs.TestedLaws.{no_hint}
use Rattle.cf_script.proofs.names.Names.new.Goals as goal

pub invariant_of-result : goal.invariant_of-result
invariant_of-result c = record { few = search rules; tested = λ k i e. absurd (no_hint k i e) }
