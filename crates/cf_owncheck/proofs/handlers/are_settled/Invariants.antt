-- The loop invariants of `handlers::are_settled`.
use Rattle.std.proofs.Common.{◌≡◌, List, drop, map}
use Rattle.std.specs.List.{list_all}
use Rattle.cf_syntax.specs.BlockLines.{BlockLine, says, line_ownership}
use Rattle.cf_syntax.specs.Counting.{Counted}
use Rattle.cf_syntax.specs.Owned.{is_settled}
use Rattle.cf_owncheck.proofs.handlers.are_settled.Given as goal

abbrev pub invariant-loop-statement : goal.invariant-loop-statement
invariant-loop-statement l = (xs : List BlockLine) → Counted l.counts xs
    → list_all (λ x. is_settled xs (line_ownership x)) (map says (drop l.statement-index l.statements))
    ≡ list_all (λ x. is_settled xs (line_ownership x)) (map says l.statements)
