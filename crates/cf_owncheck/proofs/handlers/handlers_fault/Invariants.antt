-- The loop invariants of `handlers::handlers_fault`.
use Rattle.std.proofs.Common.{◌≡◌, drop}
use Rattle.cf_syntax.specs.Owned.{handlers_fault}
use Rattle.cf_owncheck.proofs.handlers.handlers_fault.Given as goal

abbrev pub invariant-loop-block : goal.invariant-loop-block
invariant-loop-block l = handlers_fault l.script (drop l.block-index l.blocks) ≡ handlers_fault l.script l.blocks
