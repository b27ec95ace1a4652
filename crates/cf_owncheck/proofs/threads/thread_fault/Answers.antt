-- Answers to the goals of `threads::thread_fault`.
use Rattle.std.proofs.Common.{[], refl, sym, ◌∙◌}
use Rattle.cf_syntax.specs.BlockLines.{claims_from}
use Rattle.cf_syntax.specs.Owned.{uses_fault}
use Rattle.cf_owncheck.proofs.Walks.{or_none}
use Rattle.cf_owncheck.proofs.threads.thread_fault.Goals as goal

pub returns-clause-fault : goal.returns-clause-fault
returns-clause-fault c = λ before thread counted.
    let none = c.in_default.ensures.fault before [] thread 0 counted c.new-own.ensures.counted in
    let own = c.in_default.ensures.own before [] 0 counted c.new-own.ensures.counted refl in
    c.statements_fault.ensures.fault (claims_from 0 c.as_slice.result.now) own
    ∙ rw (c.as_slice-2.ensures, c.as_slice-3.ensures, c.as_slice.ensures)
    (sym (or_none (uses_fault before [] thread 0 c.args.block.now.first c.args.block.now.uses) _ (sym (rw c.as_slice.ensures at none))))
