-- Answers to the goals of `statements::statement_fault`.
use Rattle.cf_owncheck.proofs.statements.statement_fault.Goals as goal

pub returns-in-Retains : goal.returns-in-Retains
returns-in-Retains c = λ earlier counted. rw (rw c.in-Retains.is at c.requires) (c.one_fault.ensures earlier counted)

pub returns-in-Releases : goal.returns-in-Releases
returns-in-Releases c = λ earlier counted.
    rw (rw c.in-Releases.is at c.requires) (c.one_fault-in-Releases.ensures earlier counted)

pub returns-in-One : goal.returns-in-One
returns-in-One c = λ earlier counted.
    let h = rw c.in-One.is at c.requires in rw h.0 (c.one_fault-in-One.ensures earlier counted)

pub returns-in-Two : goal.returns-in-Two
returns-in-Two c = λ earlier counted.
    let h = rw c.in-Two.is at c.requires in rw h.0 (c.two_fault.ensures earlier counted)

pub returns-in-Three : goal.returns-in-Three
returns-in-Three c = λ earlier counted.
    let h = rw c.in-Three.is at c.requires in rw h.0 (c.three_fault.ensures earlier counted)
