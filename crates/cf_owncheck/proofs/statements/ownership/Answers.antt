-- Answers to the goals of `statements::ownership`.
use Rattle.std.proofs.Common.{refl, sym}
use Rattle.cf_owncheck.proofs.statements.ownership.Goals as goal

pub returns-in-Retains : goal.returns-in-Retains
returns-in-Retains c = let h = rw c.in-Retains.is at c.requires in rw h refl

pub returns-in-Releases : goal.returns-in-Releases
returns-in-Releases c = let h = rw c.in-Releases.is at c.requires in rw h refl

pub returns-in-One : goal.returns-in-One
returns-in-One c = let h = rw c.in-One.is at c.requires in sym h.1

pub returns-in-Two : goal.returns-in-Two
returns-in-Two c = let h = rw c.in-Two.is at c.requires in sym h.1

pub returns-in-Three : goal.returns-in-Three
returns-in-Three c = let h = rw c.in-Three.is at c.requires in sym h.1
