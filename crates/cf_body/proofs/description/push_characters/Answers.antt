-- Answers to the goals of `description::push_characters`.
use Rattle.std.proofs.Common.{arith}
use Rattle.cf_contents.proofs.Showing.{Ended, Written-start, Written-next, Ended-whole, Ended-full}
use Rattle.cf_body.proofs.description.push_characters.Goals as goal

pub loop-init : goal.loop-init
loop-init c = Written-start c.args.text.now.units c.args.out.now.items

whole : (c : goal.Then-length-at) → Ended c.args.text.now.units c.args.out.now.items c.loop.out.items c.loop.at
whole c = Ended-whole _ _ _ _ c.loop.counter c.loop.invariant (omega arith) (omega arith)

pub returns-then-length-at-clause-written : goal.returns-then-length-at-clause-written
returns-then-length-at-clause-written c = (whole c).written

pub returns-then-length-at-clause-end : goal.returns-then-length-at-clause-end
returns-then-length-at-clause-end c = (whole c).end

pub loop-preserved : goal.loop-preserved
loop-preserved c =
    Written-next _ _ _ _ c.loop.at _ c.loop.counter _ c.loop.invariant c.char_at-character.ensures.first c.in_ok-push_character.ensures

full : (c : goal.After-loop) → Ended c.args.text.now.units c.args.out.now.items c.loop.out.items c.loop.at
full c = Ended-full _ _ _ _ c.loop.counter c.loop.invariant (omega arith)

pub returns-clause-written : goal.returns-clause-written
returns-clause-written c = (full c).written

pub returns-clause-end : goal.returns-clause-end
returns-clause-end c = (full c).end
