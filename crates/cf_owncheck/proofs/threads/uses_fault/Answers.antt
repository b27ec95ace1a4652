-- Answers to the goals of `threads::uses_fault`.
use Rattle.std.proofs.Common.{◌≡◌, ◌+◌, length, drop, arith}
use Rattle.cf_syntax.specs.Counting.{HasRoom}
use Rattle.cf_owncheck.proofs.Walks.{taking_last, room_at_least, one_left}
use Rattle.cf_owncheck.proofs.threads.uses_fault.Goals as goal

pub take_over-requires-clause-room : goal.take_over-requires-clause-room
take_over-requires-clause-room c =
    let i = c.loop-given.given-index in
    let us = c.args.uses.now in
    let start : HasRoom c.args.own.now (length us + 0) = room_at_least c.args.own.now (length us) (length us + 0) (omega arith) c.requires in
    let left : length (drop i us) ≡ length (drop (i + 1) us) + 1 = one_left us i c.given-item.result c.loop-given-test.true in
    room_at_least c.loop-given.own (length (drop i us) + 0) 1 (omega (arith, left)) (c.loop-given.invariant.room 0 start)

pub returns-clause-setup : goal.returns-clause-setup
returns-clause-setup c = λ before mine thread place a b e.
    (taking_last c.loop-given.setup c.loop-given.own thread c.args.line c.args.uses.now c.loop-given.given-index _ _ _ c.loop-given-test.false (c.loop-given.invariant.walk before mine thread place a b)).setup_counted

pub returns-clause-own : goal.returns-clause-own
returns-clause-own c = λ before mine place a b e.
    (taking_last c.loop-given.setup c.loop-given.own 0 c.args.line c.args.uses.now c.loop-given.given-index _ _ _ c.loop-given-test.false (c.loop-given.invariant.walk before mine 0 place a b)).own_counted
