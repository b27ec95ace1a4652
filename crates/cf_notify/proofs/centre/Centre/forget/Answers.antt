-- Answers to the goals of `centre::Centre::forget`.
use Rattle.std.proofs.Common.{◌≡◌, ◌+◌, cond, arith}
use Rattle.rl_base.specs.Receivers.{forgets}
use Rattle.cf_notify.specs.Registered.{passes}
use Rattle.cf_notify.proofs.Forgetting.{its_now, forgetting_from, forgetting_more, forgetting_less, forgetting_room, forgotten_now}
use Rattle.cf_notify.proofs.centre.Centre.forget.Goals as goal

pub loop-at-init : goal.loop-at-init
loop-at-init c = forgetting_from c.args.o c.args.name c.args.filter c.args.self.now c.first_by-at.result
    c.first_by-at.ensures

pub overflow_add-gone : goal.overflow_add-gone
overflow_add-gone c = omega (
  arith,
  c.next_by-at.ensures.small,
  forgetting_room c.args.o c.args.name c.args.filter
      c.args.self.now c.loop-at.self c.loop-at.gone c.in-Some.k (rw c.in-Some.is at c.loop-at.invariant),
)

pub loop-at-smaller-then-forget_one : goal.loop-at-smaller-then-forget_one
loop-at-smaller-then-forget_one c =
    let so_far = rw c.in-Some.is at c.loop-at.invariant in
    let next = c.next_by-at.ensures.next c.args.o (its_now c.args.o c.args.name c.args.filter c.args.self.now
    c.loop-at.self c.loop-at.gone c.in-Some.k so_far) in
    let counts : (c.loop-at.gone + 1) ≡ c.loop-at.gone + cond (passes (forgets c.args.o c.args.name c.args.filter)
    c.loop-at.self.made c.in-Some.k) 1 0 = rw (← c.forget_one.ensures.is, c.if-forget_one.true) (omega arith) in
    rw c.in-Some.is (forgetting_less c.args.o c.args.name c.args.filter c.args.self.now c.loop-at.self
    c.forget_one.new.self c.loop-at.gone (c.loop-at.gone + 1) c.in-Some.k c.next_by-at.result so_far next
    c.forget_one.ensures.gone counts)

pub loop-at-preserved-then-forget_one : goal.loop-at-preserved-then-forget_one
loop-at-preserved-then-forget_one c =
    let so_far = rw c.in-Some.is at c.loop-at.invariant in
    let next = c.next_by-at.ensures.next c.args.o (its_now c.args.o c.args.name c.args.filter c.args.self.now
    c.loop-at.self c.loop-at.gone c.in-Some.k so_far) in
    let counts : (c.loop-at.gone + 1) ≡ c.loop-at.gone + cond (passes (forgets c.args.o c.args.name c.args.filter)
    c.loop-at.self.made c.in-Some.k) 1 0 = rw (← c.forget_one.ensures.is, c.if-forget_one.true) (omega arith) in
    forgetting_more c.args.o c.args.name c.args.filter c.args.self.now c.loop-at.self c.forget_one.new.self
    c.loop-at.gone (c.loop-at.gone + 1) c.in-Some.k c.next_by-at.result so_far next c.forget_one.ensures.gone counts

pub loop-at-smaller : goal.loop-at-smaller
loop-at-smaller c =
    let so_far = rw c.in-Some.is at c.loop-at.invariant in
    let next = c.next_by-at.ensures.next c.args.o (its_now c.args.o c.args.name c.args.filter c.args.self.now
    c.loop-at.self c.loop-at.gone c.in-Some.k so_far) in
    let counts : c.loop-at.gone ≡ c.loop-at.gone + cond (passes (forgets c.args.o c.args.name c.args.filter)
    c.loop-at.self.made c.in-Some.k) 1 0 = rw (← c.forget_one.ensures.is, c.if-forget_one.false) (omega arith) in
    rw c.in-Some.is (forgetting_less c.args.o c.args.name c.args.filter c.args.self.now c.loop-at.self
    c.forget_one.new.self c.loop-at.gone c.loop-at.gone c.in-Some.k c.next_by-at.result so_far next
    c.forget_one.ensures.gone counts)

pub loop-at-preserved : goal.loop-at-preserved
loop-at-preserved c =
    let so_far = rw c.in-Some.is at c.loop-at.invariant in
    let next = c.next_by-at.ensures.next c.args.o (its_now c.args.o c.args.name c.args.filter c.args.self.now
    c.loop-at.self c.loop-at.gone c.in-Some.k so_far) in
    let counts : c.loop-at.gone ≡ c.loop-at.gone + cond (passes (forgets c.args.o c.args.name c.args.filter)
    c.loop-at.self.made c.in-Some.k) 1 0 = rw (← c.forget_one.ensures.is, c.if-forget_one.false) (omega arith) in
    forgetting_more c.args.o c.args.name c.args.filter c.args.self.now c.loop-at.self c.forget_one.new.self
    c.loop-at.gone c.loop-at.gone c.in-Some.k c.next_by-at.result so_far next c.forget_one.ensures.gone counts

pub returns-clause-count : goal.returns-clause-count
returns-clause-count c = (rw c.in_default.is at c.loop-at.invariant).count

pub returns-clause-forgotten : goal.returns-clause-forgotten
returns-clause-forgotten c = forgotten_now c.args.o c.args.name c.args.filter c.args.self.now c.loop-at.self
    c.loop-at.gone (rw c.in_default.is at c.loop-at.invariant)
