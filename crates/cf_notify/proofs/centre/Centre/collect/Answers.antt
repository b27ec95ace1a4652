-- Answers to the goals of `centre::Centre::collect`.
use Rattle.std.proofs.Common.{◌≢◌, ◌+◌, ◌∙◌, Some, sym}
use Rattle.std.proofs.lemmas.Bool.{both_ways}
use Rattle.cf_notify.proofs.Collecting.{collecting_from, collecting_named, collecting_any, collecting_room, collecting_less, collected_all, its_named, its_any, named_bound, any_bound}
use Rattle.cf_notify.proofs.centre.Centre.collect.Goals as goal

pub loop-k-init : goal.loop-k-init
loop-k-init c = collecting_from c.args.name c.args.object c.args.self.now.made c.args.out.now
    c.first_named-named.result c.first_named-any.result (rw c.list_of.ensures.list at c.first_named-named.ensures)
    (rw c.list_of-2.ensures.list at c.first_named-any.ensures)

pub put_receiver-requires : goal.put_receiver-requires
put_receiver-requires c t =
    let pick = sym c.least.ensures ∙ c.in-Some.is in
    collecting_room c.args.name c.args.object c.args.self.now.made c.args.out.now c.loop-k.out c.loop-k.named
    c.loop-k.any c.loop-k.invariant c.in-Some.k pick c.requires t

pub loop-k-smaller-then-is_it : goal.loop-k-smaller-then-is_it
loop-k-smaller-then-is_it c =
    let pick = sym c.least.ensures ∙ c.in-Some.is in
    let is = c.is_it.ensures.0 c.if-is_it.true in
    let next = c.next_named-named.ensures (c.args.name + 1) (its_named c.args.name c.args.object c.args.self.now.made
    c.args.out.now c.loop-k.out c.loop-k.named c.loop-k.any c.loop-k.invariant c.in-Some.k pick is) in
    let now = collecting_named c.args.name c.args.object c.args.self.now.made c.args.out.now c.loop-k.out
    c.loop-k.named c.loop-k.any c.loop-k.invariant c.in-Some.k pick c.put_receiver.new.out
    c.put_receiver.ensures.items c.put_receiver.ensures.len c.put_receiver.ensures.capacity
    c.next_named-named.result is next in
    rw pick (collecting_less c.args.name c.args.object c.args.self.now.made c.args.out.now c.loop-k.out
    c.put_receiver.new.out c.loop-k.named c.loop-k.any c.next_named-named.result c.loop-k.any c.in-Some.k
    c.loop-k.invariant pick now (named_bound c.args.name c.args.object c.args.self.now.made c.args.out.now
    c.loop-k.out c.loop-k.named c.loop-k.any c.loop-k.invariant c.in-Some.k pick c.put_receiver.new.out
    c.put_receiver.ensures.items c.put_receiver.ensures.len c.put_receiver.ensures.capacity
    c.next_named-named.result is next))

pub loop-k-preserved-then-is_it : goal.loop-k-preserved-then-is_it
loop-k-preserved-then-is_it c =
    let pick = sym c.least.ensures ∙ c.in-Some.is in
    let is = c.is_it.ensures.0 c.if-is_it.true in
    let next = c.next_named-named.ensures (c.args.name + 1) (its_named c.args.name c.args.object c.args.self.now.made
    c.args.out.now c.loop-k.out c.loop-k.named c.loop-k.any c.loop-k.invariant c.in-Some.k pick is) in
    let now = collecting_named c.args.name c.args.object c.args.self.now.made c.args.out.now c.loop-k.out
    c.loop-k.named c.loop-k.any c.loop-k.invariant c.in-Some.k pick c.put_receiver.new.out
    c.put_receiver.ensures.items c.put_receiver.ensures.len c.put_receiver.ensures.capacity
    c.next_named-named.result is next in
    now

pub loop-k-smaller : goal.loop-k-smaller
loop-k-smaller c =
    let pick = sym c.least.ensures ∙ c.in-Some.is in
    let apart : c.loop-k.named ≢ Some c.in-Some.k = λ e. both_ways _ c.if-is_it.false (c.is_it.ensures.1 e) in
    let next = c.next_named-any.ensures 0 (its_any c.args.name c.args.object c.args.self.now.made c.args.out.now
    c.loop-k.out c.loop-k.named c.loop-k.any c.loop-k.invariant c.in-Some.k pick apart) in
    let now = collecting_any c.args.name c.args.object c.args.self.now.made c.args.out.now c.loop-k.out c.loop-k.named
    c.loop-k.any c.loop-k.invariant c.in-Some.k pick c.put_receiver.new.out c.put_receiver.ensures.items
    c.put_receiver.ensures.len c.put_receiver.ensures.capacity c.next_named-any.result apart next in
    rw pick (collecting_less c.args.name c.args.object c.args.self.now.made c.args.out.now c.loop-k.out
    c.put_receiver.new.out c.loop-k.named c.loop-k.any c.loop-k.named c.next_named-any.result c.in-Some.k
    c.loop-k.invariant pick now (any_bound c.args.name c.args.object c.args.self.now.made c.args.out.now
    c.loop-k.out c.loop-k.named c.loop-k.any c.loop-k.invariant c.in-Some.k pick c.put_receiver.new.out
    c.put_receiver.ensures.items c.put_receiver.ensures.len c.put_receiver.ensures.capacity c.next_named-any.result
    apart next))

pub loop-k-preserved : goal.loop-k-preserved
loop-k-preserved c =
    let pick = sym c.least.ensures ∙ c.in-Some.is in
    let apart : c.loop-k.named ≢ Some c.in-Some.k = λ e. both_ways _ c.if-is_it.false (c.is_it.ensures.1 e) in
    let next = c.next_named-any.ensures 0 (its_any c.args.name c.args.object c.args.self.now.made c.args.out.now
    c.loop-k.out c.loop-k.named c.loop-k.any c.loop-k.invariant c.in-Some.k pick apart) in
    let now = collecting_any c.args.name c.args.object c.args.self.now.made c.args.out.now c.loop-k.out c.loop-k.named
    c.loop-k.any c.loop-k.invariant c.in-Some.k pick c.put_receiver.new.out c.put_receiver.ensures.items
    c.put_receiver.ensures.len c.put_receiver.ensures.capacity c.next_named-any.result apart next in
    now

pub returns-clause-items : goal.returns-clause-items
returns-clause-items c = collected_all c.args.name c.args.object c.args.self.now.made c.args.out.now c.loop-k.out
    c.loop-k.named c.loop-k.any c.loop-k.invariant (sym c.least.ensures ∙ c.in_default.is)

pub returns-clause-capacity : goal.returns-clause-capacity
returns-clause-capacity c = c.loop-k.invariant.capacity
