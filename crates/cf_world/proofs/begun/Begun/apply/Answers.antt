-- Answers to the goals of `begun::Begun::apply`.
use Rattle.std.proofs.Common.{◌≡◌, false, None, refl, arith}
use Rattle.cf_next.specs.Actions.{cut_of}
use Rattle.cf_world.specs.Begun.{view_of}
use Rattle.cf_world.specs.declared.begun.Begun.TheInside.{Inside}
use Rattle.cf_world.proofs.Closing.{acts_here, acts_so, applied_here, applied_view, begun_after, reserved_here, room_here, thread_here}
use Rattle.cf_world.proofs.begun.Begun.apply.Goals as goal

pub enter-requires-clause-reserved : goal.enter-requires-clause-reserved
enter-requires-clause-reserved c = reserved_here c.self.inside c.args.self.now c.args.t c.self.view_is c.self.invariant c.self.inside.reserved (room_here c.self.inside c.args.self.now c.args.t c.self.view_is c.requires.room)

pub enter-requires-clause-keeps : goal.enter-requires-clause-keeps
enter-requires-clause-keeps c =
    let w = c.self.inside in
    let r = w.reserved in
    let same = thread_here w c.args.self.now c.args.t c.self.view_is c.self.invariant r (room_here w c.args.self.now c.args.t c.self.view_is c.requires.room) c.requires.room in
    let has = reserved_here w c.args.self.now c.args.t c.self.view_is c.self.invariant r (room_here w c.args.self.now c.args.t c.self.view_is c.requires.room) in
    let acts = acts_here w c.args.self.now c.args.t c.self.view_is c.self.invariant r (λ a. cut_of a ≡ None) same c.requires.acts in
    acts_so w c.self.invariant r has.found (λ a. cut_of a ≡ None) acts

pub invariant_of-self : goal.invariant_of-self
invariant_of-self c =
    let w = c.self.inside in
    let r = w.reserved in
    let same = thread_here w c.args.self.now c.args.t c.self.view_is c.self.invariant r (room_here w c.args.self.now c.args.t c.self.view_is c.requires.room) c.requires.room in
    let has = reserved_here w c.args.self.now c.args.t c.self.view_is c.self.invariant r (room_here w c.args.self.now c.args.t c.self.view_is c.requires.room) in
    let acts = acts_here w c.args.self.now c.args.t c.self.view_is c.self.invariant r (λ a. cut_of a ≡ None) same c.requires.acts in
    begun_after w c.self.invariant r has.found (λ a. cut_of a ≡ None) acts _ refl c.enter.ensures.gone refl (omega arith) (omega arith)

pub returns-clause-entered : goal.returns-clause-entered
returns-clause-entered c =
    let w = c.self.inside in
    let r = w.reserved in
    let same = thread_here w c.args.self.now c.args.t c.self.view_is c.self.invariant r (room_here w c.args.self.now c.args.t c.self.view_is c.requires.room) c.requires.room in
    let has = reserved_here w c.args.self.now c.args.t c.self.view_is c.self.invariant r (room_here w c.args.self.now c.args.t c.self.view_is c.requires.room) in
    let acts = acts_here w c.args.self.now c.args.t c.self.view_is c.self.invariant r (λ a. cut_of a ≡ None) same c.requires.acts in
    let after : Inside = record { ground = c.enter.new.ground; frames = c.enter.new.frames; limit = w.limit; gained = c.enter.new.gained; list = c.enter.new.list; looked = w.looked; reserved = w.reserved; has_room = false } in
    applied_here w c.args.self.now c.args.t c.self.view_is c.self.invariant r (view_of after) same
    (applied_view w c.self.invariant r has.found (λ a. cut_of a ≡ None) acts after refl c.enter.ensures.gone refl (omega arith) (omega arith) c.enter.ensures.gained)
