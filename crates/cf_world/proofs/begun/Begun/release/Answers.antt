-- Answers to the goals of `begun::Begun::release`.
use Rattle.std.proofs.Common.{◌≡◌, false, Some, refl, sym, arith, ap, ◌∙◌}
use Rattle.cf_next.specs.Actions.{cut_of}
use Rattle.cf_world.specs.Worlds.{WorldView, ended_in}
use Rattle.cf_world.specs.Begun.{view_of}
use Rattle.cf_world.specs.declared.begun.Begun.TheInside.{Inside}
use Rattle.cf_world.proofs.Closing.{acts_here, acts_so, begun_after, entered_here, entered_view, reserved_here, room_here, thread_here}
use Rattle.cf_world.proofs.begun.Begun.release.Goals as goal

pub cut-requires-clause-reserved : goal.cut-requires-clause-reserved
cut-requires-clause-reserved c = reserved_here c.self.inside c.args.self.now c.args.t c.self.view_is c.self.invariant c.self.inside.reserved (room_here c.self.inside c.args.self.now c.args.t c.self.view_is c.requires.room)

pub cut-requires-clause-cuts : goal.cut-requires-clause-cuts
cut-requires-clause-cuts c =
    let w = c.self.inside in
    let r = w.reserved in
    let same = thread_here w c.args.self.now c.args.t c.self.view_is c.self.invariant r (room_here w c.args.self.now c.args.t c.self.view_is c.requires.room) c.requires.room in
    let has = reserved_here w c.args.self.now c.args.t c.self.view_is c.self.invariant r (room_here w c.args.self.now c.args.t c.self.view_is c.requires.room) in
    let acts = acts_here w c.args.self.now c.args.t c.self.view_is c.self.invariant r (λ a. cut_of a ≡ Some c.args.o) same c.requires.acts in
    acts_so w c.self.invariant r has.found (λ a. cut_of a ≡ Some c.args.o) acts

pub cut-requires-clause-ended : goal.cut-requires-clause-ended
cut-requires-clause-ended c = c.requires.ended ∙ ap (λ (v : WorldView). ended_in v c.args.o) (sym c.self.view_is)

pub invariant_of-self : goal.invariant_of-self
invariant_of-self c =
    let w = c.self.inside in
    let r = w.reserved in
    let same = thread_here w c.args.self.now c.args.t c.self.view_is c.self.invariant r (room_here w c.args.self.now c.args.t c.self.view_is c.requires.room) c.requires.room in
    let has = reserved_here w c.args.self.now c.args.t c.self.view_is c.self.invariant r (room_here w c.args.self.now c.args.t c.self.view_is c.requires.room) in
    let acts = acts_here w c.args.self.now c.args.t c.self.view_is c.self.invariant r (λ a. cut_of a ≡ Some c.args.o) same c.requires.acts in
    begun_after w c.self.invariant r has.found (λ a. cut_of a ≡ Some c.args.o) acts _ refl c.cut.ensures.gone refl (omega arith) (omega arith)

pub returns-clause-entered : goal.returns-clause-entered
returns-clause-entered c =
    let w = c.self.inside in
    let r = w.reserved in
    let same = thread_here w c.args.self.now c.args.t c.self.view_is c.self.invariant r (room_here w c.args.self.now c.args.t c.self.view_is c.requires.room) c.requires.room in
    let has = reserved_here w c.args.self.now c.args.t c.self.view_is c.self.invariant r (room_here w c.args.self.now c.args.t c.self.view_is c.requires.room) in
    let acts = acts_here w c.args.self.now c.args.t c.self.view_is c.self.invariant r (λ a. cut_of a ≡ Some c.args.o) same c.requires.acts in
    let after : Inside = record { ground = c.cut.new.ground; frames = c.cut.new.frames; limit = w.limit; gained = w.gained; list = w.list; looked = w.looked; reserved = w.reserved; has_room = false } in
    entered_here w c.args.self.now c.args.t c.self.view_is c.self.invariant r (view_of after) same
    (entered_view w c.self.invariant r has.found (λ a. cut_of a ≡ Some c.args.o) acts after refl c.cut.ensures.gone refl (omega arith) (omega arith) refl)
