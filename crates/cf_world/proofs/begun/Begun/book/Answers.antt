-- Answers to the goals of `begun::Begun::book`.
use Rattle.std.proofs.Common.{◌≡◌, false, Some, refl, arith}
use Rattle.cf_world.specs.Worlds.{retained_by}
use Rattle.cf_world.specs.Begun.{view_of}
use Rattle.cf_world.specs.declared.begun.Begun.TheInside.{Inside}
use Rattle.cf_world.proofs.Closing.{acts_here, acts_so, begun_after, entered_here, entered_view}
use Rattle.cf_world.proofs.begun.Begun.book.Goals as goal

pub retain-requires-clause-found : goal.retain-requires-clause-found
retain-requires-clause-found c = c.in-Ok.ensures.0

pub retain-requires-clause-retains : goal.retain-requires-clause-retains
retain-requires-clause-retains c =
    let w = c.self.inside in
    let r = c.look.new.kept in
    let h = c.in-Ok.ensures in
    let acts = acts_here w c.args.self.now c.args.t c.self.view_is c.self.invariant r (λ a. retained_by a ≡ Some c.args.o) h.1 c.requires.acts in
    acts_so w c.self.invariant r h.0 (λ a. retained_by a ≡ Some c.args.o) acts

pub invariant_of-self : goal.invariant_of-self
invariant_of-self c =
    let w = c.self.inside in
    let r = c.look.new.kept in
    let h = c.in-Ok.ensures in
    let acts = acts_here w c.args.self.now c.args.t c.self.view_is c.self.invariant r (λ a. retained_by a ≡ Some c.args.o) h.1 c.requires.acts in
    begun_after w c.self.invariant r h.0 (λ a. retained_by a ≡ Some c.args.o) acts _ refl c.retain.ensures.gone refl (omega arith) (omega arith)

pub returns-clause-entered : goal.returns-clause-entered
returns-clause-entered c =
    let w = c.self.inside in
    let r = c.look.new.kept in
    let h = c.in-Ok.ensures in
    let acts = acts_here w c.args.self.now c.args.t c.self.view_is c.self.invariant r (λ a. retained_by a ≡ Some c.args.o) h.1 c.requires.acts in
    let after : Inside = record { ground = c.retain.new.ground; frames = c.retain.new.frames; limit = w.limit; gained = w.gained; list = w.list; looked = c.look.new.kept; reserved = w.reserved; has_room = false } in
    entered_here w c.args.self.now c.args.t c.self.view_is c.self.invariant r (view_of after) h.1
    (entered_view w c.self.invariant r h.0 (λ a. retained_by a ≡ Some c.args.o) acts after refl c.retain.ensures.gone refl (omega arith) (omega arith) refl)
