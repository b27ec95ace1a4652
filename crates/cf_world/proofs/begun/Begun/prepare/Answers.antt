-- Answers to the goals of `begun::Begun::prepare`.
use Rattle.std.proofs.Common.{◌∙◌, List, length, ap, arith, subst}
use Rattle.cf_model.specs.declared.entry.Entry.{Entry}
use Rattle.cf_world.proofs.Rooming.{lists_kept, reserved_kept}
use Rattle.cf_world.specs.Begun.{IsLooked}
use Rattle.cf_world.specs.Worlds.{WorldView, next_in}
use Rattle.cf_world.proofs.begun.Begun.prepare.Goals as goal

pub returns-in-Err-clause-next : goal.returns-in-Err-clause-next
returns-in-Err-clause-next c =
    let w = c.self.inside in
    c.next.ensures ∙ subst (λ found. IsLooked w.ground w.limit c.args.t found c.look.new.kept) c.in-Err.is c.look.ensures ∙ ap (λ (v : WorldView). next_in v c.args.t) c.self.view_is

pub invariant_of-self : goal.invariant_of-self
invariant_of-self c =
    let w = c.self.inside in
    let inv = c.self.invariant in
    let e = c.in_err-reserve_for-in-Ok.ensures in
    record {
      frames = e.frames;
      within = omega (arith, ap (λ (es : List Entry). length es) e.journal, inv.within);
      most = inv.most;
      room = omega (arith, ap (λ (es : List Entry). length es) e.journal, e.room, inv.room);
      gained_room = omega (arith, e.gained_room, inv.gained_room);
      list_room = omega (arith, e.list_room, inv.list_room);
      reserved = reserved_kept w.ground c.reserve_for.new.ground w.frames.items c.reserve_for.new.frames.items w.has_room w.reserved e.refused inv.reserved;
      lists = lists_kept w.ground c.reserve_for.new.ground w.frames.items c.reserve_for.new.frames.items _ _ _ _ w.has_room w.reserved e.kept inv.lists;
    }
