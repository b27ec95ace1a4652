-- Answers to the goals of `ground::Ground::has_stalled`.
use Rattle.std.proofs.Common.{◌∙◌, sym, ap}
use Rattle.std.specs.Option.{option_copied}
use Rattle.cf_model.specs.State.{start}
use Rattle.cf_world.proofs.Stalling.{last_there, not_stall, stall_is_last}
use Rattle.cf_world.proofs.ground.Ground.has_stalled.Goals as goal

pub returns-in_default : goal.returns-in_default
returns-in_default c =
    let g = c.self.inside in
    let at = rw c.as_slice.ensures.value at (sym c.last.ensures.value ∙ ap option_copied c.in-Some.is) in
    record {
      stalled = rw (← c.self.view_is) (sym (not_stall _ c.in_default.not-Stall) ∙ stall_is_last g.script (start g.script) g.journal.items _ c.in-Some.entry.now c.self.invariant.legal at (last_there g.journal.items c.in-Some.entry.now at));
      runs = rw (← c.self.view_is) c.self.invariant.script;
    }
