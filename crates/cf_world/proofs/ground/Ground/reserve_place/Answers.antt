-- Answers to the goals of `ground::Ground::reserve_place`.
use Rattle.cf_model.specs.Journals.{After}
use Rattle.cf_world.proofs.ground.Ground.reserve_place.Goals as goal

pub invariant_of-self : goal.invariant_of-self
invariant_of-self c =
    let g = c.self.inside in
    let inv = c.self.invariant in
    let old = inv.follows in
    record {
      script = inv.script;
      legal = inv.legal;
      short = inv.short;
      follows = record {
        mirrors = old.mirrors;
        parcels_are = old.parcels_are;
        flags_are = old.flags_are;
        time_is = old.time_is;
        has_loops = record {
          loops_are = c.reserve_places.ensures.kept g.script (After g.script g.journal.items) old.has_loops.loops_are;
          unregistered = old.has_loops.unregistered;
        };
      };
    }
