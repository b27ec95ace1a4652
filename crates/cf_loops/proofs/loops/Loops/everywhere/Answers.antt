use Rattle.std.proofs.Common.{◌≡◌, ◌<◌, ℕ, List, length, replicate, arith, refl, sym, ap, ◌∙◌}
use Rattle.rl_modes.specs.Loops.{Loop}
use Rattle.cf_next.specs.Held.{below}
use Rattle.cf_loops.specs.Following.{loop_at}
use Rattle.cf_loops.specs.Changing.{places_at}
use Rattle.cf_loops.proofs.Counting.{places_few}
use Rattle.cf_loops.proofs.Looking.{at_read}
use Rattle.cf_loops.proofs.Summing.{count_none, count_more}
use Rattle.cf_loops.proofs.Invalidating.{everywhere_objects}
use Rattle.cf_loops.proofs.loops.Loops.everywhere.Goals as goal

pub loop-t-init : goal.loop-t-init
loop-t-init c = record { places_are = count_none c.args.i c.args.self.now; few = omega arith }

pub overflow_add-places : goal.overflow_add-places
overflow_add-places c =
    let same = ap (λ (ls : List Loop). length ls) c.self.view_is in
    omega (arith, c.count_places-places.ensures, places_few c.args.i c.index.result.now, c.loop-t.invariant.few, c.self.inside.loops.ok.0, c.requires, same, c.loop-t-test.true)

pub loop-t-preserved : goal.loop-t-preserved
loop-t-preserved c =
    let same = ap (λ (ls : List Loop). length ls) c.self.view_is in
    let within : c.loop-t.t < length c.args.self.now = omega (arith, c.self.inside.loops.ok.0, same, c.loop-t-test.true) in
    record {
      places_are = count_more c.args.i c.args.self.now c.loop-t.t c.loop-t.places c.count_places-places.result c.index.result.now c.loop-t.invariant.places_are c.count_places-places.ensures
          (at_read c.args.self.now c.self.inside.loops.items c.loop-t.t c.loop-t.t c.index.result.now c.self.view_is refl within c.index.ensures);
      few = omega (arith, c.count_places-places.ensures, places_few c.args.i c.index.result.now, c.loop-t.invariant.few);
    }

pub returns : goal.returns
returns c = λ s st h.
    let same = ap (λ (ls : List Loop). length ls) c.self.view_is in
    let all : s.thread_count ≡ c.loop-t.t = omega (arith, c.self.inside.loops.ok.0, same, c.loop-t-test.false, c.loop-t.auto.t-end, h.threads) in
    everywhere_objects s st c.args.self.now c.args.i h
    ∙ ap (λ (n : ℕ). replicate n c.args.i) (ap (λ (k : ℕ). length (below (λ t. places_at c.args.i (loop_at t c.args.self.now)) k)) all ∙ sym c.loop-t.invariant.places_are)
