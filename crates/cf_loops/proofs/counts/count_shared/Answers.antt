use Rattle.std.proofs.Common.{arith, true, false, refl}
use Rattle.cf_loops.specs.Changing.{is_shared, places_at}
use Rattle.cf_loops.proofs.Counting.{places_few, there, passed_few, passed_more, passed_all}
use Rattle.cf_loops.proofs.counts.count_shared.Goals as goal
use Rattle.cf_loops.proofs.counts.count_shared.Goals.{then-is_shared, else-is_shared}

pub overflow_add-shared : goal.overflow_add-shared
overflow_add-shared c =
    omega (arith, c.loop-place.invariant.shared_is, passed_few (places_at c.args.item c.args.modes.now) (is_shared c.args.modes.now.common_modes) c.loop-place.k, places_few c.args.item c.args.modes.now)

pub overflow_add-k : goal.overflow_add-k
overflow_add-k c = omega (arith, places_few c.args.item c.args.modes.now, c.loop-place.invariant.within)

pub loop-place-smaller : goal.loop-place-smaller
loop-place-smaller c = omega (arith, there (places_at c.args.item c.args.modes.now) c.loop-place.k c.in-Some.place c.in-Some.ensures)

pub loop-place-preserved : goal.loop-place-preserved
loop-place-preserved c =
    let ps = places_at c.args.item c.args.modes.now in
    let f = is_shared c.args.modes.now.common_modes in
    record {
      within = omega (arith, there ps c.loop-place.k c.in-Some.place c.in-Some.ensures);
      shared_is = elim c.if-is_shared.branch [
        | then-is_shared w ↦ omega (arith, w.shared-is, passed_more ps c.loop-place.k f c.in-Some.place c.loop-place.shared 1 true c.in-Some.ensures c.loop-place.invariant.shared_is w.if-is_shared.ensures refl)
        | else-is_shared w ↦ omega (arith, w.shared-is, passed_more ps c.loop-place.k f c.in-Some.place c.loop-place.shared 0 false c.in-Some.ensures c.loop-place.invariant.shared_is w.if-is_shared.ensures refl)
      ];
    }

pub returns : goal.returns
returns c = passed_all (places_at c.args.item c.args.modes.now) c.loop-place.k (is_shared c.args.modes.now.common_modes) c.loop-place.shared c.in_default.ensures c.loop-place.invariant.shared_is
