-- Answers to the goals of `stands::Stands::opening`.
use Rattle.std.proofs.Common.{◌≡◌, ℕ, ◌+◌, ◌-◌, ◌<◌, ◌≤◌, List, ◌∷◌, ◌++◌, [], length, map, take, drop, get_or, refl, sym, ap, subst, ◌∙◌, arith, rules}
use Rattle.std.proofs.lemmas.List.{length_push}
use Rattle.cf_next.specs.Stands.{opening_stand}
use Rattle.cf_state.specs.Placed.{IsPlaced, stands_of}
use Rattle.cf_state.proofs.Listing.{map-last}
use Rattle.cf_state.proofs.Placing.{placed-push, stands-push}
use Rattle.cf_state.proofs.stands.Stands.opening.Goals as goal

pub loop-thread-preserved : goal.loop-thread-preserved
loop-thread-preserved c =
    let w = c.loop-thread.invariant in
    let fs = c.loop-thread.stands.items in
    let f = c.new.result in
    let t = c.loop-thread.thread in
    let more : c.push.new.self.items ≡ fs ++ f ∷ [] = c.in_ok-push.ensures.items in
    let of : f.thread ≡ t = cc in
    let at : f.stand ≡ opening_stand t = cc in
    record {
      made = ap stands_of more ∙ stands-push fs f ∙ map-last opening_stand t (stands_of fs) f.stand w.made at;
      placed = subst (IsPlaced 0) (sym more) (placed-push fs f t w.placed of w.count);
      count = omega (arith, ap length more, length_push fs f, w.count);
      within = omega arith;
    }
