-- Answers to the goals of `stands::Stands::stop`.
use Rattle.std.proofs.Common.{◌≡◌, ℕ, ◌+◌, ◌-◌, ◌<◌, ◌≤◌, List, ◌∷◌, ◌++◌, [], length, map, take, drop, get_or, refl, sym, ap, ◌∙◌, arith, rules}
use Rattle.cf_next.specs.Stands.{stop_stand}
use Rattle.cf_state.proofs.Placing.{placed-set, stand-there, stands-set}
use Rattle.cf_state.proofs.stands.Stands.stop.Goals as goal

pub invariant_of-self : goal.invariant_of-self
invariant_of-self c =
    let fs = c.self.inside.stands.items in
    let lt : c.args.thread < length fs = omega arith in
    placed-set c.args.thread fs c.index_mut-frames.result.now c.stop.new.self lt c.index_mut-frames.ensures.value c.stop.ensures.thread c.self.invariant

pub returns-clause-stand : goal.returns-clause-stand
returns-clause-stand c =
    let fs = c.self.inside.stands.items in
    let lt : c.args.thread < length fs = omega arith in
    let old = c.index_mut-frames.result.now in
    rw (← c.self.view_is)
    (stands-set c.args.thread fs c.stop.new.self _ lt
    (c.stop.ensures.stand ∙ ap stop_stand (stand-there c.args.thread fs old lt c.index_mut-frames.ensures.value)))
