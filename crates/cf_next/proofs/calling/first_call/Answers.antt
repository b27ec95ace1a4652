-- Answers to the goals of `calling::first_call`.
use Rattle.std.proofs.Common.{◌≡◌, false, length, refl, arith}
use Rattle.std.specs.Prelude.{is_some}
use Rattle.cf_next.specs.Views.{kind_of}
use Rattle.cf_next.proofs.LoopLaws.{begins-next, none-of, demand-next, left-next, left-got}
use Rattle.cf_next.proofs.calling.first_call.Goals as goal

pub loop-callee-preserved : goal.loop-callee-preserved
loop-callee-preserved g c =
    let w = c.loop-callee.invariant in
    let h = c.in-Some.ensures.cases in
    let empty : is_some c.callee_step-step.result ≡ false = cc in
    let none = none-of c.callee_step-step.result _ empty c.callee_step-step.ensures.demand in
    record {
      begins = begins-next _ c.args.collected.now _ _ h.0 w.begins;
      demand = demand-next (g.F.Facts.known c.args.facts.now) c.args.t (kind_of c.args.kind.now) c.args.collected.now _ c.in-Some.others.now c.in-Some.callee.now h.0 none w.demand;
      left = left-next (g.F.Facts.known c.args.facts.now) c.args.t (kind_of c.args.kind.now) c.args.collected.now _ c.in-Some.others.now c.in-Some.callee.now h.0 none w.left;
      within = omega (arith, h.1, w.within);
    }

pub returns-then-is_some-clause-left : goal.returns-then-is_some-clause-left
returns-then-is_some-clause-left g c =
    let w = c.loop-callee.invariant in
    let h = c.in-Some.ensures.cases in
    left-got (g.F.Facts.known c.args.facts.now) c.args.t (kind_of c.args.kind.now) c.args.collected.now _ c.in-Some.others.now c.in-Some.callee.now h.0 c.callee_step-step.result (length c.in-Some.others.now) refl c.callee_step-step.ensures.demand c.callee_step-step.ensures.left (begins-next _ c.args.collected.now _ _ h.0 w.begins) (omega (arith, h.1, w.within)) w.left
