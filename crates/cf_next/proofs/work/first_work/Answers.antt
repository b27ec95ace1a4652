-- Answers to the goals of `work::first_work`.
use Rattle.std.proofs.Common.{◌≡◌, false, length, refl, arith}
use Rattle.std.specs.Prelude.{is_some}
use Rattle.cf_next.proofs.LoopLaws.{begins-next, none-of, work-next, rest-next, rest-got}
use Rattle.cf_next.proofs.work.first_work.Goals as goal

pub loop-item-preserved : goal.loop-item-preserved
loop-item-preserved g c =
    let w = c.loop-item.invariant in
    let h = c.in-Some.ensures.cases in
    let empty : is_some c.item_step-step.result ≡ false = cc in
    let none = none-of c.item_step-step.result _ empty c.item_step-step.ensures.demand in
    record {
      begins = begins-next _ c.args.work.now _ _ h.0 w.begins;
      demand = work-next (g.F.Facts.known c.args.facts.now) c.args.work.now _ c.in-Some.others.now c.in-Some.item.now h.0 none w.demand;
      left = rest-next (g.F.Facts.known c.args.facts.now) c.args.work.now _ c.in-Some.others.now c.in-Some.item.now h.0 none w.left;
      within = omega (arith, h.1, w.within);
    }

pub returns-then-is_some-clause-left : goal.returns-then-is_some-clause-left
returns-then-is_some-clause-left g c =
    let w = c.loop-item.invariant in
    let h = c.in-Some.ensures.cases in
    rest-got (g.F.Facts.known c.args.facts.now) c.args.work.now _ c.in-Some.others.now c.in-Some.item.now h.0 c.item_step-step.result (length c.in-Some.others.now) refl c.item_step-step.ensures.demand c.item_step-step.ensures.left (begins-next _ c.args.work.now _ _ h.0 w.begins) (omega (arith, h.1, w.within)) w.left
