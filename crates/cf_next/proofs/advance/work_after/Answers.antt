-- Answers to the goals of `advance::work_after`.
use Rattle.std.proofs.Common.{◌∙◌, ◌+◌, List, ◌∷◌, ◌++◌, map, ap, subst, arith}
use Rattle.cf_next.specs.declared.step.Step.{Step}
use Rattle.cf_next.specs.Stands.{Work, release_of, slots_of}
use Rattle.cf_next.specs.Advancing.{IsWorkFound}
use Rattle.cf_next.specs.Demands.{work_left}
use Rattle.cf_next.specs.Views.{works_of}
use Rattle.cf_next.proofs.SuffixLaws.{kept-is, work-last, works-size}
use Rattle.cf_next.proofs.advance.work_after.Goals as goal

pub keep_work-requires : goal.keep_work-requires
keep_work-requires g c =
    let facts = g.F.Facts.known c.args.facts.now in
    let all = works_of c.args.work.now.items in
    let is = subst (λ (x : Step). IsWorkFound facts all x) c.in-Owes.is c.requires.found in
    let last = work-last facts all in
    omega (arith, is, last.within, works-size c.args.work.now.items, c.args.work.now.ok)

pub keep_work-requires-in-Spends : goal.keep_work-requires-in-Spends
keep_work-requires-in-Spends g c =
    let facts = g.F.Facts.known c.args.facts.now in
    let all = works_of c.args.work.now.items in
    let is = subst (λ (x : Step). IsWorkFound facts all x) c.in-Spends.is c.requires.found in
    let last = work-last facts all in
    omega (arith, is, last.within, works-size c.args.work.now.items, c.args.work.now.ok)

pub keep_work-requires-in-Drops : goal.keep_work-requires-in-Drops
keep_work-requires-in-Drops g c =
    let facts = g.F.Facts.known c.args.facts.now in
    let all = works_of c.args.work.now.items in
    let is = subst (λ (x : Step). IsWorkFound facts all x) c.in-Drops.is c.requires.found in
    let last = work-last facts all in
    omega (arith, is, last.within, works-size c.args.work.now.items, c.args.work.now.ok)

pub returns-in-Owes-clause-items : goal.returns-in-Owes-clause-items
returns-in-Owes-clause-items g c =
    let facts = g.F.Facts.known c.args.facts.now in
    let all = works_of c.args.work.now.items in
    let is = subst (λ (x : Step). IsWorkFound facts all x) c.in-Owes.is c.requires.found in
    let kept = c.keep_work.ensures.items ∙ kept-is (work_left facts all) all c.in-Owes.left (work-last facts all) is in
    rw c.in-Owes.is (kept)

pub returns-in-Spends-clause-items : goal.returns-in-Spends-clause-items
returns-in-Spends-clause-items g c =
    let facts = g.F.Facts.known c.args.facts.now in
    let all = works_of c.args.work.now.items in
    let is = subst (λ (x : Step). IsWorkFound facts all x) c.in-Spends.is c.requires.found in
    let kept = c.keep_work-in-Spends.ensures.items ∙ kept-is (work_left facts all) all c.in-Spends.left (work-last facts all) is in
    rw c.in-Spends.is (c.owe.ensures.items ∙ ap (λ (ws : List Work). map release_of c.args.list.now ++ ws) kept)

pub returns-in-Drops-clause-items : goal.returns-in-Drops-clause-items
returns-in-Drops-clause-items g c =
    let facts = g.F.Facts.known c.args.facts.now in
    let all = works_of c.args.work.now.items in
    let is = subst (λ (x : Step). IsWorkFound facts all x) c.in-Drops.is c.requires.found in
    let kept = c.keep_work-in-Drops.ensures.items ∙ kept-is (work_left facts all) all c.in-Drops.left (work-last facts all) is in
    rw c.in-Drops.is (c.put_first.ensures.items ∙ ap (λ (ws : List Work). slots_of c.in-Drops.body (c.in-Drops.place + 1) ∷ ws) kept)
