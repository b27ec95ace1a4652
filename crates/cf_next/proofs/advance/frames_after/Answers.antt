-- Answers to the goals of `advance::frames_after`.
use Rattle.std.proofs.Common.{◌∙◌, List, ◌∷◌, ap, subst, arith, inl, inr}
use Rattle.cf_next.specs.declared.step.Step.{Step}
use Rattle.cf_next.specs.Stands.{Frame}
use Rattle.cf_next.specs.Advance.{handler_frame}
use Rattle.cf_next.specs.Next.{top_frame}
use Rattle.cf_next.specs.Advancing.{IsFrameFound}
use Rattle.cf_next.specs.Views.{callee_of}
use Rattle.cf_next.proofs.SuffixLaws.{callees-last-of, called-done}
use Rattle.cf_next.proofs.advance.frames_after.Goals as goal

pub call-requires-clause-left : goal.call-requires-clause-left
call-requires-clause-left g c =
    let facts = g.F.Facts.known c.args.facts.now in
    let f = top_frame c.args.stack.now.frames in
    let is = subst (λ (x : Step). IsFrameFound facts c.args.t c.args.stack.now.frames x) c.in-Calls.is c.requires.found in
    let last = callees-last-of facts c.args.t f.kind f.collected in
    omega (arith, is, last.within)

pub pop-requires : goal.pop-requires
pop-requires g c =
    let P = λ (x : Step). IsFrameFound (g.F.Facts.known c.args.facts.now) c.args.t c.args.stack.now.frames x in
    elim c.in-Returns.is [
      | inl e ↦ subst P e c.requires.found
      | inr e ↦ subst P e c.requires.found
    ]

pub returns-in-Calls : goal.returns-in-Calls
returns-in-Calls g c =
    let facts = g.F.Facts.known c.args.facts.now in
    let fs = c.args.stack.now.frames in
    let k = callee_of c.in-Calls.callee in
    let is = subst (λ (x : Step). IsFrameFound facts c.args.t fs x) c.in-Calls.is c.requires.found in
    rw (c.in-Calls.is, ← c.object.ensures) (c.call.ensures ∙ ap (λ (x : List Frame). handler_frame k (record { handler = c.in-Calls.handler; info = c.object.result }) ∷ x) (called-done facts c.args.t k.role c.in-Calls.left fs is))
