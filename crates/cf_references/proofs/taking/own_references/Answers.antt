-- Answers to the goals of `taking::own_references`.
use Rattle.std.proofs.Common.{◌≡◌, ◌++◌, ◌∙◌, ap}
use Rattle.cf_model.specs.Own.{own_reference, own_references, without_if}
use Rattle.cf_references.proofs.Finding.{own-next}
use Rattle.cf_references.proofs.taking.own_references.Goals as goal

pub loop-next-preserved : goal.loop-next-preserved
loop-next-preserved c =
    let h = c.in-Some.ensures.cases in
    let r = c.in-Some.next.now in
    let left = c.loop-next.left.items in
    let now = c.take_if.new.references.items in
    let found : c.own_of-found.result ≡ own_reference c.args.thread r.holder r.object left = cc in
    let gone : now ≡ without_if c.own_of-found.result left = c.take_if.ensures in
    ap (λ xs. xs ++ own_references c.args.thread c.in-Some.others.now now) c.in_ok-put_if.ensures
    ∙ own-next c.args.thread c.loop-next.own.items c.loop-next.rest.now c.in-Some.others.now r c.own_of-found.result left now _ h.0 found gone c.loop-next.invariant
