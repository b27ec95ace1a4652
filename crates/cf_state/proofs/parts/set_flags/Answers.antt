-- Answers to the goals of `parts::set_flags`.
use Rattle.std.proofs.Common.{◌≡◌, false, [], ◌∷◌, ◌++◌, ◌<◌, ◌≤◌, length, ap, ◌∙◌, arith}
use Rattle.cf_model.specs.State.{flags_of, with_flags}
use Rattle.cf_state.proofs.Listing.{with-at-more, with-at-set}
use Rattle.cf_state.proofs.parts.set_flags.Goals as goal

pub loop-flags-preserved : goal.loop-flags-preserved
loop-flags-preserved c =
    let t = c.args.thread in
    let fs = c.loop-flags.flags.items in
    let le : length fs ≤ t = omega arith in
    ap (with_flags t c.args.next) (c.in_ok-push.ensures.items ∙ ap (λ f. fs ++ f ∷ []) c.of.ensures)
    ∙ with-at-more (flags_of false) c.args.next t fs le ∙ c.loop-flags.invariant

pub returns : goal.returns
returns c =
    let fs = c.loop-flags.flags.items in
    let lt : c.args.thread < length fs = omega arith in
    with-at-set (flags_of false) c.args.next c.args.thread fs lt ∙ c.loop-flags.invariant
