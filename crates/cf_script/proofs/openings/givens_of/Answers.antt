-- Answers to the goals of `openings::givens_of`.
use Rattle.std.proofs.Common.{ℕ, ◌+◌, ◌<◌, ◌≤◌, List, [], ◌∷◌, ◌++◌, length, drop, Option, ap, sym, ◌∙◌, arith}
use Rattle.std.specs.Prelude.{min, get_or}
use Rattle.std.proofs.lemmas.List.{drop_more}
use Rattle.cf_syntax.specs.declared.script.Given.{Given}
use Rattle.cf_syntax.specs.Text.{givens_of, setup_variables}
use Rattle.cf_script.specs.Views.{lent}
use Rattle.cf_script.proofs.OpeningLaws.{given_next, given_last, either_within}
use Rattle.cf_script.proofs.openings.givens_of.Goals as goal
use denote.Ref.{Bor}

pub loop-i-preserved : goal.loop-i-preserved
loop-i-preserved c =
    let setup = setup_variables c.args.blocks.now in
    let w : Bor (List ℕ) = get_or c.args.words.now c.loop-i.i (record { ref_ptr = (0, 0); now = [] }) in
    let n = c.index-numbers-i.result in
    let within : c.loop-i.i < min (length c.args.words.now) (length c.args.numbers.now) = omega (arith, c.min-count.ensures, c.loop-i-test.true) in
    let one = ap (λ (v : Option ℕ). c.loop-i.uses.items ++ record { setup = v; own = n } ∷ []) c.setup_variable.ensures in
    ap (λ (us : List Given). us ++ givens_of setup (lent (drop (c.loop-i.i + 1) c.args.words.now)) (drop (c.loop-i.i + 1) c.args.numbers.now)) (c.in_ok-push.ensures.items ∙ one)
    ∙ given_next setup c.args.words.now c.args.numbers.now c.loop-i.i c.loop-i.uses.items w n (drop_more c.args.words.now c.loop-i.i _ (omega (arith, within)))
    (drop_more c.args.numbers.now c.loop-i.i n (omega (arith, within)) ∙ ap (λ (m : ℕ). m ∷ drop (c.loop-i.i + 1) c.args.numbers.now) (sym c.index-numbers-i.is)) ∙ c.loop-i.invariant

pub returns : goal.returns
returns c =
    let within : min (length c.args.words.now) (length c.args.numbers.now) ≤ c.loop-i.i = omega (arith, c.min-count.ensures, c.loop-i-test.false) in
    let end = either_within (length c.args.words.now) (length c.args.numbers.now) c.loop-i.i within in
    sym (given_last _ c.args.words.now c.args.numbers.now c.loop-i.i c.loop-i.uses.items end) ∙ c.loop-i.invariant
