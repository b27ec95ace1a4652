-- Answers to the goals of `numbers::number_below`.
use Rattle.std.proofs.Common.{◌+◌, ◌-◌, ◌*◌, ◌≤◌, get_or, sym, ◌∙◌, arith}
use Rattle.cf_syntax.specs.Numbers.{is_digit}
use Rattle.cf_script.proofs.NumberLaws.{below_large, below_over, digit_found}
use Rattle.cf_script.proofs.numbers.number_below.Goals as goal

pub returns-in_err-checked_mul-clause-value : goal.returns-in_err-checked_mul-clause-value
returns-in_err-checked_mul-clause-value c =
    let over : c.args.limit ≤ c.loop-b.number * 10 = omega (arith, c.in_err-checked_mul.ensures) in
    c.from_residual.ensures ∙ sym (below_over c.args.limit c.loop-b.number c.loop-b.b-index c.args.word.now c.loop-b-test.true over) ∙ c.loop-b.invariant

pub returns-in_err-number-clause-value : goal.returns-in_err-number-clause-value
returns-in_err-number-clause-value c =
    let b = get_or c.args.word.now c.loop-b.b-index 0 in
    let digit = digit_found (is_digit b) (b - 48) c.in_ok-digit_of.field-0 (sym c.digit_of.ensures ∙ c.in_ok-digit_of.was) in
    let over : c.args.limit ≤ c.loop-b.number * 10 + (b - 48) = omega (arith, c.in_err-number.ensures, c.in_ok-checked_mul.ensures, digit.1) in
    c.from_residual-in_err-number.ensures
    ∙ sym (below_large c.args.limit c.loop-b.number c.loop-b.b-index c.args.word.now c.loop-b-test.true digit.0 over) ∙ c.loop-b.invariant
