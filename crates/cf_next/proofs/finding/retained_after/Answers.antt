-- Answers to the goals of `finding::retained_after`.
use Rattle.std.proofs.Common.{◌≡◌, ◌∙◌, ℕ, suc, ◌+◌, ◌-◌, true, false, drop, sym, ap, arith}
use Rattle.std.specs.Prelude.{is_some, slice_get}
use Rattle.std.specs.Option.{option_and_then}
use Rattle.cf_next.specs.Ahead.{lines_ahead, retain_of}
use Rattle.cf_next.specs.Finding.{top_lines}
use Rattle.cf_next.specs.Next.{top_frame}
use Rattle.cf_next.proofs.AheadLaws.{ahead-first, ahead-next, ahead-none, ahead-within}
use Rattle.cf_next.proofs.FormLaws.{lines-few}
use Rattle.cf_next.proofs.finding.retained_after.Goals as goal

pub returns-then-is_none : goal.returns-then-is_none
returns-then-is_none c =
    let f = top_frame c.args.stack.now.frames in
    let ls = top_lines c.args.script.now f in
    let none : is_some (option_and_then (retain_of f.bindings) (slice_get ls c.loop-left.number)) ≡ false = ap is_some (sym c.retained.ensures) ∙ c.if-is_none.ensures in
    sym (ahead-none f.bindings ls c.loop-left.number c.loop-left.left none) ∙ c.loop-left.invariant

pub loop-left-preserved : goal.loop-left-preserved
loop-left-preserved c =
    let f = top_frame c.args.stack.now.frames in
    let ls = top_lines c.args.script.now f in
    let some : is_some (option_and_then (retain_of f.bindings) (slice_get ls c.loop-left.number)) ≡ true = ap is_some (sym c.retained.ensures) ∙ c.if-is_none.ensures in
    let more : c.loop-left.number + 1 ≡ suc c.loop-left.number = omega arith in
    let less : suc (c.loop-left.left - 1) ≡ c.loop-left.left = omega (arith, c.loop-left-test.true) in
    ap (λ (m : ℕ). slice_get (lines_ahead f.bindings (drop m ls)) (c.loop-left.left - 1)) more
    ∙ sym (ahead-next f.bindings ls c.loop-left.number (c.loop-left.left - 1) some)
    ∙ ap (λ (m : ℕ). slice_get (lines_ahead f.bindings (drop c.loop-left.number ls)) m) less
    ∙ c.loop-left.invariant

pub returns : goal.returns
returns c =
    let f = top_frame c.args.stack.now.frames in
    let ls = top_lines c.args.script.now f in
    let none : 0 ≡ c.loop-left.left = omega (arith, c.loop-left-test.false) in
    c.retained-2.ensures
    ∙ sym (ahead-first f.bindings ls c.loop-left.number)
    ∙ ap (λ (m : ℕ). slice_get (lines_ahead f.bindings (drop c.loop-left.number ls)) m) none
    ∙ c.loop-left.invariant

pub overflow_add-number : goal.overflow_add-number
overflow_add-number c =
    let f = top_frame c.args.stack.now.frames in
    let ls = top_lines c.args.script.now f in
    let some : is_some (option_and_then (retain_of f.bindings) (slice_get ls c.loop-left.number)) ≡ true = ap is_some (sym c.retained.ensures) ∙ c.if-is_none.ensures in
    omega (arith, ahead-within f.bindings ls c.loop-left.number some, lines-few c.args.script.now c.has_numbers.ensures f.kind f.block)
