-- Answers to the goals of `lines::pack_line`.
use Rattle.std.proofs.Common.{◌∙◌, sym, ap, arith}
use Rattle.std.specs.Option.{option_copied}
use Rattle.cf_next.proofs.LineLaws.{none-past}
use Rattle.cf_next.proofs.PackLaws.{pack-next, pack-got}
use Rattle.cf_next.proofs.lines.pack_line.Goals as goal

pub returns-in-Some-given_at : goal.returns-in-Some-given_at
returns-in-Some-given_at c =
    pack-got c.loop-block.thread c.loop-block.left c.loop-block.rest.now c.in-Some.others.now c.in-Some.block.now c.as_slice-uses.result.now _ c.in-Some.ensures.cases.0 c.as_slice-uses.ensures c.loop-block.invariant.line c.in-Some-given_at.given.now (ap option_copied (sym c.in-Some-given_at.is) ∙ c.given_at.ensures)

pub overflow_sub-left : goal.overflow_sub-left
overflow_sub-left c =
    none-past c.as_slice-uses.result.now c.loop-block.left (ap option_copied (sym c.in_default-given_at.is) ∙ c.given_at.ensures)

pub loop-block-preserved : goal.loop-block-preserved
loop-block-preserved c =
    let size = c.in-Some.ensures.cases.1 in
    record {
      line = pack-next c.loop-block.thread c.loop-block.left c.loop-block.rest.now c.in-Some.others.now c.in-Some.block.now c.as_slice-uses.result.now _ c.in-Some.ensures.cases.0 c.as_slice-uses.ensures c.loop-block.invariant.line (ap option_copied (sym c.in_default-given_at.is) ∙ c.given_at.ensures);
      threads = omega (arith, size, c.loop-block.invariant.threads);
    }
