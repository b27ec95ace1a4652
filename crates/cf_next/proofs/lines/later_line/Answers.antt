-- Answers to the goals of `lines::later_line`.
use Rattle.std.proofs.Common.{◌∙◌, ap}
use Rattle.cf_syntax.specs.BlockLines.{uses_in, statements_in}
use Rattle.cf_next.proofs.LineLaws.{later-first, later-after}
use Rattle.cf_next.proofs.lines.later_line.Goals as goal

pub returns-in-Some : goal.returns-in-Some
returns-in-Some c =
    later-first c.args.script.now c.args.thread c.args.number c.in-Some.given.now c.uses_of-uses.result.now c.requires (c.uses_of-uses.ensures ∙ ap uses_in c.thread_block-block.ensures) c.in-Some.ensures

pub returns-in-None : goal.returns-in-None
returns-in-None c =
    let h = later-after c.args.script.now c.args.thread c.args.number c.uses_of-uses.result.now c.statements_of.result.now c.requires (c.uses_of-uses.ensures ∙ ap uses_in c.thread_block-block.ensures) (c.statements_of.ensures ∙ ap statements_in c.thread_block-block.ensures) c.in-None.ensures in
    cc
