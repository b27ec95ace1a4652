-- Answers to the goals of `ends::end_lines`.
use Rattle.std.proofs.Common.{◌∙◌, length, arith}
use Rattle.cf_render.proofs.Leaving.{ends_are, from_lent, last_same}
use Rattle.cf_render.proofs.ends.end_lines.Goals as goal

pub returns : goal.returns
returns c =
    let s = c.args.script.now in
    let journal = c.args.journal.now in
    let cs = c.in_ok-classes.classes.items in
    let alive = c.in_ok-left.left.alive.items in
    let tallies = c.in_ok-tallies.tallies.items in
    let count = c.in_ok-left.left.finals in
    let lines = c.in_ok-lines.lines.items in
    ends_are s journal c.args.edges.now c.args.ending c.requires.legal c.requires.edges cs alive tallies count lines c.push.new.self.items c.in_ok-last.last
    c.in_ok-classes.ensures
    (λ o lt. c.in_ok-left.ensures.alive o (omega (arith, lt, c.len.ensures)))
    (λ o lt. c.in_ok-tallies.ensures.at o (omega (arith, lt, c.len-2.ensures)))
    c.in_ok-left.ensures.finals
    (from_lent s.classes cs c.deref.result.now alive c.deref-2.result.now tallies c.deref-3.result.now _ c.deref.ensures.value c.deref-2.ensures.value c.deref-3.ensures.value c.in_ok-lines.ensures)
    (c.in_ok-last.ensures ∙ last_same c.args.ending (length journal) c.len-3.result count c.len-4.result (length cs) (length lines) (omega (arith, c.len-3.ensures)) (omega (arith, c.len-4.ensures)))
    c.in_ok-push.ensures.items
