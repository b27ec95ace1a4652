-- Answers to the goals of `lines::next_line`.
use Rattle.std.proofs.Common.{take, ap, sym, ◌∙◌}
use Rattle.std.proofs.lemmas.List.{drop-drop}
use Rattle.cf_syntax.specs.Lines.{without_return}
use Rattle.cf_script.proofs.Utf8.{piece_utf8, rest_utf8, return_utf8, no_bytes_utf8}
use Rattle.cf_syntax.proofs.LineLaws.{lines_at_feed, lines_without_feed}
use Rattle.cf_script.proofs.NearLaws.{first_known, first_unknown}
use Rattle.cf_script.proofs.lines.next_line.Goals as goal

pub returns-in-Some-clause-lines : goal.returns-in-Some-clause-lines
returns-in-Some-clause-lines c =
    let bs = c.args.bytes.now in
    let law = lines_at_feed bs c.in-Some.end (sym c.known_end.ensures ∙ c.in-Some.is) in
    rw (c.without_return.ensures, c.split_at.ensures.front, c.split_at-in-Some.ensures.back, c.split_at.ensures.back, drop-drop 1 c.in-Some.end bs) law

pub returns-in-None-clause-lines : goal.returns-in-None-clause-lines
returns-in-None-clause-lines c =
    let law = lines_without_feed c.args.bytes.now c.requires.some (sym c.known_end.ensures ∙ c.in-None.is) in
    rw c.without_return-in-None.ensures law

pub returns-in-Some-clause-utf8 : goal.returns-in-Some-clause-utf8
returns-in-Some-clause-utf8 c = λ fits.
    let bs = c.args.bytes.now in
    let at = sym c.known_end.ensures ∙ c.in-Some.is in
    (rw (c.without_return.ensures, c.split_at.ensures.front) (return_utf8 (take c.in-Some.end bs) (piece_utf8 bs c.in-Some.end at fits)), rw (c.split_at-in-Some.ensures.back, c.split_at.ensures.back, drop-drop 1 c.in-Some.end bs) (rest_utf8 bs c.in-Some.end at fits))

pub returns-in-None-clause-utf8 : goal.returns-in-None-clause-utf8
returns-in-None-clause-utf8 c = λ fits. (rw c.without_return-in-None.ensures (return_utf8 c.args.bytes.now fits), no_bytes_utf8)

pub returns-in-Some-clause-first : goal.returns-in-Some-clause-first
returns-in-Some-clause-first c =
    let bs = c.args.bytes.now in
    let line = c.without_return.ensures ∙ ap without_return c.split_at.ensures.front in
    first_known c.args.known bs c.without_return.result.now c.in-Some.end c.requires.known (sym c.known_end.ensures ∙ c.in-Some.is) line

pub returns-in-None-clause-first : goal.returns-in-None-clause-first
returns-in-None-clause-first c =
    first_unknown c.args.known c.args.bytes.now c.without_return-in-None.result.now c.requires.known (sym c.known_end.ensures ∙ c.in-None.is)
