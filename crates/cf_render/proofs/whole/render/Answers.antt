-- Answers to the goals of `whole::render`.
use Rattle.std.proofs.Common.{◌++◌, ap, ◌∙◌}
use Rattle.cf_model.specs.Journals.{After}
use Rattle.cf_render.specs.Ends.{lines_of}
use Rattle.cf_render.specs.Rendering.{end_lines, entry_lines, text_of_lines}
use Rattle.cf_render.proofs.Texts.{whole_text}
use Rattle.cf_render.proofs.whole.render.Goals as goal

pub returns : goal.returns
returns c =
    let s = c.args.script.now in
    let journal = c.args.journal.now in
    let entries = entry_lines s c.args.full journal in
    let ends = end_lines s journal (After s journal).edges c.args.ending in
    let text = c.put_entries.new.text.items in
    whole_text text entries ends c.put_lines.new.text.items
    (c.in_ok-put_entries.ensures ∙ ap (λ xs. xs ++ text_of_lines entries) c.new-text.ensures.items)
    (c.in_ok-put_lines.ensures ∙ ap (λ ls. text ++ text_of_lines (lines_of ls)) c.deref.ensures.value ∙ ap (λ ls. text ++ text_of_lines ls) c.in_ok-lines.ensures)
