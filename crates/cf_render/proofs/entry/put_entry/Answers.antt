-- Answers to the goals of `entry::put_entry`.
use Rattle.cf_ids.specs.Words.{thread_word}
use Rattle.cf_render.specs.Rendering.{action_words, answer_words}
use Rattle.cf_render.specs.Rows.{texts_in}
use Rattle.cf_render.proofs.Spacing.{entry_line}
use Rattle.cf_render.proofs.entry.put_entry.Goals as goal

pub returns : goal.returns
returns c =
    let s = c.args.script.now in
    let e = c.args.entry.now in
    entry_line c.args.text.now.items (thread_word e.thread) c.put_thread.new.text.items c.put_words.new.text.items c.put_words-2.new.text.items
    (texts_in s c.action_words.result) (texts_in s c.answer_words.result) (action_words s e.action) (answer_words s.classes e.answer)
    c.in_ok-put_thread.ensures c.in_ok-put_words.ensures c.in_ok-put_words-2.ensures c.action_words.ensures (c.answer_words.ensures s)
