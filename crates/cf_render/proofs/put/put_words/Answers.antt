-- Answers to the goals of `put::put_words`.
use Rattle.std.proofs.Common.{arith}
use Rattle.cf_render.proofs.Spacing.{words_more}
use Rattle.cf_render.proofs.put.put_words.Goals as goal

pub loop-word-preserved : goal.loop-word-preserved
loop-word-preserved c =
    words_more c.args.script.now c.args.words.now c.loop-word.word-index c.word-item.result c.args.text.now.items c.loop-word.text.items c.put_word.new.text.items (omega arith) c.word-item.is c.in_ok-put_word.ensures c.loop-word.invariant
