-- Answers to the goals of `statements::read_statement`.
use Rattle.std.proofs.Common.{arith, length-drop}
use Rattle.cf_script.proofs.statements.read_statement.Goals as goal

pub split_at-requires : goal.split_at-requires
split_at-requires c = omega (arith, c.requires)

pub are_of-requires : goal.are_of-requires
are_of-requires c = rw c.split_at.ensures.back (omega (arith, c.requires, length-drop 1 c.args.words.now))

pub number_words-requires : goal.number_words-requires
number_words-requires c = rw c.split_at.ensures.back (omega (arith, c.requires, length-drop 1 c.args.words.now))
