-- Answers to the goals of `character::char_at`.
use Rattle.std.proofs.Common.{sym, ◌∙◌, arith}
use Rattle.cf_string.proofs.Lossy.{apart_at, last_at, pair_at}
use Rattle.cf_plain.proofs.character.char_at.Goals as goal

pub returns-then-units-at-lt2-clause-first : goal.returns-then-units-at-lt2-clause-first
returns-then-units-at-lt2-clause-first c =
    last_at c.args.units.now c.args.at _ c.requires (omega arith) c.lone_char.ensures

pub returns-then-is_pair-clause-first : goal.returns-then-is_pair-clause-first
returns-then-is_pair-clause-first c =
    pair_at c.args.units.now c.args.at _ (omega arith) (sym c.is_pair.ensures ∙ c.if-is_pair.true) c.pair_char.ensures

pub returns-else-is_pair-clause-first : goal.returns-else-is_pair-clause-first
returns-else-is_pair-clause-first c =
    apart_at c.args.units.now c.args.at _ c.requires (sym c.is_pair.ensures ∙ c.if-is_pair.false)
    c.lone_char-else-is_pair.ensures
