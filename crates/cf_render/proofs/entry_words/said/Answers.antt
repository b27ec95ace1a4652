-- Answers to the goals of `entry_words::said`.
use Rattle.std.proofs.Common.{sym, ap, ◌∙◌}
use Rattle.std.specs.Option.{option_copied, option_map}
use Rattle.cf_render.specs.Rows.{site_in}
use Rattle.cf_render.proofs.Spacing.{said_words}
use Rattle.cf_render.proofs.entry_words.said.Goals as goal

pub returns-in-Some-statement_at : goal.returns-in-Some-statement_at
returns-in-Some-statement_at c =
    said_words c.args.script.now c.args.action.now (site_in c.in-Some.site) c.in-Some-statement_at.statement.now c.statement_words.result
    (sym c.site_of.ensures ∙ ap (option_map site_in) c.in-Some.is) (sym c.statement_at.ensures ∙ ap option_copied c.in-Some-statement_at.is) (c.statement_words.ensures c.args.script.now)
