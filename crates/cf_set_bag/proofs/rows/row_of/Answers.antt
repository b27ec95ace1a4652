-- Answers to the goals of `rows::row_of`.
use Rattle.std.proofs.Common.{sym, ◌∙◌}
use Rattle.cf_basichash.proofs.TablesLemmas.{missing, row_found}
use Rattle.cf_set_bag.proofs.rows.row_of.Goals as goal

pub returns-in_err-place : goal.returns-in_err-place
returns-in_err-place g c = rw (
  c.from_residual.ensures,
  (missing _ c.args.rows.now.rows
      (sym c.find.ensures ∙ c.in_err-place.was)).entry,
)

pub returns : goal.returns
returns g c = c.row.ensures ∙ row_found _ c.args.rows.now.rows _ (sym c.find.ensures ∙ c.in_ok-place.was)
