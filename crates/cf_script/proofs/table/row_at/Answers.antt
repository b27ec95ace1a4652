-- Answers to the goals of `table::row_at`.
use Rattle.std.proofs.Common.{sym, ◌∙◌}
use Rattle.cf_script.specs.Views.{lent}
use Rattle.cf_script.proofs.FormHintLaws.{row_hinted}
use Rattle.cf_script.proofs.table.row_at.Goals as goal

pub returns-then-fits : goal.returns-then-fits
returns-then-fits c = λ apart.
    let found = c.in_ok-form_word.ensures.lookup in
    row_hinted (lent c.args.words.now) c.args.rows.now _ c.in_ok-form_word.form_word.now apart found.3.0 found.1 (sym c.fits.ensures ∙ c.if-fits.true)
