-- The loop invariants of `table::find_row`.
use Rattle.std.proofs.Common.{◌≡◌, drop, map}
use Rattle.std.specs.Prelude.{◌&&◌}
use Rattle.cf_syntax.specs.FormWords.{begins, has_count, find_row}
use Rattle.cf_script.specs.Views.{lent}
use Rattle.cf_script.specs.TableViews.{form_word_of}
use Rattle.cf_script.proofs.table.find_row.Given as goal

-- the rows from here on decide
abbrev pub invariant-loop-i : goal.invariant-loop-i
invariant-loop-i l = find_row (λ r. begins r (lent l.words) && has_count r (lent l.words)) (map form_word_of (drop l.i l.rows)) ≡ find_row (λ r. begins r (lent l.words) && has_count r (lent l.words)) (map form_word_of l.rows)
