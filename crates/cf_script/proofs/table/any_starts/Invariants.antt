-- The loop invariants of `table::any_starts`.
use Rattle.std.proofs.Common.{◌≡◌, drop, map}
use Rattle.std.specs.List.{list_any}
use Rattle.cf_syntax.specs.FormWords.{starts}
use Rattle.cf_script.specs.Views.{lent}
use Rattle.cf_script.specs.TableViews.{form_word_of}
use Rattle.cf_script.proofs.table.any_starts.Given as goal

-- the rows from here on decide
abbrev pub invariant-loop-form_word : goal.invariant-loop-form_word
invariant-loop-form_word l = list_any (λ r. starts r (lent l.words)) (map form_word_of (drop l.form_word-index l.rows)) ≡ list_any (λ r. starts r (lent l.words)) (map form_word_of l.rows)
