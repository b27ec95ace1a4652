-- The loop invariants of `table::any_begins`.
use Rattle.std.proofs.Common.{◌≡◌, drop, map}
use Rattle.std.specs.List.{list_any}
use Rattle.cf_syntax.specs.FormWords.{begins}
use Rattle.cf_script.specs.Views.{lent}
use Rattle.cf_script.specs.TableViews.{form_word_of}
use Rattle.cf_script.proofs.table.any_begins.Given as goal

-- the rows from here on decide
abbrev pub invariant-loop-form_word : goal.invariant-loop-form_word
invariant-loop-form_word l = list_any (λ r. begins r (lent l.words)) (map form_word_of (drop l.form_word-index l.rows)) ≡ list_any (λ r. begins r (lent l.words)) (map form_word_of l.rows)
