-- Answers to the goals of `table::FormHints::form_of`.
use Rattle.std.proofs.Common.{refl, sym}
use Rattle.cf_script.specs.Views.{lent}
use Rattle.cf_script.specs.TableViews.{form_word_of}
use Rattle.cf_script.proofs.TableLaws.{form_found}
use Rattle.cf_script.proofs.table.FormHints.form_of.Goals as goal

pub returns-in-Some : goal.returns-in-Some
returns-in-Some c = sym (form_found (lent c.args.words.now) (form_word_of c.in-Some.form_word.now) (c.in-Some.ensures refl))
