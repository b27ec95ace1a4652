-- Answers to the goals of `table::search_form`.
use Rattle.std.proofs.Common.{ap, sym, ◌∙◌}
use Rattle.std.specs.Option.{option_map}
use Rattle.cf_script.specs.declared.table.FormWord.{FormWord}
use Rattle.cf_script.specs.Views.{lent}
use Rattle.cf_script.specs.TableViews.{form_word_of}
use Rattle.cf_script.proofs.TableLaws.{form_found, form_of_no_word, form_of_no_kind, form_of_no_count}
use Rattle.cf_script.proofs.table.search_form.Goals as goal
use denote.Ref.{Bor}

pub returns-in-Some : goal.returns-in-Some
returns-in-Some c =
    sym (form_found (lent c.args.words.now) (form_word_of c.in-Some.form_word.now) (sym c.find_row.ensures ∙ ap (option_map (λ (r : Bor FormWord). form_word_of r.now)) c.in-Some.is))

pub returns-then-not-any_starts : goal.returns-then-not-any_starts
returns-then-not-any_starts c = sym (form_of_no_word (lent c.args.words.now) (sym c.any_starts.ensures ∙ c.if-not-any_starts.true))

pub returns-then-not-has_kind : goal.returns-then-not-has_kind
returns-then-not-has_kind c = sym (form_of_no_kind (lent c.args.words.now) (sym c.any_starts.ensures ∙ c.if-not-any_starts.false) (sym c.has_kind.ensures ∙ c.if-not-has_kind.true))

pub returns : goal.returns
returns c =
    sym (form_of_no_count (lent c.args.words.now) (sym c.any_starts.ensures ∙ c.if-not-any_starts.false) (sym c.has_kind.ensures ∙ c.if-not-has_kind.false)
    (sym c.find_row.ensures ∙ ap (option_map (λ (r : Bor FormWord). form_word_of r.now)) c.in_default.is))
