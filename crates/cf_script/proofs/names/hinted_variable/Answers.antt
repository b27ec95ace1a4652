-- Answers to the goals of `names::hinted_variable`.
use Rattle.std.proofs.Common.{◌≡◌, true, ap, sym, ◌∙◌, arith}
use Rattle.std.specs.Str.{bytes_eq}
use Rattle.cf_script.specs.Views.{texts}
use Rattle.cf_script.proofs.HintLaws.{number_hinted, names_hinted}
use Rattle.cf_script.proofs.TestedLaws.{tested_word, word_there}
use Rattle.cf_script.proofs.names.hinted_variable.Goals as goal

pub returns-then-is-clause-place : goal.returns-then-is-clause-place
returns-then-is-clause-place c =
    let found = c.in_ok-name.ensures.lookup in
    let same : bytes_eq c.args.word.now c.in_ok-name.name.now.items ≡ true = ap (bytes_eq c.args.word.now) (sym c.as_slice-2.ensures.value) ∙ sym c.is.ensures ∙ c.if-is.true in
    number_hinted 256 c.args.word.now c.args.names.now.keys c.from-place.result c.in_ok-name.name.now c.as_slice.ensures.unique c.requires (rw c.as_slice.ensures.keys at found.3.0) (rw c.as_slice.ensures.keys at found.1) same

pub returns-then-is-clause-names : goal.returns-then-is-clause-names
returns-then-is-clause-names c =
    let found = c.in_ok-name.ensures.lookup in
    let same : bytes_eq c.args.word.now c.in_ok-name.name.now.items ≡ true = ap (bytes_eq c.args.word.now) (sym c.as_slice-2.ensures.value) ∙ sym c.is.ensures ∙ c.if-is.true in
    names_hinted c.args.word.now c.args.names.now.keys c.from-place.result c.in_ok-name.name.now (rw c.as_slice.ensures.keys at found.3.0) (rw c.as_slice.ensures.keys at found.1) same

pub returns-then-is-clause-tested : goal.returns-then-is-clause-tested
returns-then-is-clause-tested c = λ tested.
    let found = c.in_ok-name.ensures.lookup in
    let same : bytes_eq c.args.word.now c.in_ok-name.name.now.items ≡ true = ap (bytes_eq c.args.word.now) (sym c.as_slice-2.ensures.value) ∙ sym c.is.ensures ∙ c.if-is.true in
    let there = word_there c.args.names.now.keys c.from-place.result c.in_ok-name.name.now c.args.word.now (rw c.as_slice.ensures.keys at found.3.0) (rw c.as_slice.ensures.keys at found.1) same in
    tested_word c.args.hints.now (texts c.args.names.now.keys) c.hint_of.result c.from-place.result c.args.word.now (omega arith) there tested
