-- Answers to the goals of `names::number_of`.
use Rattle.std.proofs.Common.{◌≡◌, length, ◌∙◌, ap, sym, arith}
use Rattle.std.specs.Prelude.{is_some}
use Rattle.cf_script.specs.Views.{texts}
use Rattle.cf_script.proofs.NameLaws.{place_found, place_below, place_new, place_within, number_is, one_too_many, names_found, names_new}
use Rattle.cf_script.proofs.names.number_of.Goals as goal

pub returns-in-Some-clause-place : goal.returns-in-Some-clause-place
returns-in-Some-clause-place c =
    let at = sym c.get_index_of.ensures.index ∙ c.in-Some.is in
    number_is c.args.limit c.args.word.now (texts c.args.names.now.keys) c.in-Some.place (place_found c.args.word.now c.args.names.now.keys c.in-Some.place at)
    (omega (arith, place_below c.args.word.now c.args.names.now.keys c.in-Some.place at, c.requires))

pub returns-in-Some-clause-names : goal.returns-in-Some-clause-names
returns-in-Some-clause-names c = names_found c.args.word.now c.args.names.now.keys (sym c.get_index_of.ensures.found ∙ ap is_some c.in-Some.is)

pub returns-then-len-limit-clause-place : goal.returns-then-len-limit-clause-place
returns-then-len-limit-clause-place c =
    let all : length c.args.names.now.keys ≡ c.args.limit = sym c.len.ensures.len ∙ c.if-len-limit.true in
    one_too_many c.args.limit c.args.word.now c.args.names.now.keys (sym c.get_index_of.ensures.index ∙ c.in_default.is) (omega (arith, all))

pub returns-clause-place : goal.returns-clause-place
returns-clause-place c =
    let new = place_new c.args.word.now c.in_ok-from_slice.field-0 c.args.names.now.keys c.in_ok-place.place c.in_ok-from_slice.ensures.items c.in_ok-place.ensures.index in
    let len : c.len.result ≡ length c.args.names.now.keys = c.len.ensures.len in
    number_is c.args.limit c.args.word.now (texts c.args.names.now.keys) c.in_ok-place.place new
    (omega (arith, place_within c.args.word.now c.args.names.now.keys c.in_ok-place.place new, len, c.if-len-limit.false, c.requires))

pub returns-clause-names : goal.returns-clause-names
returns-clause-names c = names_new c.args.word.now c.in_ok-from_slice.field-0 c.args.names.now.keys _ c.in_ok-from_slice.ensures.items c.in_ok-place.ensures.keys
