-- Answers to the goals of `moved::row_member`.
use Rattle.std.proofs.Common.{◌≡◌, ◌∙◌, Some, None, sym, ap}
use Rattle.cf_basichash.specs.Tables.{place_of}
use Rattle.std.specs.Option.{option_map}
use Rattle.cf_types.specs.declared.cells.Cell.{Cell}
use Rattle.cf_contents.specs.Keys.{equal_to}
use Rattle.cf_plain.proofs.Placing.{key_there, key_none}
use Rattle.cf_plain.proofs.moved.row_member.Goals as goal

pub returns-in-Some : goal.returns-in-Some
returns-in-Some c =
    let at : place_of (equal_to c.args.plain c.args.element.now) c.args.rows.now ≡ Some c.in-Some.place = cc in
    ap Some c.id.ensures ∙ ap (option_map (λ (m : Cell). m.id)) (sym (key_there (equal_to c.args.plain c.args.element.now) c.args.rows.now c.in-Some.place c.index-rows-place.result at c.index-rows-place.is))

pub returns-in-None : goal.returns-in-None
returns-in-None c =
    let at : place_of (equal_to c.args.plain c.args.element.now) c.args.rows.now ≡ None = cc in
    ap (option_map (λ (m : Cell). m.id)) (sym (key_none (equal_to c.args.plain c.args.element.now) c.args.rows.now at))
