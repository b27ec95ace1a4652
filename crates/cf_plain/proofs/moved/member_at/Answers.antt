-- Answers to the goals of `moved::member_at`.
use Rattle.std.proofs.Common.{◌≡◌, ◌∙◌, Some, None, sym, ap}
use Rattle.std.specs.Prelude.{position}
use Rattle.std.specs.Option.{option_map}
use Rattle.cf_types.specs.declared.cells.Cell.{Cell}
use Rattle.cf_contents.specs.Keys.{equal_to}
use Rattle.cf_plain.proofs.Placing.{first_there, first_none}
use Rattle.cf_plain.proofs.moved.member_at.Goals as goal

pub returns-in-Some : goal.returns-in-Some
returns-in-Some c =
    let at : position (equal_to c.args.plain c.args.element.now) c.args.members.now ≡ Some c.in-Some.place = cc in
    ap Some c.id.ensures ∙ ap (option_map (λ (m : Cell). m.id)) (sym (first_there (equal_to c.args.plain c.args.element.now) c.args.members.now c.in-Some.place c.index-members-place.result at c.index-members-place.is))

pub returns-in-None : goal.returns-in-None
returns-in-None c =
    let at : position (equal_to c.args.plain c.args.element.now) c.args.members.now ≡ None = cc in
    ap (option_map (λ (m : Cell). m.id)) (sym (first_none (equal_to c.args.plain c.args.element.now) c.args.members.now at))
