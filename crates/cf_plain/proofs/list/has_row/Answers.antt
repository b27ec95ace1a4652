-- Answers to the goals of `list::has_row`.
use Rattle.std.proofs.Common.{sym, ◌∙◌}
use Rattle.cf_contents.specs.Keys.{equal_to}
use Rattle.cf_plain.proofs.Placing.{some_value}
use Rattle.cf_plain.proofs.list.has_row.Goals as goal

pub returns : goal.returns
returns g c =
    c.is_some.ensures ∙ sym (some_value (equal_to c.args.plain c.args.key.now) c.args.rows.now c.row_place.result (sym c.row_place.ensures))
