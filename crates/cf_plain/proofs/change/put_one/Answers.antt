-- Answers to the goals of `change::put_one`.
use Rattle.std.proofs.Common.{◌≡◌, ◌∙◌, Some, None}
use Rattle.cf_basichash.specs.Tables.{place_of}
use Rattle.cf_contents.specs.Keys.{equal_to}
use Rattle.cf_plain.proofs.Placing.{row_set_there, row_set_none}
use Rattle.cf_plain.proofs.change.put_one.Goals as goal

pub returns-in-Some : goal.returns-in-Some
returns-in-Some c =
    let at : place_of (equal_to c.args.plain c.args.element) c.args.rows.now.items ≡ Some c.in-Some.place = cc in
    row_set_there (equal_to c.args.plain c.args.element) c.args.rows.now.items c.in-Some.place c.index_mut.result.now c.args.element at c.index_mut.ensures.value

pub returns-in_ok-push-in-None : goal.returns-in_ok-push-in-None
returns-in_ok-push-in-None c =
    let at : place_of (equal_to c.args.plain c.args.element) c.args.rows.now.items ≡ None = cc in
    c.in_ok-push-in-None.ensures.items ∙ row_set_none (equal_to c.args.plain c.args.element) c.args.rows.now.items c.args.element at
