-- Answers to the goals of `change::remove_pair`.
use Rattle.std.proofs.Common.{◌≡◌, ◌∙◌, Some, None}
use Rattle.cf_basichash.specs.Tables.{place_of}
use Rattle.cf_contents.specs.Keys.{equal_to}
use Rattle.cf_plain.proofs.Placing.{entry_removed, none_removed}
use Rattle.cf_plain.proofs.change.remove_pair.Goals as goal

pub returns-in-Some : goal.returns-in-Some
returns-in-Some c =
    let at : place_of (equal_to c.args.plain c.args.key.now) c.args.pairs.now.items ≡ Some c.in-Some.place = cc in
    c.remove.ensures.items ∙ entry_removed (equal_to c.args.plain c.args.key.now) c.args.pairs.now.items c.in-Some.place at

pub returns-in_default : goal.returns-in_default
returns-in_default c =
    let at : place_of (equal_to c.args.plain c.args.key.now) c.args.pairs.now.items ≡ None = cc in
    none_removed (equal_to c.args.plain c.args.key.now) c.args.pairs.now.items at
