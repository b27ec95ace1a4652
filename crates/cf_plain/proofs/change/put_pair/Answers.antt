-- Answers to the goals of `change::put_pair`.
use Rattle.std.proofs.Common.{◌≡◌, ◌∙◌, Some, None}
use Rattle.cf_basichash.specs.Tables.{place_of}
use Rattle.cf_contents.specs.Keys.{equal_to}
use Rattle.cf_plain.proofs.Placing.{pair_there, pair_more}
use Rattle.cf_plain.proofs.change.put_pair.Goals as goal

pub returns-in-Some : goal.returns-in-Some
returns-in-Some c =
    let at : place_of (equal_to c.args.plain c.args.key) c.args.pairs.now.items ≡ Some c.in-Some.place = cc in
    pair_there (equal_to c.args.plain c.args.key) c.args.pairs.now.items c.in-Some.place c.index_mut-row.result.now c.args.key c.args.value at c.index_mut-row.ensures.value

pub returns-in_ok-push-in-None : goal.returns-in_ok-push-in-None
returns-in_ok-push-in-None c =
    let at : place_of (equal_to c.args.plain c.args.key) c.args.pairs.now.items ≡ None = cc in
    c.in_ok-push-in-None.ensures.items ∙ pair_more (equal_to c.args.plain c.args.key) c.args.pairs.now.items c.args.key c.args.value at
