-- Answers to the goals of `moved::value_at`.
use Rattle.std.proofs.Common.{◌≡◌, Some, None, sym}
use Rattle.cf_basichash.specs.Tables.{place_of}
use Rattle.cf_contents.specs.Keys.{equal_to}
use Rattle.cf_plain.proofs.Placing.{value_there, value_none}
use Rattle.cf_plain.proofs.moved.value_at.Goals as goal

pub returns-in-Some : goal.returns-in-Some
returns-in-Some c =
    let at : place_of (equal_to c.args.plain c.args.key.now) c.args.pairs.now ≡ Some c.in-Some.place = cc in
    sym (value_there (equal_to c.args.plain c.args.key.now) c.args.pairs.now c.in-Some.place c.index-pairs-place.result at c.index-pairs-place.is)

pub returns-in-None : goal.returns-in-None
returns-in-None c =
    let at : place_of (equal_to c.args.plain c.args.key.now) c.args.pairs.now ≡ None = cc in
    sym (value_none (equal_to c.args.plain c.args.key.now) c.args.pairs.now at)
