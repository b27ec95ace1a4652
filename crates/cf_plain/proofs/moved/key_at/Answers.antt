-- Answers to the goals of `moved::key_at`.
use Rattle.std.proofs.Common.{◌≡◌, ◌∙◌, ℕ, Some, None, sym, ap}
use Rattle.cf_basichash.specs.Tables.{place_of}
use Rattle.std.specs.Option.{option_map}
use Rattle.cf_types.specs.declared.cells.Cell.{Cell}
use Rattle.cf_contents.specs.Keys.{equal_to}
use Rattle.cf_plain.proofs.Placing.{entry_there, entry_none}
use Rattle.cf_plain.proofs.moved.key_at.Goals as goal

pub returns-in-Some : goal.returns-in-Some
returns-in-Some c =
    let at : place_of (equal_to c.args.plain c.args.key.now) c.args.pairs.now ≡ Some c.in-Some.place = cc in
    ap Some c.id.ensures ∙ ap (option_map (λ (p : Cell × ℕ). p.0.id)) (sym (entry_there (equal_to c.args.plain c.args.key.now) c.args.pairs.now c.in-Some.place c.index-pairs-place.result at c.index-pairs-place.is))

pub returns-in-None : goal.returns-in-None
returns-in-None c =
    let at : place_of (equal_to c.args.plain c.args.key.now) c.args.pairs.now ≡ None = cc in
    ap (option_map (λ (p : Cell × ℕ). p.0.id)) (sym (entry_none (equal_to c.args.plain c.args.key.now) c.args.pairs.now at))
