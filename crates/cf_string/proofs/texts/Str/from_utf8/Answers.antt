-- Answers to the goals of `texts::Str::from_utf8`.
use Rattle.std.proofs.Common.{◌≡◌, true, false, rules}
use Rattle.std.proofs.lemmas.Bool.{false_from_ne_true}
use Rattle.std.proofs.lemmas.Str.{IsUtf8-from_is_utf8, is_utf8-from_IsUtf8, scalars-chars}
use Rattle.std.specs.Str.{IsUtf8, chars, is_utf8}
use Rattle.cf_string.proofs.Characters.{IsText-units_of}
use Rattle.cf_string.proofs.texts.Str.from_utf8.Goals as goal

pub returns-in_default-clause-fault : goal.returns-in_default-clause-fault
returns-in_default-clause-fault c =
    let none : is_utf8 c.args.bytes.now ≡ false =
    false_from_ne_true _ (λ is. c.in_default.ensures.cases.0 (IsUtf8-from_is_utf8 _ is)) in
    rw none

pub returns-in_err-units-clause-fault : goal.returns-in_err-units-clause-fault
returns-in_err-units-clause-fault c =
    let whole : is_utf8 c.args.bytes.now ≡ true = is_utf8-from_IsUtf8 _ c.in-Ok.ensures.cases.1 in
    rw whole (search rules)

pub invariant_of-result : goal.invariant_of-result
invariant_of-result c =
    let utf8 : IsUtf8 c.in-Ok.text.now = rw c.in-Ok.ensures.cases.0 c.in-Ok.ensures.cases.1 in
    rw c.in_ok-units.ensures (IsText-units_of (chars c.in-Ok.text.now) (scalars-chars c.in-Ok.text.now utf8))

pub returns-clause-fault : goal.returns-clause-fault
returns-clause-fault c = rw (is_utf8-from_IsUtf8 c.args.bytes.now c.in-Ok.ensures.cases.1)
