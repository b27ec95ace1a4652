-- Answers to the goals of `texts::Str::utf8`.
use Rattle.std.proofs.Common.{◌≡◌, true, false, sym, ◌∙◌}
use Rattle.std.proofs.lemmas.Bool.{true≢false}
use Rattle.std.proofs.lemmas.Str.{IsUtf8-string_bytes}
use Rattle.std.specs.Result.{is_err}
use Rattle.cf_string.proofs.Characters.{has_unpaired_surrogate-text, units_of-chars}
use Rattle.cf_string.proofs.texts.Str.utf8.Goals as goal

pub unreachable-requires : goal.unreachable-requires
unreachable-requires c =
    let none = has_unpaired_surrogate-text _ c.self.invariant in
    let refused : is_err c.in_ok-text.field-0 ≡ true = rw c.in_default.is in
    let whole : is_err c.in_ok-text.field-0 ≡ false = c.in_ok-text.ensures.unpaired ∙ rw c.deref.ensures.value none in
    true≢false (sym refused ∙ whole)

pub returns-clause-utf8 : goal.returns-clause-utf8
returns-clause-utf8 c = rw c.into_bytes.ensures.value (IsUtf8-string_bytes c.in-Ok.text)

pub returns-clause-units : goal.returns-clause-units
returns-clause-units c =
    let said = rw c.in-Ok.is at c.in_ok-text.ensures.ok in
    rw (c.into_bytes.ensures.value, ← c.self.view_is)
    (units_of-chars said.0 _ (IsUtf8-string_bytes c.in-Ok.text) said.2 ∙ sym said.1 ∙ c.deref.ensures.value)
