-- Answers to the goals of `forms::Form::equals`.
use Rattle.std.proofs.Common.{◌≡◌, sym, ap, ◌∙◌}
use Rattle.std.specs.Ordering.{is_eq}
use Rattle.std.specs.Cmp.Lexicographic.{texts_ties}
use Rattle.std.specs.Str.{bytes_eq}
use Rattle.cf_types.proofs.forms.Form.equals.Goals as goal

pub returns-in-Text-Text : goal.returns-in-Text-Text
returns-in-Text-Text c =
    let text = c.in-Text-Text.text.units in
    let other = c.in-Text-Text.other.units in
    let said : c.is_eq.result ≡ bytes_eq text other =
    c.is_eq.ensures ∙ ap is_eq c.compare.ensures ∙ sym (texts_ties text other) in
    rw (c.in-Text-Text.is-0, c.in-Text-Text.is-1) said
