-- Answers to the goals of `description::push_bytes`.
use Rattle.std.proofs.Common.{◌≡◌, ◌++◌, take, sym, ap, ◌∙◌}
use Rattle.std.proofs.lemmas.List.{append_assoc}
use Rattle.hex.specs.Hex.{encode_lower}
use Rattle.cf_contents.proofs.Showing.{shown_some}
use Rattle.cf_plain.proofs.description.push_bytes.Goals as goal

pub returns : goal.returns
returns c =
    let digits = encode_lower (take c.min-shown.result c.args.bytes.now) in
    let shown = shown_some c.args.bytes.now c.min-shown.result (sym c.is_empty.ensures ∙ c.if-is_empty.false) c.min-shown.ensures in
    let written : c.extend_from_slice.new.self.items ≡ c.args.out.now.items ++ digits =
    c.in_ok-extend_from_slice.ensures.items ∙ ap (λ xs. c.args.out.now.items ++ xs) (c.as_bytes.ensures.value ∙ c.in_ok-digits.ensures) in
    rw (shown, ← append_assoc c.args.out.now.items digits, ← written) c.push_more.ensures
