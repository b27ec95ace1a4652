-- Answers to the goals of `texts::Str::unit_at`.
use Rattle.std.proofs.Common.{◌≡◌, ℕ, List, Option, None, Some, sym, ap, ◌∙◌}
use Rattle.std.proofs.lemmas.Option.{slice_get-get_or, slice_get_past}
use Rattle.std.specs.List.{slice_get}
use Rattle.std.specs.Option.{option_map}
use Rattle.std.specs.Slice.{IsItemAt}
use denote.Ref.{Bor}
use Rattle.cf_string.proofs.texts.Str.unit_at.Goals as goal

-- what is lent is the element
item_is : (xs : List ℕ) (i : ℕ) (r : Option (Bor ℕ)) → IsItemAt xs i r
    → option_map (λ (x : Bor ℕ). x.now) r ≡ slice_get xs i
item_is xs i None item = sym (slice_get_past xs i item.3)
item_is xs i (Some x) item = ap (λ n. Some n) (item.3.1 0) ∙ sym (slice_get-get_or xs i 0 item.3.0)

pub returns : goal.returns
returns c =
    rw (← c.self.view_is, ← c.deref.ensures.value)
    (c.copied.ensures ∙ item_is c.deref.result.now c.args.i c.get.result c.get.ensures.lookup)
