-- Running counts beside the sums.
use Rattle.std.proofs.Common.{◌≡◌, ℕ, ◌+◌, ◌<◌, ◌^◌, List, [], ◌∷◌, ◌++◌, get_or, replicate, ap, sym, ◌∙◌, arith}
use Rattle.std.proofs.lemmas.List.{get_or-replicate}
use Rattle.cf_syntax.specs.declared.counts.Counts.{Counts}
use Rattle.cf_syntax.specs.declared.mention.Ownership.{Ownership}
use Rattle.cf_syntax.specs.Counting.{Counted, Noted, HasRoom}
use Rattle.cf_syntax.specs.BlockLines.{BlockLine, line_ownership}
use Rattle.cf_syntax.specs.Owned.{bound_by, given_by, released_by}
use Rattle.cf_syntax.proofs.OwnedLaws.{total_push, bound_by_le, given_by_le, taken_by_le}

abbrev none : ℕ
none = 0

zeros : (v : ℕ) → v < 256 → get_or (replicate 256 none) v none ≡ none
zeros v small = get_or-replicate 256 v none none small

ap2 : {a b c d : ℕ} → a ≡ b → c ≡ d → a + c ≡ b + d
ap2 p q = omega (arith, p, q)

pub counted_start : Counted
    (record { bound = replicate 256 0; given = replicate 256 0; released = replicate 256 0 }) []
counted_start = record {
  binds = λ v small. zeros v small;
  gives = λ v small. zeros v small;
  takes = λ v small. zeros v small;
}

pub counted_more : (old new : Counts) (ownership : Ownership) (earlier : List BlockLine) (x : BlockLine)
    → line_ownership x ≡ ownership → Counted old earlier → Noted old ownership new → Counted new (earlier ++ x ∷ [])
counted_more old new ownership earlier x is counted noted = record {
  binds = λ v small. noted.binds v small ∙ ap2 (counted.binds v small) (ap (bound_by v) (sym is))
      ∙ sym (total_push (bound_by v) earlier x);
  gives = λ v small. noted.gives v small ∙ ap2 (counted.gives v small) (ap (given_by v) (sym is))
      ∙ sym (total_push (given_by v) earlier x);
  takes = λ v small. noted.takes v small ∙ ap2 (counted.takes v small) (ap (released_by v) (sym is))
      ∙ sym (total_push (released_by v) earlier x);
}

-- no count, and a line more
pub room_start : (n : ℕ) → n < 2 ^ 64
    → HasRoom (record { bound = replicate 256 0; given = replicate 256 0; released = replicate 256 0 }) n
room_start n few = record {
  binds = λ v small. omega (arith, zeros v small, few);
  gives = λ v small. omega (arith, zeros v small, few);
  takes = λ v small. omega (arith, zeros v small, few);
}

pub room_less : (old new : Counts) (ownership : Ownership) (n : ℕ) → Noted old ownership new → HasRoom old (n + 1)
    → HasRoom new n
room_less old new ownership n noted room = record {
  binds = λ v small. omega (arith, noted.binds v small, room.binds v small, bound_by_le v ownership);
  gives = λ v small. omega (arith, noted.gives v small, room.gives v small, given_by_le v ownership);
  takes = λ v small. omega (arith, noted.takes v small, room.takes v small, taken_by_le v ownership);
}
