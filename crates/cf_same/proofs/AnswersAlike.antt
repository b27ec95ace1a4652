-- Answers with the same parts are the same.
use Rattle.std.proofs.Common.{◌≡◌, refl, sym, ◌∙◌}
use Rattle.cf_ids.specs.declared.answer.Answer.{Answer}
use Rattle.cf_ids.specs.declared.answer.Answer.TheVariants as answers
use Rattle.cf_same.specs.Answers.{answer_built, answer_number, told_bytes, told_date, told_number, told_value}

-- an answer is the one of its parts
answer_rebuilt : (a : Answer)
    → answer_built (answer_number a) (told_number a) (told_value a) (told_bytes a) (told_date a) ≡ a
answer_rebuilt answers.Ok = refl
answer_rebuilt answers.More = refl
answer_rebuilt answers.Skip = refl
answer_rebuilt answers.Nil = refl
answer_rebuilt answers.Lossy = refl
answer_rebuilt answers.Range = refl
answer_rebuilt answers.Split = refl
answer_rebuilt answers.Added = refl
answer_rebuilt answers.Changed = refl
answer_rebuilt answers.Present = refl
answer_rebuilt answers.Absent = refl
answer_rebuilt answers.Empty = refl
answer_rebuilt answers.Invalid = refl
answer_rebuilt answers.Elsewhere = refl
answer_rebuilt answers.Idle = refl
answer_rebuilt answers.Entered = refl
answer_rebuilt answers.Woken = refl
answer_rebuilt answers.Due = refl
answer_rebuilt answers.Again = refl
answer_rebuilt (answers.Final c) = refl
answer_rebuilt (answers.Object o) = refl
answer_rebuilt (answers.Shown d) = refl
answer_rebuilt (answers.Number n) = refl
answer_rebuilt (answers.Asleep d) = refl

pub answers_alike : (a b : Answer) → answer_number a ≡ answer_number b → told_number a ≡ told_number b
    → told_value a ≡ told_value b → told_bytes a ≡ told_bytes b → told_date a ≡ told_date b → a ≡ b
answers_alike a b k n v y d =
    sym (answer_rebuilt a) ∙ (λ i. answer_built (k i) (n i) (v i) (y i) (d i)) ∙ answer_rebuilt b
