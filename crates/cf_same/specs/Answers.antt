-- Answers by their parts: which one it is, and what it tells. This project's own.
use Rattle.std.specs.Prelude.{◌≡◌, ℕ, ℤ, pos, List, [], Option, Some, None, if◌then◌else◌, ◌==◌}
use Rattle.cf_ids.specs.declared.answer.Answer.{Answer}
use Rattle.cf_ids.specs.declared.answer.Answer.TheVariants as answers

-- the number of an answer among all
abbrev pub answer_number : Answer → ℕ
answer_number answers.Ok = 0
answer_number answers.More = 1
answer_number answers.Skip = 2
answer_number answers.Nil = 3
answer_number answers.Lossy = 4
answer_number answers.Range = 5
answer_number answers.Split = 6
answer_number answers.Added = 7
answer_number answers.Changed = 8
answer_number answers.Present = 9
answer_number answers.Absent = 10
answer_number answers.Empty = 11
answer_number answers.Invalid = 12
answer_number answers.Elsewhere = 13
answer_number answers.Idle = 14
answer_number answers.Entered = 15
answer_number answers.Woken = 16
answer_number answers.Due = 17
answer_number answers.Again = 18
answer_number (answers.Final c) = 19
answer_number (answers.Object o) = 20
answer_number (answers.Shown d) = 21
answer_number (answers.Number n) = 22
answer_number (answers.Asleep d) = 23

-- the number of a type or an object that an answer names
abbrev pub told_number : Answer → ℕ
told_number (answers.Final c) = c
told_number (answers.Object o) = o
told_number _ = 0

-- the number that an answer is
abbrev pub told_value : Answer → ℤ
told_value (answers.Number n) = n
told_value _ = pos 0

-- the description that an answer shows
abbrev pub told_bytes : Answer → List ℕ
told_bytes (answers.Shown d) = d
told_bytes _ = []

-- the date until which a loop sleeps
abbrev pub told_date : Answer → Option ℕ
told_date (answers.Asleep d) = d
told_date _ = None

-- the answer of these parts
abbrev pub answer_built : ℕ → ℕ → ℤ → List ℕ → Option ℕ → Answer
answer_built k n v b d =
    if k == 0 then answers.Ok else (
    if k == 1 then answers.More else (
    if k == 2 then answers.Skip else (
    if k == 3 then answers.Nil else (
    if k == 4 then answers.Lossy else (
    if k == 5 then answers.Range else (
    if k == 6 then answers.Split else (
    if k == 7 then answers.Added else (
    if k == 8 then answers.Changed else (
    if k == 9 then answers.Present else (
    if k == 10 then answers.Absent else (
    if k == 11 then answers.Empty else (
    if k == 12 then answers.Invalid else (
    if k == 13 then answers.Elsewhere else (
    if k == 14 then answers.Idle else (
    if k == 15 then answers.Entered else (
    if k == 16 then answers.Woken else (
    if k == 17 then answers.Due else (
    if k == 18 then answers.Again else (
    if k == 19 then answers.Final n else (
    if k == 20 then answers.Object n else (
    if k == 21 then answers.Shown b else (
    if k == 22 then answers.Number v else (
    answers.Asleep d)))))))))))))))))))))))
