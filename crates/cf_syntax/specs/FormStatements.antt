-- The statement that the words of a line make, where each word is of its form. This project's own; a further form adds
-- a line.
use Rattle.std.specs.Prelude.{ℕ, ◌+◌, ◌-◌, Bool, ℤ, pos, List, [], length, codes, Option, Some, None, unwrap_or, Result, Ok, Err, slice_index, slice_index_or, nat_lt, nat_le, if◌then◌else◌}
use Rattle.std.specs.List.{position_or_len}
use Rattle.std.specs.Str.{bytes_eq, is_utf8, chars}
use Rattle.cf_ids.specs.declared.limits.TheConstants.{FIELDS}
use Rattle.cf_number.specs.declared.kinds.NumKind.{NumKind}
use Rattle.cf_number.specs.declared.kinds.NumKind.TheVariants.{S8}
use Rattle.cf_number.specs.Kinds.{fits_kind}
use Rattle.cf_string.specs.Units.{units_of}
use Rattle.cf_syntax.specs.declared.form.StatementForm.{StatementForm}
use Rattle.cf_syntax.specs.declared.form.StatementForm.TheVariants as forms
use Rattle.cf_syntax.specs.declared.refusal.Reason.{Reason}
use Rattle.cf_syntax.specs.declared.refusal.Reason.TheVariants.{NotUtf8, Number}
use Rattle.cf_syntax.specs.declared.script.ClassLine.{ClassLine}
use Rattle.cf_syntax.specs.declared.mention.ThreadWord.{ThreadWord}
use Rattle.cf_syntax.specs.declared.mention.ThreadWord.TheVariants.{Own, Named}
use Rattle.cf_syntax.specs.declared.mention.ModeWord.{ModeWord}
use Rattle.cf_syntax.specs.declared.mention.ModeWord.TheVariants as modes
use Rattle.cf_syntax.specs.declared.statement.Statement.{Statement}
use Rattle.cf_syntax.specs.declared.statement.Statement.TheVariants.{MakeString, MakeMstring, MakeData, MakeMdata, MakeNumber, MakeArray, MakeDict, MakeSet, MakeBag, MakeHeap, MakeSource, MakeTimer, MakeObserver, New, Retain, Release, Show, StrAppend, StrInsert, StrDelete, StrReplace, StrSub, DataAppend, DataReplace, DataDelete, NumAs, ArrAppend, ArrInsert, ArrSet, ArrRemove, ArrTake, DictAdd, DictSet, DictReplace, DictRemove, DictTake, SetAdd, SetSet, SetReplace, SetRemove, SetCount, SetTake, HeapAdd, HeapTake, HeapRemove, FieldSet, FieldClear, FieldTake, Add, Drop, Common, Signal, Invalidate, Wake, Stop, Run, Observe, Forget, Post}
use Rattle.cf_syntax.specs.Words.{text_of}
use Rattle.cf_syntax.specs.Numbers.{index_of, unum_of, integer_of, bytes_of, kind_of}

-- the word at a place, where there is one, and the last word
abbrev pub word_at : List (List ℕ) → ℕ → List ℕ
word_at ws i = slice_index_or ws i []

abbrev pub last_word : List (List ℕ) → List ℕ
last_word ws = word_at ws (length ws - 1)

-- what the words at a place say, where they are of their form
abbrev pub index_at : List (List ℕ) → ℕ → ℕ
index_at ws i = unwrap_or (index_of (word_at ws i)) 0

abbrev pub number_at : List (List ℕ) → ℕ → ℕ
number_at ws i = unwrap_or (unum_of (word_at ws i)) 0

-- a number of fields, which is at most 255, and a MASK, whose bits have a sum of 231
abbrev pub field_count_at : List (List ℕ) → ℕ → ℕ
field_count_at ws i = let n = index_at ws i in if nat_le n FIELDS then n else 0

abbrev pub mask_at : List (List ℕ) → ℕ → ℕ
mask_at ws i = let n = number_at ws i in if nat_le n 231 then n else 0

abbrev pub integer_at : List (List ℕ) → ℕ → ℤ
integer_at ws i = unwrap_or (integer_of (word_at ws i)) (pos 0)

abbrev pub kind_at : List (List ℕ) → ℕ → NumKind
kind_at ws i = unwrap_or (kind_of (word_at ws i)) S8

abbrev pub bytes_at : List (List ℕ) → ℕ → List ℕ
bytes_at ws i = unwrap_or (bytes_of (word_at ws i)) []

-- the word `repeats` in place of `once` at a place
abbrev pub repeats_at : List (List ℕ) → ℕ → Bool
repeats_at ws i = bytes_eq (word_at ws i) (codes "repeats")

-- a fourth word, which is `plain` or `once`
abbrev pub has_last : List (List ℕ) → Bool
has_last ws = nat_lt 3 (length ws)

-- the numbers of a line's names: of its variables in order, and of its handler, mode and notice, which are 0 if it has
-- none. A variable by its place among those of the line
pub record Numbers : Type 0 where
  pub variables : List ℕ
  pub handler : ℕ
  pub mode : ℕ
  pub notice : ℕ

abbrev pub var : Numbers → ℕ → ℕ
var ns k = slice_index ns.variables k

-- what a word INFO stands for after the variable that is made, and the one word of a post; what a filter stands for
-- after the observer, and a notice: none if the word is `nil`, or `any`
abbrev pub info_at : Numbers → List (List ℕ) → ℕ → Option ℕ
info_at ns ws i = if bytes_eq (word_at ws i) (codes "nil") then None else Some (var ns 1)

abbrev pub posted_at : Numbers → List (List ℕ) → ℕ → Option ℕ
posted_at ns ws i = if bytes_eq (word_at ws i) (codes "nil") then None else Some (var ns 0)

abbrev pub filter_at : Numbers → List (List ℕ) → ℕ → Option ℕ
filter_at ns ws i = if bytes_eq (word_at ws i) (codes "any") then None else Some (var ns 1)

abbrev pub notice_at : Numbers → List (List ℕ) → ℕ → Option ℕ
notice_at ns ws i = if bytes_eq (word_at ws i) (codes "any") then None else Some ns.notice

-- the mode at a place, or the common items
abbrev pub mode_at : Numbers → List (List ℕ) → ℕ → ModeWord
mode_at ns ws i = if bytes_eq (word_at ws i) (codes "common") then modes.Common else modes.Mode ns.mode

-- the type number of a class, by its name: 14 for the first class line
abbrev pub class_named : List ClassLine → List ℕ → Option ℕ
class_named classes name = let n = position_or_len (λ (c : ClassLine). bytes_eq name c.name) classes in
    if nat_lt n (length classes) then Some (14 + n) else None

-- the number of a thread, by its name among those of the thread blocks, which are numbered from 1 on
abbrev pub thread_named : List (List ℕ) → List ℕ → Option ℕ
thread_named threads name = let n = position_or_len (bytes_eq name) threads in
    if nat_lt n (length threads) then Some (n + 1) else None

abbrev pub thread_of : List (List ℕ) → List ℕ → ThreadWord
thread_of threads word =
    if bytes_eq word (codes "self") then Own
    else (if bytes_eq word (codes "setup") then Named (Some 0) else Named (thread_named threads word))

-- the units of a text, which is UTF-8 as its line is
abbrev pub literal_of : List ℕ → Result (List ℕ) Reason
literal_of text = if is_utf8 text then Ok (units_of (chars text)) else Err NotUtf8

-- a statement of a literal, and of the text of the last word
abbrev pub with_literal : Result (List ℕ) Reason → (List ℕ → Statement) → Result Statement Reason
with_literal (Ok text) statement = Ok (statement text)
with_literal (Err reason) statement = Err reason

abbrev pub of_text : List (List ℕ) → (List ℕ → Statement) → Result Statement Reason
of_text ws statement = with_literal (literal_of (text_of (last_word ws))) statement

-- a number of a kind that holds it
abbrev pub number_by : ℕ → NumKind → ℤ → Result Statement Reason
number_by v kind value =
    if fits_kind kind value then Ok (MakeNumber v (record { kind = kind; value = value })) else Err Number

-- the statement of a form, by the numbers of its names and its words; with the classes of the script and
-- the names of its threads
abbrev pub statement_by : List ClassLine → (threads : List (List ℕ)) → StatementForm → Numbers → List (List ℕ)
    → Result Statement Reason
statement_by classes threads forms.MakeString ns ws = of_text ws (λ t. MakeString (var ns 0) t)
statement_by classes threads forms.MakeMstring ns ws = of_text ws (λ t. MakeMstring (var ns 0) t)
statement_by classes threads forms.MakeData ns ws = Ok (MakeData (var ns 0) (bytes_at ws 3))
statement_by classes threads forms.MakeMdata ns ws = Ok (MakeMdata (var ns 0) (bytes_at ws 3))
statement_by classes threads forms.MakeNumber ns ws = number_by (var ns 0) (kind_at ws 3) (integer_at ws 4)
statement_by classes threads forms.MakeArray ns ws = Ok (MakeArray (var ns 0) (has_last ws))
statement_by classes threads forms.MakeDict ns ws = Ok (MakeDict (var ns 0) (has_last ws))
statement_by classes threads forms.MakeSet ns ws = Ok (MakeSet (var ns 0) (has_last ws))
statement_by classes threads forms.MakeBag ns ws = Ok (MakeBag (var ns 0) (has_last ws))
statement_by classes threads forms.MakeHeap ns ws = Ok (MakeHeap (var ns 0) (has_last ws))
statement_by classes threads forms.MakeSource ns ws =
    Ok (MakeSource (var ns 0) (integer_at ws 3) ns.handler (info_at ns ws 5))
statement_by classes threads forms.MakeTimer ns ws =
    Ok (MakeTimer (var ns 0) (number_at ws 3) (number_at ws 4) ns.handler (info_at ns ws 6))
statement_by classes threads forms.MakeObserver ns ws =
    Ok (MakeObserver (var ns 0) (mask_at ws 3) (repeats_at ws 4) (integer_at ws 5) ns.handler (info_at ns ws 7))
statement_by classes threads forms.New ns ws =
    Ok (New (var ns 0) (class_named classes (word_at ws 2)) (integer_at ws 3))
statement_by classes threads forms.Retain ns ws = Ok (Retain (var ns 0))
statement_by classes threads forms.Release ns ws = Ok (Release (var ns 0))
statement_by classes threads forms.Show ns ws = Ok (Show (var ns 0))
statement_by classes threads forms.StrAppend ns ws = Ok (StrAppend (var ns 0) (var ns 1))
statement_by classes threads forms.StrInsert ns ws = of_text ws (λ t. StrInsert (var ns 0) (index_at ws 2) t)
statement_by classes threads forms.StrDelete ns ws = Ok (StrDelete (var ns 0) (index_at ws 2) (index_at ws 3))
statement_by classes threads forms.StrReplace ns ws =
    of_text ws (λ t. StrReplace (var ns 0) (index_at ws 2) (index_at ws 3) t)
statement_by classes threads forms.StrSub ns ws = Ok (StrSub (var ns 0) (var ns 1) (index_at ws 3) (index_at ws 4))
statement_by classes threads forms.DataAppend ns ws = Ok (DataAppend (var ns 0) (bytes_at ws 2))
statement_by classes threads forms.DataReplace ns ws =
    Ok (DataReplace (var ns 0) (index_at ws 2) (index_at ws 3) (bytes_at ws 4))
statement_by classes threads forms.DataDelete ns ws = Ok (DataDelete (var ns 0) (index_at ws 2) (index_at ws 3))
statement_by classes threads forms.NumAs ns ws = Ok (NumAs (var ns 0) (kind_at ws 2))
statement_by classes threads forms.ArrAppend ns ws = Ok (ArrAppend (var ns 0) (var ns 1))
statement_by classes threads forms.ArrInsert ns ws = Ok (ArrInsert (var ns 0) (index_at ws 2) (var ns 1))
statement_by classes threads forms.ArrSet ns ws = Ok (ArrSet (var ns 0) (index_at ws 2) (var ns 1))
statement_by classes threads forms.ArrRemove ns ws = Ok (ArrRemove (var ns 0) (index_at ws 2))
statement_by classes threads forms.ArrTake ns ws = Ok (ArrTake (var ns 0) (var ns 1) (index_at ws 3))
statement_by classes threads forms.DictAdd ns ws = Ok (DictAdd (var ns 0) (var ns 1) (var ns 2))
statement_by classes threads forms.DictSet ns ws = Ok (DictSet (var ns 0) (var ns 1) (var ns 2))
statement_by classes threads forms.DictReplace ns ws = Ok (DictReplace (var ns 0) (var ns 1) (var ns 2))
statement_by classes threads forms.DictRemove ns ws = Ok (DictRemove (var ns 0) (var ns 1))
statement_by classes threads forms.DictTake ns ws = Ok (DictTake (var ns 0) (var ns 1) (var ns 2))
statement_by classes threads forms.SetAdd ns ws = Ok (SetAdd (var ns 0) (var ns 1))
statement_by classes threads forms.SetSet ns ws = Ok (SetSet (var ns 0) (var ns 1))
statement_by classes threads forms.SetReplace ns ws = Ok (SetReplace (var ns 0) (var ns 1))
statement_by classes threads forms.SetRemove ns ws = Ok (SetRemove (var ns 0) (var ns 1))
statement_by classes threads forms.SetCount ns ws = Ok (SetCount (var ns 0) (var ns 1))
statement_by classes threads forms.SetTake ns ws = Ok (SetTake (var ns 0) (var ns 1) (var ns 2))
statement_by classes threads forms.HeapAdd ns ws = Ok (HeapAdd (var ns 0) (var ns 1))
statement_by classes threads forms.HeapTake ns ws = Ok (HeapTake (var ns 0) (var ns 1))
statement_by classes threads forms.HeapRemove ns ws = Ok (HeapRemove (var ns 0))
statement_by classes threads forms.FieldSet ns ws = Ok (FieldSet (var ns 0) (index_at ws 2) (var ns 1))
statement_by classes threads forms.FieldClear ns ws = Ok (FieldClear (var ns 0) (index_at ws 2))
statement_by classes threads forms.FieldTake ns ws = Ok (FieldTake (var ns 0) (var ns 1) (index_at ws 3))
statement_by classes threads forms.Add ns ws = Ok (Add (var ns 0) (thread_of threads (word_at ws 2)) (mode_at ns ws 3))
statement_by classes threads forms.Drop ns ws =
    Ok (Drop (var ns 0) (thread_of threads (word_at ws 2)) (mode_at ns ws 3))
statement_by classes threads forms.Common ns ws = Ok (Common (thread_of threads (word_at ws 1)) ns.mode)
statement_by classes threads forms.Signal ns ws = Ok (Signal (var ns 0))
statement_by classes threads forms.Invalidate ns ws = Ok (Invalidate (var ns 0))
statement_by classes threads forms.Wake ns ws = Ok (Wake (thread_of threads (word_at ws 1)))
statement_by classes threads forms.Stop ns ws = Ok (Stop (thread_of threads (word_at ws 1)))
statement_by classes threads forms.Run ns ws = Ok (Run ns.mode (unum_of (word_at ws 2)) (has_last ws))
statement_by classes threads forms.Observe ns ws =
    Ok (Observe (var ns 0) ns.handler (notice_at ns ws 3) (filter_at ns ws 4))
statement_by classes threads forms.Forget ns ws = Ok (Forget (var ns 0) (notice_at ns ws 2) (filter_at ns ws 3))
statement_by classes threads forms.Post ns ws = Ok (Post ns.notice (posted_at ns ws 2))
