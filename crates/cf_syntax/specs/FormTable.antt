-- The table of the forms of statements: one row a form. A further form is a row and the statement that its words make.
-- This project's own.
use Rattle.std.specs.Prelude.{ℕ, List, [], ◌∷◌, codes, Option, Some, None}
use Rattle.cf_syntax.specs.declared.form.StatementForm.{StatementForm}
use Rattle.cf_syntax.specs.declared.form.StatementForm.TheVariants as forms
use Rattle.cf_syntax.specs.declared.form.Operand.{Operand}
use Rattle.cf_syntax.specs.declared.form.Operand.TheVariants.{Found, Bound, Used, Class, Handler, Thread, Mode, ModeOrCommon, Notice, NoticeOrAny, Info, Filter, Text, Hex, Int, Fitting, Unum, Limit, Index, Mask, Kind, Plain, Once, Repeats}

-- a form: its first word, the kind after `make V` where it has one, and what each word after the first has to be
pub record FormWord : Type 0 where
  pub word : List ℕ
  pub kind : Option (List ℕ)
  pub operands : List Operand
  pub form : StatementForm

-- a form without a kind, and one of `make V` and a kind
abbrev pub form_word : List ℕ → List Operand → StatementForm → FormWord
form_word word operands form = record { word = word; kind = None; operands = operands; form = form }

abbrev pub made : List ℕ → List Operand → StatementForm → FormWord
made kind operands form = record {
  word = codes "make";
  kind = Some kind;
  operands = Bound ∷ Found ∷ operands;
  form = form;
}

-- the forms that the reader takes
abbrev pub forms_now : List FormWord
forms_now =
    form_word (codes "retain") (Used ∷ []) forms.Retain
    ∷ form_word (codes "release") (Used ∷ []) forms.Release
    ∷ form_word (codes "show") (Used ∷ []) forms.Show
    ∷ made (codes "string") (Text ∷ []) forms.MakeString
    ∷ made (codes "mstring") (Text ∷ []) forms.MakeMstring
    ∷ made (codes "data") (Hex ∷ []) forms.MakeData
    ∷ made (codes "mdata") (Hex ∷ []) forms.MakeMdata
    ∷ made (codes "number") (Kind ∷ Fitting ∷ []) forms.MakeNumber
    ∷ made (codes "array") [] forms.MakeArray
    ∷ made (codes "array") (Plain ∷ []) forms.MakeArray
    ∷ made (codes "dict") [] forms.MakeDict
    ∷ made (codes "dict") (Plain ∷ []) forms.MakeDict
    ∷ made (codes "set") [] forms.MakeSet
    ∷ made (codes "set") (Plain ∷ []) forms.MakeSet
    ∷ made (codes "bag") [] forms.MakeBag
    ∷ made (codes "bag") (Plain ∷ []) forms.MakeBag
    ∷ made (codes "heap") [] forms.MakeHeap
    ∷ made (codes "heap") (Plain ∷ []) forms.MakeHeap
    ∷ made (codes "source") (Int ∷ Handler ∷ Info ∷ []) forms.MakeSource
    ∷ form_word (codes "new") (Bound ∷ Class ∷ Int ∷ []) forms.New
    ∷ form_word (codes "str.append") (Used ∷ Used ∷ []) forms.StrAppend
    ∷ form_word (codes "str.insert") (Used ∷ Index ∷ Text ∷ []) forms.StrInsert
    ∷ form_word (codes "str.delete") (Used ∷ Index ∷ Index ∷ []) forms.StrDelete
    ∷ form_word (codes "str.replace") (Used ∷ Index ∷ Index ∷ Text ∷ []) forms.StrReplace
    ∷ form_word (codes "str.sub") (Bound ∷ Used ∷ Index ∷ Index ∷ []) forms.StrSub
    ∷ form_word (codes "data.append") (Used ∷ Hex ∷ []) forms.DataAppend
    ∷ form_word (codes "data.replace") (Used ∷ Index ∷ Index ∷ Hex ∷ []) forms.DataReplace
    ∷ form_word (codes "data.delete") (Used ∷ Index ∷ Index ∷ []) forms.DataDelete
    ∷ form_word (codes "num.as") (Used ∷ Kind ∷ []) forms.NumAs
    ∷ form_word (codes "arr.append") (Used ∷ Used ∷ []) forms.ArrAppend
    ∷ form_word (codes "arr.insert") (Used ∷ Index ∷ Used ∷ []) forms.ArrInsert
    ∷ form_word (codes "arr.set") (Used ∷ Index ∷ Used ∷ []) forms.ArrSet
    ∷ form_word (codes "arr.remove") (Used ∷ Index ∷ []) forms.ArrRemove
    ∷ form_word (codes "arr.take") (Bound ∷ Used ∷ Index ∷ []) forms.ArrTake
    ∷ form_word (codes "dict.add") (Used ∷ Used ∷ Used ∷ []) forms.DictAdd
    ∷ form_word (codes "dict.set") (Used ∷ Used ∷ Used ∷ []) forms.DictSet
    ∷ form_word (codes "dict.replace") (Used ∷ Used ∷ Used ∷ []) forms.DictReplace
    ∷ form_word (codes "dict.remove") (Used ∷ Used ∷ []) forms.DictRemove
    ∷ form_word (codes "dict.take") (Bound ∷ Used ∷ Used ∷ []) forms.DictTake
    ∷ form_word (codes "set.add") (Used ∷ Used ∷ []) forms.SetAdd
    ∷ form_word (codes "set.set") (Used ∷ Used ∷ []) forms.SetSet
    ∷ form_word (codes "set.replace") (Used ∷ Used ∷ []) forms.SetReplace
    ∷ form_word (codes "set.remove") (Used ∷ Used ∷ []) forms.SetRemove
    ∷ form_word (codes "set.count") (Used ∷ Used ∷ []) forms.SetCount
    ∷ form_word (codes "set.take") (Bound ∷ Used ∷ Used ∷ []) forms.SetTake
    ∷ form_word (codes "heap.add") (Used ∷ Used ∷ []) forms.HeapAdd
    ∷ form_word (codes "heap.take") (Bound ∷ Used ∷ []) forms.HeapTake
    ∷ form_word (codes "heap.remove") (Used ∷ []) forms.HeapRemove
    ∷ form_word (codes "field.set") (Used ∷ Index ∷ Used ∷ []) forms.FieldSet
    ∷ form_word (codes "field.clear") (Used ∷ Index ∷ []) forms.FieldClear
    ∷ form_word (codes "field.take") (Bound ∷ Used ∷ Index ∷ []) forms.FieldTake
    ∷ form_word (codes "add") (Used ∷ Thread ∷ ModeOrCommon ∷ []) forms.Add
    ∷ form_word (codes "drop") (Used ∷ Thread ∷ ModeOrCommon ∷ []) forms.Drop
    ∷ form_word (codes "common") (Thread ∷ Mode ∷ []) forms.Common
    ∷ form_word (codes "signal") (Used ∷ []) forms.Signal
    ∷ form_word (codes "invalidate") (Used ∷ []) forms.Invalidate
    ∷ form_word (codes "wake") (Thread ∷ []) forms.Wake
    ∷ form_word (codes "stop") (Thread ∷ []) forms.Stop
    ∷ form_word (codes "run") (Mode ∷ Limit ∷ []) forms.Run
    ∷ form_word (codes "run") (Mode ∷ Limit ∷ Once ∷ []) forms.Run
    ∷ []

-- The forms that the program cannot run yet. The reader refuses them as words that begin no form, and as kinds that
-- are none; a line that moves from here to the table above is taken.
abbrev pub forms_later : List FormWord
forms_later =
    made (codes "timer") (Unum ∷ Unum ∷ Handler ∷ Info ∷ []) forms.MakeTimer
    ∷ made (codes "observer") (Mask ∷ Repeats ∷ Int ∷ Handler ∷ Info ∷ []) forms.MakeObserver
    ∷ form_word (codes "observe") (Used ∷ Handler ∷ NoticeOrAny ∷ Filter ∷ []) forms.Observe
    ∷ form_word (codes "forget") (Used ∷ NoticeOrAny ∷ Filter ∷ []) forms.Forget
    ∷ form_word (codes "post") (Notice ∷ Info ∷ []) forms.Post
    ∷ []
