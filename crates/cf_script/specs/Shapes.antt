-- The forms whose words are variables that they use and INDEXes: those that may come often, since a form that binds a
-- variable comes once for each.
use Rattle.std.specs.Prelude.{◌≡◌, ℕ, Bool, true, List, [], ◌∷◌, Option, Some, None, Ok}
use Rattle.cf_syntax.specs.declared.script.ClassLine.{ClassLine}
use Rattle.cf_syntax.specs.declared.form.StatementForm.{StatementForm}
use Rattle.cf_syntax.specs.declared.form.StatementForm.TheVariants as forms
use Rattle.cf_syntax.specs.declared.form.NameTable.TheVariants.{Variables}
use Rattle.cf_syntax.specs.declared.form.Operand.{Operand}
use Rattle.cf_syntax.specs.declared.form.Operand.TheVariants.{Used, Index}
use Rattle.cf_syntax.specs.declared.statement.Statement.{Statement}
use Rattle.cf_syntax.specs.declared.statement.Statement.TheVariants.{Retain, Release, Show, HeapRemove, StrAppend, ArrAppend, DictRemove, SetAdd, SetSet, SetReplace, SetRemove, SetCount, HeapAdd, DictAdd, DictSet, DictReplace, ArrRemove, FieldClear, ArrInsert, ArrSet, FieldSet, StrDelete, DataDelete}
use Rattle.cf_syntax.specs.FormTable.{FormWord}
use Rattle.cf_syntax.specs.FormStatements.{Numbers, var, index_at}
use Rattle.cf_syntax.specs.FormWords.{Names, is_variable, numbered, form_of}
use Rattle.cf_script.specs.BlockViews.{statement_in}

-- a form of one, two or three variables, of one with an INDEX, with an INDEX and another variable, and with two INDEXes
pub data Shape : Type 0 where
  one : (ℕ → Statement) → Shape
  two : (ℕ → ℕ → Statement) → Shape
  three : (ℕ → ℕ → ℕ → Statement) → Shape
  at : (ℕ → ℕ → Statement) → Shape
  put : (ℕ → ℕ → ℕ → Statement) → Shape
  span : (ℕ → ℕ → ℕ → Statement) → Shape

abbrev pub shape_of : StatementForm → Option Shape
shape_of forms.Retain = Some (one Retain)
shape_of forms.Release = Some (one Release)
shape_of forms.Show = Some (one Show)
shape_of forms.HeapRemove = Some (one HeapRemove)
shape_of forms.StrAppend = Some (two StrAppend)
shape_of forms.ArrAppend = Some (two ArrAppend)
shape_of forms.DictRemove = Some (two DictRemove)
shape_of forms.SetAdd = Some (two SetAdd)
shape_of forms.SetSet = Some (two SetSet)
shape_of forms.SetReplace = Some (two SetReplace)
shape_of forms.SetRemove = Some (two SetRemove)
shape_of forms.SetCount = Some (two SetCount)
shape_of forms.HeapAdd = Some (two HeapAdd)
shape_of forms.DictAdd = Some (three DictAdd)
shape_of forms.DictSet = Some (three DictSet)
shape_of forms.DictReplace = Some (three DictReplace)
shape_of forms.ArrRemove = Some (at ArrRemove)
shape_of forms.FieldClear = Some (at FieldClear)
shape_of forms.ArrInsert = Some (put ArrInsert)
shape_of forms.ArrSet = Some (put ArrSet)
shape_of forms.FieldSet = Some (put FieldSet)
shape_of forms.StrDelete = Some (span StrDelete)
shape_of forms.DataDelete = Some (span DataDelete)
shape_of _ = None

-- what the words after the first have to be, and the statement that they make
abbrev pub operands_by : Shape → List Operand
operands_by (one s) = Used ∷ []
operands_by (two s) = Used ∷ Used ∷ []
operands_by (three s) = Used ∷ Used ∷ Used ∷ []
operands_by (at s) = Used ∷ Index ∷ []
operands_by (put s) = Used ∷ Index ∷ Used ∷ []
operands_by (span s) = Used ∷ Index ∷ Index ∷ []

abbrev pub made_by : Shape → Numbers → List (List ℕ) → Statement
made_by (one s) ns ws = s (var ns 0)
made_by (two s) ns ws = s (var ns 0) (var ns 1)
made_by (three s) ns ws = s (var ns 0) (var ns 1) (var ns 2)
made_by (at s) ns ws = s (var ns 0) (index_at ws 2)
made_by (put s) ns ws = s (var ns 0) (index_at ws 2) (var ns 1)
made_by (span s) ns ws = s (var ns 0) (index_at ws 2) (index_at ws 3)

-- the statement of a shape of its own
abbrev pub by_one : Option Shape → ℕ → Option Statement
by_one (Some (one s)) v = Some (s v)
by_one _ v = None

abbrev pub by_two : Option Shape → ℕ → ℕ → Option Statement
by_two (Some (two s)) v w = Some (s v w)
by_two _ v w = None

abbrev pub by_three : Option Shape → ℕ → ℕ → ℕ → Option Statement
by_three (Some (three s)) v w x = Some (s v w x)
by_three _ v w x = None

abbrev pub by_at : Option Shape → ℕ → ℕ → Option Statement
by_at (Some (at s)) v i = Some (s v i)
by_at _ v i = None

abbrev pub by_put : Option Shape → ℕ → ℕ → ℕ → Option Statement
by_put (Some (put s)) v i w = Some (s v i w)
by_put _ v i w = None

abbrev pub by_span : Option Shape → ℕ → ℕ → ℕ → Option Statement
by_span (Some (span s)) v i n = Some (s v i n)
by_span _ v i n = None

-- a variable that a form may use is known by its number
pub record IsKnown (in_handler : Bool) (names : Names) (word : List ℕ) (v : ℕ) : Type 0 where
  pub used : is_variable in_handler word ≡ true
  pub known : numbered Variables word names ≡ Ok (record { names = names; value = v })

-- the words of a line of a form are a statement that brings no name
abbrev pub Reads : (in_handler : Bool) → Names → StatementForm → List (List ℕ) → Statement → Type 0
Reads in_handler names form ws s = (classes : List ClassLine) (threads : List (List ℕ)) (r : FormWord)
    → form_of ws ≡ Ok r → r.form ≡ form → statement_in classes threads in_handler names r ws ≡ Ok (record { names = names; value = s })
