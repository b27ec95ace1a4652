-- What a journal tells of the objects that its entries make and finalise. This project's own.
use Rattle.std.specs.Prelude.{◌≡◌, ℕ, List, [], ◌∷◌, ◌++◌, map, length, Option, Some, None}
use Rattle.std.specs.Option.{option_to_list}
use Rattle.cf_ids.specs.declared.answer.Answer.{Answer}
use Rattle.cf_ids.specs.declared.answer.Answer.TheVariants as answers
use Rattle.cf_syntax.specs.declared.script.Script.{Script}
use Rattle.cf_syntax.specs.declared.statement.Statement.{Statement}
use Rattle.cf_syntax.specs.declared.statement.Statement.TheVariants as forms
use Rattle.cf_contents.specs.Contents.{Object, string_class, data_class, number_class, array_class, dictionary_class, set_class, bag_class, heap_class}
use Rattle.cf_contents.specs.Items.{source_class, timer_class, observer_class}
use Rattle.cf_model.specs.declared.entry.Entry.{Entry}
use Rattle.cf_model.specs.Finals.{final_of, finals}
use Rattle.cf_model.specs.Journals.{After}
use Rattle.cf_model.specs.State.{times}
use Rattle.cf_history.specs.Written.{statement_of}

-- the class of what a statement makes; none if its form makes nothing
abbrev pub class_made : Statement → Option ℕ
class_made (forms.MakeString v text) = Some string_class
class_made (forms.MakeMstring v text) = Some string_class
class_made (forms.StrSub v text at len) = Some string_class
class_made (forms.MakeData v bytes) = Some data_class
class_made (forms.MakeMdata v bytes) = Some data_class
class_made (forms.MakeNumber v n) = Some number_class
class_made (forms.MakeArray v plain) = Some array_class
class_made (forms.MakeDict v plain) = Some dictionary_class
class_made (forms.MakeSet v plain) = Some set_class
class_made (forms.MakeBag v plain) = Some bag_class
class_made (forms.MakeHeap v plain) = Some heap_class
class_made (forms.MakeSource v order h info) = Some source_class
class_made (forms.MakeTimer v first interval h info) = Some timer_class
class_made (forms.MakeObserver v mask repeats order h info) = Some observer_class
class_made (forms.New v class key) = class
class_made _ = None

-- the same, if there is a statement
abbrev pub class_if : Option Statement → Option ℕ
class_if None = None
class_if (Some x) = class_made x

-- the class of an object that is made, if the answer tells one
abbrev pub told_by : Option ℕ → Answer → Option ℕ
told_by class (answers.Object o) = class
told_by class _ = None

-- the class of the object that an entry makes, if it makes one: its answer is an object, and its form makes one
abbrev pub told_in : Script → Entry → Option ℕ
told_in s e = told_by (class_if (statement_of s e.action)) e.answer

-- the classes of the objects that entries make, in order
abbrev pub classes_told : Script → List Entry → List ℕ
classes_told s [] = []
classes_told s (e ∷ es) = option_to_list (told_in s e) ++ classes_told s es

-- the objects that entries finalise, in order
abbrev pub finalised_in : List Entry → List ℕ
finalised_in [] = []
finalised_in (e ∷ es) = option_to_list (final_of e) ++ finalised_in es

-- the objects of the state are those that the entries tell: of these classes, and finalised as often
pub record ObjectsTold (s : Script) (es : List Entry) : Type 0 where
  pub classes : map (λ (ob : Object). ob.class) (After s es).parts.objects ≡ classes_told s es
  pub finals : (o : ℕ) → times o (After s es).parts.finalised ≡ finals o es
  pub count : length (After s es).parts.finalised ≡ length (finalised_in es)
