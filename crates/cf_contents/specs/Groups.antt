-- Statements by what they act on.
use Rattle.std.specs.Prelude.{Bool, true, false}
use Rattle.cf_syntax.specs.declared.statement.Statement.{Statement}
use Rattle.cf_syntax.specs.declared.statement.Statement.TheVariants as forms

-- forms that use no object for what they do to contents
abbrev pub stands_alone : Statement → Bool
stands_alone (forms.MakeString v text) = true
stands_alone (forms.MakeMstring v text) = true
stands_alone (forms.MakeData v bytes) = true
stands_alone (forms.MakeMdata v bytes) = true
stands_alone (forms.MakeNumber v n) = true
stands_alone (forms.MakeArray v plain) = true
stands_alone (forms.MakeDict v plain) = true
stands_alone (forms.MakeSet v plain) = true
stands_alone (forms.MakeBag v plain) = true
stands_alone (forms.MakeHeap v plain) = true
stands_alone (forms.New v class key) = true
stands_alone (forms.Retain v) = true
stands_alone (forms.Release v) = true
stands_alone _ = false

-- texts, data and numbers, or any object
abbrev pub acts_on_content : Statement → Bool
acts_on_content (forms.Show v) = true
acts_on_content (forms.StrAppend v other) = true
acts_on_content (forms.StrInsert v at text) = true
acts_on_content (forms.StrDelete v at len) = true
acts_on_content (forms.StrReplace v at len text) = true
acts_on_content (forms.StrSub v text at len) = true
acts_on_content (forms.DataAppend v bytes) = true
acts_on_content (forms.DataReplace v at len bytes) = true
acts_on_content (forms.DataDelete v at len) = true
acts_on_content (forms.NumAs v kind) = true
acts_on_content _ = false

-- arrays and fields
abbrev pub acts_on_places : Statement → Bool
acts_on_places (forms.ArrAppend v x) = true
acts_on_places (forms.ArrInsert v at x) = true
acts_on_places (forms.ArrSet v at x) = true
acts_on_places (forms.ArrRemove v at) = true
acts_on_places (forms.ArrTake v array at) = true
acts_on_places (forms.FieldSet v at x) = true
acts_on_places (forms.FieldClear v at) = true
acts_on_places (forms.FieldTake v instance at) = true
acts_on_places _ = false

-- dictionaries
abbrev pub acts_on_pairs : Statement → Bool
acts_on_pairs (forms.DictAdd v k x) = true
acts_on_pairs (forms.DictSet v k x) = true
acts_on_pairs (forms.DictReplace v k x) = true
acts_on_pairs (forms.DictRemove v k) = true
acts_on_pairs (forms.DictTake v dictionary k) = true
acts_on_pairs _ = false

-- sets and bags
abbrev pub acts_on_members : Statement → Bool
acts_on_members (forms.SetAdd v x) = true
acts_on_members (forms.SetSet v x) = true
acts_on_members (forms.SetReplace v x) = true
acts_on_members (forms.SetRemove v x) = true
acts_on_members (forms.SetCount v x) = true
acts_on_members (forms.SetTake v set x) = true
acts_on_members _ = false

-- heaps
abbrev pub acts_on_heaps : Statement → Bool
acts_on_heaps (forms.HeapAdd v x) = true
acts_on_heaps (forms.HeapTake v heap) = true
acts_on_heaps (forms.HeapRemove v) = true
acts_on_heaps _ = false
