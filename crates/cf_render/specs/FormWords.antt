-- The words of a statement as an entry writes them: its own words without the variable that it binds, with each
-- variable that it uses replaced by its object. This project's own; a further form adds a line to the table.
use Rattle.std.specs.Prelude.{ℕ, Bool, List, [], ◌∷◌, ◌++◌, codes, length, Option, Some, None, slice_get, slice_index_or, flat_map, ◌==◌, if◌then◌else◌}
use Rattle.std.specs.Fmt.{decimal, signed_decimal}
use Rattle.hex.specs.Hex.{encode_lower}
use Rattle.cf_syntax.specs.declared.script.Script.{Script}
use Rattle.cf_syntax.specs.declared.script.Block.{Block}
use Rattle.cf_syntax.specs.declared.script.Handler.{Handler}
use Rattle.cf_syntax.specs.declared.mention.ThreadWord.{ThreadWord}
use Rattle.cf_syntax.specs.declared.mention.ThreadWord.TheVariants.{Own, Named}
use Rattle.cf_syntax.specs.declared.mention.ModeWord.{ModeWord}
use Rattle.cf_syntax.specs.declared.mention.ModeWord.TheVariants as modes
use Rattle.cf_syntax.specs.declared.statement.Statement.{Statement}
use Rattle.cf_syntax.specs.declared.statement.Statement.TheVariants as forms
use Rattle.cf_syntax.specs.Mentions.{used_at}
use Rattle.cf_contents.specs.Descriptions.{class_name, kind_word, member_word, shown_char, characters_of}

-- ---- names

-- the name of a block. What the script has no name for has no letter, here and below
abbrev pub block_name : Option Block → List ℕ
block_name None = []
block_name (Some b) = b.name

-- the name of a thread, which is that of its block
abbrev pub thread_name : Script → ℕ → List ℕ
thread_name s t = block_name (slice_get s.blocks t)

-- the name of a handler, if there is one
abbrev pub name_of_handler : Option Handler → List ℕ
name_of_handler None = []
name_of_handler (Some h) = h.name

-- the name of the handler of a number
abbrev pub handler_name : Script → ℕ → List ℕ
handler_name s h = name_of_handler (slice_get s.handlers h)

-- the name of a mode
abbrev pub mode_name : Script → ℕ → List ℕ
mode_name s m = slice_index_or s.modes m []

-- the name of a notice
abbrev pub notice_name : Script → ℕ → List ℕ
notice_name s n = slice_index_or s.notices n []

-- the name of a thread that the script has; one that it does not have comes in no accepted script
abbrev pub named_thread : Script → Option ℕ → List ℕ
named_thread s None = []
named_thread s (Some t) = thread_name s t

-- the word of a thread
abbrev pub word_of_thread : Script → ThreadWord → List ℕ
word_of_thread s Own = codes "self"
word_of_thread s (Named t) = named_thread s t

-- the word of a mode, or of the common ones
abbrev pub word_of_mode : Script → ModeWord → List ℕ
word_of_mode s modes.Common = codes "common"
word_of_mode s (modes.Mode m) = mode_name s m

-- the name of a class that the script has; one that it does not have comes in no accepted script
abbrev pub word_of_class : Script → Option ℕ → List ℕ
word_of_class s None = []
word_of_class s (Some c) = class_name s.classes c

-- the name of a notice, or any
abbrev pub notice_or_any : Script → Option ℕ → List ℕ
notice_or_any s None = codes "any"
notice_or_any s (Some n) = notice_name s n

-- the word of an object by which notices are told apart, or any
abbrev pub word_or_any : Option ℕ → List ℕ → List ℕ
word_or_any None word = codes "any"
word_or_any (Some v) word = word

-- ---- literals

-- a text in quotes, whole and escaped
abbrev pub text_word : List ℕ → List ℕ
text_word units = codes "\"" ++ flat_map shown_char (characters_of units) ++ codes "\""

-- bytes in hexadecimal digits of lower case, or a dash if there is none
abbrev pub bytes_word : List ℕ → List ℕ
bytes_word bytes = if length bytes == 0 then codes "-" else encode_lower bytes

-- a collection is plain, which is the last word, or it is not
abbrev pub plain_words : Bool → List (List ℕ)
plain_words plain = if plain then codes "plain" ∷ [] else []

-- a run ends with the first source, which is the last word, or it does not
abbrev pub once_words : Bool → List (List ℕ)
once_words once = if once then codes "once" ∷ [] else []

-- an observer is called again and again, or once
abbrev pub repeats_word : Bool → List ℕ
repeats_word repeats = if repeats then codes "repeats" else codes "once"

-- how long a run goes on at most
abbrev pub limit_word : Option ℕ → List ℕ
limit_word None = codes "forever"
limit_word (Some n) = decimal n

-- ---- forms

-- the words of a statement, by those of the objects of the variables that it uses, in the order of its words; an INFO
-- that is `nil` uses none
abbrev pub words_with : Script → (a b c : List ℕ) → Statement → List (List ℕ)
words_with s a b c (forms.MakeString v text) = codes "make" ∷ codes "string" ∷ text_word text ∷ []
words_with s a b c (forms.MakeMstring v text) = codes "make" ∷ codes "mstring" ∷ text_word text ∷ []
words_with s a b c (forms.MakeData v bytes) = codes "make" ∷ codes "data" ∷ bytes_word bytes ∷ []
words_with s a b c (forms.MakeMdata v bytes) = codes "make" ∷ codes "mdata" ∷ bytes_word bytes ∷ []
words_with s a b c (forms.MakeNumber v n) =
    codes "make" ∷ codes "number" ∷ kind_word n.kind ∷ signed_decimal n.value ∷ []
words_with s a b c (forms.MakeArray v plain) = codes "make" ∷ codes "array" ∷ plain_words plain
words_with s a b c (forms.MakeDict v plain) = codes "make" ∷ codes "dict" ∷ plain_words plain
words_with s a b c (forms.MakeSet v plain) = codes "make" ∷ codes "set" ∷ plain_words plain
words_with s a b c (forms.MakeBag v plain) = codes "make" ∷ codes "bag" ∷ plain_words plain
words_with s a b c (forms.MakeHeap v plain) = codes "make" ∷ codes "heap" ∷ plain_words plain
words_with s a b c (forms.MakeSource v order h info) =
    codes "make" ∷ codes "source" ∷ signed_decimal order ∷ handler_name s h ∷ a ∷ []
words_with s a b c (forms.MakeTimer v first interval h info) =
    codes "make" ∷ codes "timer" ∷ decimal first ∷ decimal interval ∷ handler_name s h ∷ a ∷ []
words_with s a b c (forms.MakeObserver v mask repeats order h info) =
    codes "make" ∷ codes "observer" ∷ decimal mask ∷ repeats_word repeats ∷ signed_decimal order ∷ handler_name s h
    ∷ a ∷ []
words_with s a b c (forms.New v class key) = codes "new" ∷ word_of_class s class ∷ signed_decimal key ∷ []
words_with s a b c (forms.Retain v) = codes "retain" ∷ a ∷ []
words_with s a b c (forms.Release v) = codes "release" ∷ a ∷ []
words_with s a b c (forms.Show v) = codes "show" ∷ a ∷ []
words_with s a b c (forms.StrAppend v other) = codes "str.append" ∷ a ∷ b ∷ []
words_with s a b c (forms.StrInsert v at text) = codes "str.insert" ∷ a ∷ decimal at ∷ text_word text ∷ []
words_with s a b c (forms.StrDelete v at len) = codes "str.delete" ∷ a ∷ decimal at ∷ decimal len ∷ []
words_with s a b c (forms.StrReplace v at len text) =
    codes "str.replace" ∷ a ∷ decimal at ∷ decimal len ∷ text_word text ∷ []
words_with s a b c (forms.StrSub v text at len) = codes "str.sub" ∷ a ∷ decimal at ∷ decimal len ∷ []
words_with s a b c (forms.DataAppend v bytes) = codes "data.append" ∷ a ∷ bytes_word bytes ∷ []
words_with s a b c (forms.DataReplace v at len bytes) =
    codes "data.replace" ∷ a ∷ decimal at ∷ decimal len ∷ bytes_word bytes ∷ []
words_with s a b c (forms.DataDelete v at len) = codes "data.delete" ∷ a ∷ decimal at ∷ decimal len ∷ []
words_with s a b c (forms.NumAs v kind) = codes "num.as" ∷ a ∷ kind_word kind ∷ []
words_with s a b c (forms.ArrAppend v x) = codes "arr.append" ∷ a ∷ b ∷ []
words_with s a b c (forms.ArrInsert v at x) = codes "arr.insert" ∷ a ∷ decimal at ∷ b ∷ []
words_with s a b c (forms.ArrSet v at x) = codes "arr.set" ∷ a ∷ decimal at ∷ b ∷ []
words_with s a b c (forms.ArrRemove v at) = codes "arr.remove" ∷ a ∷ decimal at ∷ []
words_with s a b c (forms.ArrTake v x at) = codes "arr.take" ∷ a ∷ decimal at ∷ []
words_with s a b c (forms.DictAdd v k x) = codes "dict.add" ∷ a ∷ b ∷ c ∷ []
words_with s a b c (forms.DictSet v k x) = codes "dict.set" ∷ a ∷ b ∷ c ∷ []
words_with s a b c (forms.DictReplace v k x) = codes "dict.replace" ∷ a ∷ b ∷ c ∷ []
words_with s a b c (forms.DictRemove v k) = codes "dict.remove" ∷ a ∷ b ∷ []
words_with s a b c (forms.DictTake v d k) = codes "dict.take" ∷ a ∷ b ∷ []
words_with s a b c (forms.SetAdd v x) = codes "set.add" ∷ a ∷ b ∷ []
words_with s a b c (forms.SetSet v x) = codes "set.set" ∷ a ∷ b ∷ []
words_with s a b c (forms.SetReplace v x) = codes "set.replace" ∷ a ∷ b ∷ []
words_with s a b c (forms.SetRemove v x) = codes "set.remove" ∷ a ∷ b ∷ []
words_with s a b c (forms.SetCount v x) = codes "set.count" ∷ a ∷ b ∷ []
words_with s a b c (forms.SetTake v set x) = codes "set.take" ∷ a ∷ b ∷ []
words_with s a b c (forms.HeapAdd v x) = codes "heap.add" ∷ a ∷ b ∷ []
words_with s a b c (forms.HeapTake v heap) = codes "heap.take" ∷ a ∷ []
words_with s a b c (forms.HeapRemove v) = codes "heap.remove" ∷ a ∷ []
words_with s a b c (forms.FieldSet v at x) = codes "field.set" ∷ a ∷ decimal at ∷ b ∷ []
words_with s a b c (forms.FieldClear v at) = codes "field.clear" ∷ a ∷ decimal at ∷ []
words_with s a b c (forms.FieldTake v o at) = codes "field.take" ∷ a ∷ decimal at ∷ []
words_with s a b c (forms.Add item t m) = codes "add" ∷ a ∷ word_of_thread s t ∷ word_of_mode s m ∷ []
words_with s a b c (forms.Drop item t m) = codes "drop" ∷ a ∷ word_of_thread s t ∷ word_of_mode s m ∷ []
words_with s a b c (forms.Common t m) = codes "common" ∷ word_of_thread s t ∷ mode_name s m ∷ []
words_with s a b c (forms.Signal source) = codes "signal" ∷ a ∷ []
words_with s a b c (forms.Invalidate item) = codes "invalidate" ∷ a ∷ []
words_with s a b c (forms.Wake t) = codes "wake" ∷ word_of_thread s t ∷ []
words_with s a b c (forms.Stop t) = codes "stop" ∷ word_of_thread s t ∷ []
words_with s a b c (forms.Run m limit once) = codes "run" ∷ mode_name s m ∷ limit_word limit ∷ once_words once
words_with s a b c (forms.Observe v h name filter) =
    codes "observe" ∷ a ∷ handler_name s h ∷ notice_or_any s name ∷ word_or_any filter b ∷ []
words_with s a b c (forms.Forget v name filter) = codes "forget" ∷ a ∷ notice_or_any s name ∷ word_or_any filter b ∷ []
words_with s a b c (forms.Post name info) = codes "post" ∷ notice_name s name ∷ a ∷ []

-- the words of a statement by the objects of the variables that it uses
abbrev pub statement_words : Script → List (Option ℕ) → Statement → List (List ℕ)
statement_words s used x =
    words_with s (member_word (used_at used 0)) (member_word (used_at used 1)) (member_word (used_at used 2)) x
