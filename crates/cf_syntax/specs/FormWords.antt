-- What the words of a line have to be, the reason of one that is not, and the numbers of names. This project's own.
use Rattle.std.specs.Prelude.{ℕ, ◌+◌, Bool, true, false, ◌&&◌, ◌||◌, ℤ, List, [], ◌∷◌, ◌++◌, length, codes, Option, Some, None, is_some, Result, Ok, Err, nat_lt, ◌==◌, if◌then◌else◌}
use Rattle.std.specs.List.{list_any, position_or_len}
use Rattle.std.specs.Str.{bytes_eq}
use Rattle.cf_number.specs.declared.kinds.NumKind.{NumKind}
use Rattle.cf_number.specs.Kinds.{fits_kind}
use Rattle.cf_syntax.specs.declared.form.Operand.{Operand}
use Rattle.cf_syntax.specs.declared.form.Operand.TheVariants as operands
use Rattle.cf_syntax.specs.declared.form.NameTable.{NameTable}
use Rattle.cf_syntax.specs.declared.form.NameTable.TheVariants.{Variables, Handlers, Modes, Notices}
use Rattle.cf_syntax.specs.declared.refusal.Reason.{Reason}
use Rattle.cf_syntax.specs.declared.refusal.Reason.TheVariants.{Word, Kind, Arity, Text, Name, Number, Hex, TooMany}
use Rattle.cf_ids.specs.declared.limits.TheConstants.{VARIABLES, HANDLERS, MODES, NOTICES}
use Rattle.cf_syntax.specs.Words.{is_name, is_text}
use Rattle.cf_syntax.specs.Numbers.{index_of, unum_of, integer_of, bytes_of, kind_of, is_zero, is_mask, is_field_count}
use Rattle.cf_syntax.specs.FormTable.{FormWord, forms_now}
use Rattle.cf_syntax.specs.FormStatements.{Numbers, word_at}

-- what a step gives, or its fault
infixl 10 ◌>>=◌
abbrev pub ◌>>=◌ : {A B E : Type 0} → Result A E → (A → Result B E) → Result B E
(Ok x) >>= f = f x
(Err e) >>= f = Err e

-- a test that has to pass, and the reason where it does not
abbrev pub require : Reason → Bool → Result (Unit {0}) Reason
require reason test = if test then Ok tt else Err reason

-- what has to be there, and the reason where it is not
abbrev pub needed : {A : Type 0} → Reason → Option A → Result A Reason
needed reason None = Err reason
needed reason (Some x) = Ok x

-- ---- the form of a line

-- the words of a line begin a form: its first word, and its kind where it has one
abbrev pub is_kind : Option (List ℕ) → List ℕ → Bool
is_kind None word = true
is_kind (Some kind) word = bytes_eq word kind

abbrev pub starts : FormWord → List (List ℕ) → Bool
starts r ws = bytes_eq (word_at ws 0) r.word

abbrev pub begins : FormWord → List (List ℕ) → Bool
begins r ws = starts r ws && is_kind r.kind (word_at ws 2)

-- the words are as many as the form's
abbrev pub has_count : FormWord → List (List ℕ) → Bool
has_count r ws = length ws == 1 + length r.operands

-- the first row that passes a test
abbrev pub find_row : (FormWord → Bool) → List FormWord → Option FormWord
find_row test [] = None
find_row test (r ∷ rs) = if test r then Some r else find_row test rs

-- The form of a line: its first word begins one, of three or more words after `make` the third is a kind, and then
-- there are as many words as the form has.
unfoldable pub form_of : List (List ℕ) → Result FormWord Reason
form_of ws = do
  _ ← require Word (list_any (λ r. starts r ws) forms_now)
  _ ← require Kind (nat_lt (length ws) 3 || list_any (λ r. begins r ws) forms_now)
  needed Arity (find_row (λ r. begins r ws && has_count r ws) forms_now)

-- ---- the words of a form

-- a variable that is used; in a handler also `info`
abbrev pub is_variable : (in_handler : Bool) → List ℕ → Bool
is_variable in_handler word = is_name word || (in_handler && bytes_eq word (codes "info"))

-- an INT that fits the KIND before it
abbrev pub is_fitting : Option NumKind → Option ℤ → Bool
is_fitting None value = false
is_fitting (Some kind) None = false
is_fitting (Some kind) (Some value) = fits_kind kind value

-- a word, after the one before it, is what an operand has to be
abbrev pub is_of : (in_handler : Bool) → Operand → (before word : List ℕ) → Bool
is_of h operands.Found before word = true
is_of h operands.Bound before word = is_name word
is_of h operands.Used before word = is_variable h word
is_of h operands.Class before word = is_name word
is_of h operands.Handler before word = is_name word
is_of h operands.Thread before word = is_name word || (bytes_eq word (codes "self") || bytes_eq word (codes "setup"))
is_of h operands.Mode before word = is_name word
is_of h operands.ModeOrCommon before word = is_name word || bytes_eq word (codes "common")
is_of h operands.Notice before word = is_name word
is_of h operands.NoticeOrAny before word = is_name word || bytes_eq word (codes "any")
is_of h operands.Info before word = is_variable h word || bytes_eq word (codes "nil")
is_of h operands.Filter before word = is_variable h word || bytes_eq word (codes "any")
is_of h operands.Text before word = is_text word
is_of h operands.Hex before word = is_some (bytes_of word)
is_of h operands.Int before word = is_some (integer_of word)
is_of h operands.Fitting before word = is_fitting (kind_of before) (integer_of word)
is_of h operands.Unum before word = is_some (unum_of word)
is_of h operands.Limit before word = is_zero (unum_of word)
is_of h operands.Index before word = is_some (index_of word)
is_of h operands.FieldCount before word = is_field_count (index_of word)
is_of h operands.Mask before word = is_mask (unum_of word)
is_of h operands.Kind before word = is_some (kind_of word)
is_of h operands.Plain before word = bytes_eq word (codes "plain")
is_of h operands.Once before word = bytes_eq word (codes "once")
is_of h operands.Repeats before word = bytes_eq word (codes "once") || bytes_eq word (codes "repeats")
is_of h operands.Fields before word = bytes_eq word (codes "fields")
is_of h operands.Equal before word = bytes_eq word (codes "equal")
is_of h operands.Equality before word = bytes_eq word (codes "identity") || bytes_eq word (codes "key")
is_of h operands.Uses before word = bytes_eq word (codes "uses")

-- the reason of a word that is not
abbrev pub reason_of : Operand → Reason
reason_of operands.Found = Kind
reason_of operands.Bound = Name
reason_of operands.Used = Name
reason_of operands.Class = Name
reason_of operands.Handler = Name
reason_of operands.Thread = Name
reason_of operands.Mode = Name
reason_of operands.ModeOrCommon = Name
reason_of operands.Notice = Name
reason_of operands.NoticeOrAny = Name
reason_of operands.Info = Name
reason_of operands.Filter = Name
reason_of operands.Text = Text
reason_of operands.Hex = Hex
reason_of operands.Int = Number
reason_of operands.Fitting = Number
reason_of operands.Unum = Number
reason_of operands.Limit = Number
reason_of operands.Index = Number
reason_of operands.FieldCount = Number
reason_of operands.Mask = Number
reason_of operands.Kind = Kind
reason_of operands.Plain = Kind
reason_of operands.Once = Kind
reason_of operands.Repeats = Kind
reason_of operands.Fields = Kind
reason_of operands.Equal = Kind
reason_of operands.Equality = Kind
reason_of operands.Uses = Kind

-- each word is what its operand has to be; the leftmost that is not decides. The words follow the one before them
abbrev pub are_of : (in_handler : Bool) → List Operand → (before : List ℕ) → List (List ℕ) → Result (Unit {0}) Reason
are_of h [] before ws = Ok tt
are_of h (o ∷ os) before [] = Ok tt
are_of h (o ∷ os) before (w ∷ ws) = do
  _ ← require (reason_of o) (is_of h o before w)
  are_of h os w ws

-- ---- names

-- the names of the open block's variables, and of the script's handlers, modes and notices, each in the order of first
-- use
pub record Names : Type 0 where
  pub variables : List (List ℕ)
  pub handlers : List (List ℕ)
  pub modes : List (List ℕ)
  pub notices : List (List ℕ)

-- a table, but for one word
abbrev pub unless_word : List ℕ → List ℕ → NameTable → Option NameTable
unless_word word fixed table = if bytes_eq word fixed then None else Some table

-- the table of the names among which a word stands, in place of an operand; none if it is no name, and for the names
-- of classes and threads, which have no numbers in the order of use
abbrev pub table_of : Operand → List ℕ → Option NameTable
table_of operands.Bound word = Some Variables
table_of operands.Used word = Some Variables
table_of operands.Handler word = Some Handlers
table_of operands.Mode word = Some Modes
table_of operands.ModeOrCommon word = unless_word word (codes "common") Modes
table_of operands.Notice word = Some Notices
table_of operands.NoticeOrAny word = unless_word word (codes "any") Notices
table_of operands.Info word = unless_word word (codes "nil") Variables
table_of operands.Filter word = unless_word word (codes "any") Variables
table_of _ word = None

-- the names of a table, how many there may be, and all names with others in their place
abbrev pub names_in : NameTable → Names → List (List ℕ)
names_in Variables names = names.variables
names_in Handlers names = names.handlers
names_in Modes names = names.modes
names_in Notices names = names.notices

abbrev pub limit_of : NameTable → ℕ
limit_of Variables = VARIABLES
limit_of Handlers = HANDLERS
limit_of Modes = MODES
limit_of Notices = NOTICES

abbrev pub with_names : NameTable → List (List ℕ) → Names → Names
with_names Variables ns names = record names { variables = ns }
with_names Handlers ns names = record names { handlers = ns }
with_names Modes ns names = record names { modes = ns }
with_names Notices ns names = record names { notices = ns }

-- the names with this one, which goes after them where it is new
abbrev pub with_name : List (List ℕ) → List ℕ → List (List ℕ)
with_name names word = if list_any (bytes_eq word) names then names else names ++ word ∷ []

-- something made with names, and the names after it
pub record With (A : Type 0) : Type 0 where
  pub names : Names
  pub value : A

-- the number of a name: its place among those of its table, and that of a new one after them
abbrev pub numbered : NameTable → List ℕ → Names → Result (With ℕ) Reason
numbered table word names = let n = position_or_len (bytes_eq word) (names_in table names) in
    if nat_lt n (limit_of table) then Ok (record {
      names = with_names table (with_name (names_in table names) word) names;
      value = n;
    })
    else Err TooMany

-- the numbers of a line's names with one more
abbrev pub with_number : NameTable → ℕ → Numbers → Numbers
with_number Variables n ns = record ns { variables = ns.variables ++ n ∷ [] }
with_number Handlers n ns = record ns { handler = n }
with_number Modes n ns = record ns { mode = n }
with_number Notices n ns = record ns { notice = n }

-- the same with a word, which may be no name
abbrev pub numbered_word : Option NameTable → List ℕ → With Numbers → Result (With Numbers) Reason
numbered_word None word so_far = Ok so_far
numbered_word (Some table) word so_far = do
  n ← numbered table word so_far.names
  Ok (record { names = n.names; value = with_number table n.value so_far.value })

-- the numbers of the words after earlier ones, in order
abbrev pub numbers_of : List Operand → List (List ℕ) → With Numbers → Result (With Numbers) Reason
numbers_of [] ws so_far = Ok so_far
numbers_of (o ∷ os) [] so_far = Ok so_far
numbers_of (o ∷ os) (w ∷ ws) so_far = do
  more ← numbered_word (table_of o w) w so_far
  numbers_of os ws more

-- the numbers of no word
abbrev pub no_numbers : Names → With Numbers
no_numbers names = record { names = names; value = record { variables = []; handler = 0; mode = 0; notice = 0 } }
