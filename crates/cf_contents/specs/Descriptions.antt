-- How objects are described. This project's own.
use Rattle.std.specs.Prelude.{ℕ, ◌-◌, Bool, List, [], ◌∷◌, ◌++◌, codes, length, map, take, Option, Some, None, nat_lt, slice_get, slice_index_or, encode_utf8, unwrap_or, ◌==◌, if◌then◌else◌}
use Rattle.std.specs.Char.Utf16.{utf16_lossy_chars}
use Rattle.std.specs.List.{flat_map, join_with_byte}
use Rattle.std.specs.Fmt.{decimal, signed_decimal}
use Rattle.hex.specs.Hex.{encode_lower}
use Rattle.cf_ids.specs.Words.{number_word}
use Rattle.cf_number.specs.declared.kinds.NumKind.{NumKind}
use Rattle.cf_number.specs.declared.kinds.NumKind.TheVariants.{S8, S16, S32, S64}
use Rattle.cf_types.specs.Registry.{built_in_names}
use Rattle.cf_types.specs.declared.cells.Cell.{Cell}
use Rattle.cf_syntax.specs.declared.script.ClassLine.{ClassLine}
use Rattle.cf_contents.specs.Contents.{Content, text_content, data_content, number_content, instance_content, array_content, dictionary_content, set_content, bag_content, heap_content, Object, least_of, first_class, item_content}
use Rattle.cf_contents.specs.Items.{Item, source_item, timer_item, observer_item}

-- the name of a class of the script, by its type number, if it has one
abbrev pub name_in : Option ClassLine → List ℕ
name_in None = []
name_in (Some line) = line.name

-- the name of a type by its number: built in, or a class of the script; 0 is no type and has none
abbrev pub class_name : List ClassLine → ℕ → List ℕ
class_name classes class =
    if nat_lt class first_class then slice_index_or ([] ∷ built_in_names) class []
    else name_in (slice_get classes (class - first_class))

-- what says that more is there than is written
abbrev pub more_if : Bool → List ℕ
more_if b = if b then codes " .." else []

-- a character of a text: the quote (34), the backslash (92) and LF (10) are escaped
abbrev pub shown_char : ℕ → List ℕ
shown_char c =
    if c == 34 then codes "\\\""
    else (if c == 92 then codes "\\\\"
    else (if c == 10 then codes "\\n"
    else encode_utf8 c))

-- the characters of a text, a surrogate pair being one
abbrev pub characters_of : List ℕ → List ℕ
characters_of units = utf16_lossy_chars units

-- a text in quotes: 32 characters at most
abbrev pub shown_text : List ℕ → List ℕ
shown_text units =
    codes "\"" ++ flat_map shown_char (take 32 (characters_of units)) ++ codes "\"" ++ more_if (nat_lt 32 (length (characters_of units)))

-- bytes in hexadecimal digits, 32 of them at most
abbrev pub shown_bytes : List ℕ → List ℕ
shown_bytes bytes =
    if length bytes == 0 then codes "-" else encode_lower (take 32 bytes) ++ more_if (nat_lt 32 (length bytes))

-- the word of a number's kind
abbrev pub kind_word : NumKind → List ℕ
kind_word S8 = codes "s8"
kind_word S16 = codes "s16"
kind_word S32 = codes "s32"
kind_word S64 = codes "s64"

-- the word of a member, if it is there
abbrev pub member_word : Option ℕ → List ℕ
member_word None = codes "nil"
member_word (Some o) = number_word o

-- the word of a pair: its key and its value
abbrev pub pair_word : Cell × ℕ → List ℕ
pair_word p = number_word p.0.id ++ codes ":" ++ number_word p.1

-- the word of a member of a set
abbrev pub cell_word : Cell → List ℕ
cell_word cell = number_word cell.id

-- the word of a bag's row: its member, and how often that is there
abbrev pub row_word : Cell × ℕ → List ℕ
row_word row = number_word row.0.id ++ codes "x" ++ decimal row.1

-- the word of the least element of a heap, if it has one
abbrev pub least_word : Option ℕ → List ℕ
least_word None = []
least_word (Some o) = codes " min " ++ number_word o

-- the word at a place, and nothing if there is none
abbrev pub word_at : List (List ℕ) → ℕ → List ℕ
word_at words k = unwrap_or (slice_get words k) []

-- members in brackets, by their words: eight of them at most
abbrev pub in_brackets : {A : Type 0} → (A → List ℕ) → List A → List ℕ
in_brackets word members =
    codes "[" ++ join_with_byte 32 (map word (take 8 members)) ++ more_if (nat_lt 8 (length members)) ++ codes "]"

-- how many members there are, and then the members in brackets
abbrev pub counted_members : {A : Type 0} → (A → List ℕ) → List A → List ℕ
counted_members word members = decimal (length members) ++ codes " " ++ in_brackets word members

-- the word of whether an item is valid
abbrev pub valid_word : Bool → List ℕ
valid_word valid = if valid then codes "valid" else codes "invalid"

-- the word of a timer's next date
abbrev pub date_word : Option ℕ → List ℕ
date_word None = codes " none"
date_word (Some n) = codes " " ++ decimal n

-- the words of an item: whether it is valid, and what else is shown of its kind
abbrev pub item_words : Bool → Item → List ℕ
item_words valid (source_item order signalled) = valid_word valid ++ (if signalled then codes " signalled" else [])
item_words valid (timer_item first interval date) = valid_word valid ++ (if valid then date_word date else [])
item_words valid (observer_item mask repeats order) = valid_word valid

-- a content as a description shows it
abbrev pub shown_content : Content → List ℕ
shown_content (text_content mutable units) = shown_text units
shown_content (data_content mutable bytes) = shown_bytes bytes
shown_content (number_content n) = kind_word n.kind ++ codes " " ++ signed_decimal n.value
shown_content (instance_content key fields) = signed_decimal key ++ codes " " ++ in_brackets member_word fields
shown_content (array_content plain elements) = counted_members number_word elements
shown_content (dictionary_content plain pairs) = counted_members pair_word pairs
shown_content (set_content plain members) = counted_members cell_word members
shown_content (bag_content plain rows) = counted_members row_word rows
shown_content (heap_content plain adds rows) = decimal (length rows) ++ least_word (least_of plain rows)
shown_content (item_content handler info valid item) = item_words valid item

-- the description of an object: the name of its type, and what it contains
abbrev pub description : List ClassLine → Object → List ℕ
description classes o = class_name classes o.class ++ codes " " ++ shown_content o.content
