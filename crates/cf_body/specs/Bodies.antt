-- What bodies contain, and how their members are described.
use Rattle.std.specs.Prelude.{ℕ, Bool, List, [], ◌∷◌, ◌++◌, codes, map, length, take, nat_lt}
use Rattle.std.specs.Fmt.{decimal}
use Rattle.std.specs.List.{join_with_byte}
use Rattle.cf_ids.specs.Words.{number_word}
use Rattle.cf_contents.specs.Contents.{Content, Object, text_content, data_content, number_content, instance_content, array_content, dictionary_content, set_content, bag_content, heap_content, size_of, item_content}
use Rattle.cf_contents.specs.Descriptions.{more_if, member_word, pair_word, cell_word, row_word}
use Rattle.cf_contents.specs.Stores.{Held}
use Rattle.cf_body.specs.Items.{item_of}
use Rattle.cf_body.specs.declared.body.Kind.{Kind}
use Rattle.cf_body.specs.declared.body.Kind.TheVariants.{Text, Data, Number, Instance, Array, Dictionary, Set, Bag, Heap, Item}

-- what a body is to the store: its object, whether that is finalised, how many of its slots it has given up, and how
-- many more units, bytes, elements, pairs or members come in without memory
pub record BodyView : Type 0 where
  pub class : ℕ
  pub content : Content
  pub is_finalised : Bool
  pub given_up : ℕ
  pub room : ℕ

-- the object of a body
abbrev pub object_in : BodyView → Object
object_in b = record { class = b.class; content = b.content }

-- a body without its room
abbrev pub held_of : BodyView → Held
held_of b = record { object = object_in b; is_finalised = b.is_finalised; given_up = b.given_up }

-- the content of what the program keeps of an object
abbrev pub content_of : Kind → Content
content_of (Text mutable text) = text_content mutable text.units
content_of (Data mutable bytes) = data_content mutable bytes.items
content_of (Number n) = number_content n
content_of (Instance i) = instance_content i.key i.fields.items
content_of (Array plain elements) = array_content plain elements.items
content_of (Dictionary pairs) = dictionary_content pairs.plain pairs.items
content_of (Set set) = set_content set.plain set.members
content_of (Bag bag) = bag_content bag.plain bag.rows
content_of (Heap heap) = heap_content heap.plain heap.adds heap.rows
content_of (Item i) = item_content i.handler i.info i.valid (item_of i.state)

-- how many more units, bytes, elements or pairs come in without memory
abbrev pub room_of : Kind → ℕ
room_of (Text mutable text) = text.room
room_of (Data mutable bytes) = bytes.room
room_of (Number n) = 0
room_of (Instance i) = 0
room_of (Array plain elements) = elements.room
room_of (Dictionary pairs) = pairs.room
room_of (Set set) = set.room
room_of (Bag bag) = bag.room
room_of (Heap heap) = heap.room
room_of (Item i) = 0

-- how many members there are that are listed: fields, elements, pairs or rows
abbrev pub members_in : Content → ℕ
members_in (text_content mutable units) = 0
members_in (data_content mutable bytes) = 0
members_in (number_content n) = 0
members_in (instance_content key fields) = length fields
members_in (array_content plain elements) = length elements
members_in (dictionary_content plain pairs) = length pairs
members_in (set_content plain members) = length members
members_in (bag_content plain rows) = length rows
members_in (heap_content plain adds rows) = 0
members_in (item_content handler info valid item) = 0

-- what stays below the limit: of an instance how many fields it has, of an item one, of others their size
abbrev pub most_in : Content → ℕ
most_in (text_content mutable units) = 0
most_in (data_content mutable bytes) = 0
most_in (number_content n) = 0
most_in (instance_content key fields) = length fields
most_in (array_content plain elements) = size_of (array_content plain elements)
most_in (dictionary_content plain pairs) = size_of (dictionary_content plain pairs)
most_in (set_content plain members) = size_of (set_content plain members)
most_in (bag_content plain rows) = size_of (bag_content plain rows)
most_in (heap_content plain adds rows) = size_of (heap_content plain adds rows)
most_in (item_content handler info valid item) = 1

-- the words of the members
abbrev pub words_of : Content → List (List ℕ)
words_of (text_content mutable units) = []
words_of (data_content mutable bytes) = []
words_of (number_content n) = []
words_of (instance_content key fields) = map member_word fields
words_of (array_content plain elements) = map number_word elements
words_of (dictionary_content plain pairs) = map pair_word pairs
words_of (set_content plain members) = map cell_word members
words_of (bag_content plain rows) = map row_word rows
words_of (heap_content plain adds rows) = []
words_of (item_content handler info valid item) = []

-- the members in brackets, by their words
abbrev pub listed : Content → List ℕ
listed c = codes "[" ++ join_with_byte 32 (take 8 (words_of c)) ++ more_if (nat_lt 8 (members_in c)) ++ codes "]"

-- how many members there are, and then the members in brackets
abbrev pub counted_list : Content → List ℕ
counted_list c = decimal (members_in c) ++ codes " " ++ listed c
