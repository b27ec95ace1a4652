-- The members of a content as words, for descriptions.
use Rattle.std.specs.Prelude.{ℕ, List, [], ◌++◌, codes, map, length, take, nat_lt}
use Rattle.std.specs.Fmt.{decimal}
use Rattle.std.specs.List.{join_with_byte}
use Rattle.cf_ids.specs.Words.{number_word}
use Rattle.cf_contents.specs.Contents.{Content, instance_content, array_content, dictionary_content, set_content, bag_content}
use Rattle.cf_contents.specs.Descriptions.{more_if, member_word, pair_word, cell_word, row_word}

-- the words of the members that are listed: fields, elements, pairs or rows
abbrev pub words_of : Content → List (List ℕ)
words_of (instance_content key fields) = map member_word fields
words_of (array_content plain elements) = map number_word elements
words_of (dictionary_content plain pairs) = map pair_word pairs
words_of (set_content plain members) = map cell_word members
words_of (bag_content plain rows) = map row_word rows
words_of _ = []

-- how many members are listed
abbrev pub members_in : Content → ℕ
members_in (instance_content key fields) = length fields
members_in (array_content plain elements) = length elements
members_in (dictionary_content plain pairs) = length pairs
members_in (set_content plain members) = length members
members_in (bag_content plain rows) = length rows
members_in _ = 0

-- the members in brackets, by their words
abbrev pub listed : Content → List ℕ
listed c = codes "[" ++ join_with_byte 32 (take 8 (words_of c)) ++ more_if (nat_lt 8 (members_in c)) ++ codes "]"

-- how many members there are, and then the members in brackets
abbrev pub counted_list : Content → List ℕ
counted_list c = decimal (members_in c) ++ codes " " ++ listed c
