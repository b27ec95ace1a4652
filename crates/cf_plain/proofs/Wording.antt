-- Each member of a content has a word.
use Rattle.std.proofs.Common.{◌≡◌, length, refl}
use Rattle.std.proofs.lemmas.List.{length-map}
use Rattle.cf_ids.specs.Words.{number_word}
use Rattle.cf_contents.specs.Descriptions.{member_word, pair_word, cell_word, row_word}
use Rattle.cf_contents.specs.Contents.{Content, text_content, data_content, number_content, instance_content, array_content, dictionary_content, set_content, bag_content, heap_content, item_content}
use Rattle.cf_plain.specs.Words.{words_of, members_in}

pub length-words : (c : Content) → length (words_of c) ≡ members_in c
length-words (text_content mutable units) = refl
length-words (data_content mutable bytes) = refl
length-words (number_content n) = refl
length-words (instance_content key fields) = length-map fields member_word
length-words (array_content plain elements) = length-map elements number_word
length-words (dictionary_content plain pairs) = length-map pairs pair_word
length-words (set_content plain members) = length-map members cell_word
length-words (bag_content plain rows) = length-map rows row_word
length-words (heap_content plain adds rows) = refl
length-words (item_content handler info valid item) = refl
