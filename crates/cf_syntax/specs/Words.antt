-- The words of a line, and the forms of a name and of a text. This project's own.
use Rattle.std.specs.Prelude.{ℕ, Bool, true, false, not, ◌&&◌, ◌||◌, List, [], ◌∷◌, length, drop, codes, Option, Some, None, option_and_then, slice_index, nat_le, nat_lt, ◌==◌, if◌then◌else◌}
use Rattle.std.specs.Option.{option_map}
use Rattle.std.specs.List.{list_all, list_any}
use Rattle.std.specs.Int.{is_in_range}
use Rattle.std.specs.Str.{bytes_eq}
use Rattle.cf_syntax.specs.declared.place.Place.{Place}
use Rattle.cf_syntax.specs.declared.place.Place.TheVariants.{Between, Plain, Quoted, Escaped, Closed}
use Rattle.cf_syntax.specs.Lines.{in_first}

-- space and tab separate words
abbrev pub is_blank : ℕ → Bool
is_blank b = b == 32 || b == 9

-- a line without words, and one whose first word begins with # (35), says nothing
abbrev pub says_nothing : List ℕ → Bool
says_nothing [] = true
says_nothing (b ∷ bs) = if is_blank b then says_nothing bs else b == 35

-- Where the next byte stands after this one, or None where this one may not stand here. A word that
-- begins with a quote (34) is a TEXT and goes to the next quote that no backslash (92) escapes. Its
-- escapes are the quote, the backslash and n (110), and no byte below 32 stands in it. After it is a
-- blank or the end. Other words contain no quote.
abbrev pub goes : Place → ℕ → Option Place
goes Between b = if is_blank b then Some Between else (if b == 34 then Some Quoted else Some Plain)
goes Plain b = if is_blank b then Some Between else (if b == 34 then None else Some Plain)
goes Quoted b =
    if nat_lt b 32 then None
    else (if b == 34 then Some Closed else (if b == 92 then Some Escaped else Some Quoted))
goes Escaped b = if b == 34 || (b == 92 || b == 110) then Some Quoted else None
goes Closed b = if is_blank b then Some Between else None

-- the words after a blank; one that ends a word leaves nothing of that word
abbrev pub past_blank : Place → List (List ℕ) → List (List ℕ)
past_blank Between ws = ws
past_blank p ws = [] ∷ ws

-- the words from a place on, with a byte that leads from it to another; within a word the first of
-- the words is the rest of that word
abbrev pub with_byte : Place → Place → ℕ → List (List ℕ) → List (List ℕ)
with_byte p Between b ws = past_blank p ws
with_byte p q b ws = in_first b ws

-- the words at the end of the line; a TEXT that is not closed is no word
abbrev pub words_at_end : Place → Option (List (List ℕ))
words_at_end Between = Some []
words_at_end Plain = Some ([] ∷ [])
words_at_end Quoted = None
words_at_end Escaped = None
words_at_end Closed = Some ([] ∷ [])

-- the words of the bytes from a place on
abbrev pub words_from : Place → List ℕ → Option (List (List ℕ))
words_from p [] = words_at_end p
words_from p (b ∷ bs) = option_and_then (λ q. option_map (with_byte p q b) (words_from q bs)) (goes p b)

-- the words of a line, a TEXT with its quotes and escapes; None where a word is not of its form
abbrev pub words : List ℕ → Option (List (List ℕ))
words line = words_from Between line

-- a word is a TEXT
abbrev pub is_text : List ℕ → Bool
is_text word = slice_index word 0 == 34

-- the byte that an escape stands for: LF (10) for n, else itself
abbrev pub unescape : ℕ → ℕ
unescape b = if b == 110 then 10 else b

-- what a TEXT says from after its first quote on; the flag says that a backslash stands before
abbrev pub text_from : Bool → List ℕ → List ℕ
text_from escape [] = []
text_from true (b ∷ bs) = unescape b ∷ text_from false bs
text_from false (b ∷ bs) = if b == 34 then [] else (if b == 92 then text_from true bs else b ∷ text_from false bs)

-- what a TEXT says
abbrev pub text_of : List ℕ → List ℕ
text_of word = text_from false (drop 1 word)

-- a to z
abbrev pub is_letter : ℕ → Bool
is_letter b = is_in_range 97 122 b

-- a to z, 0 to 9 and _
abbrev pub is_name_byte : ℕ → Bool
is_name_byte b = is_letter b || (is_in_range 48 57 b || b == 95)

-- the words that are no names
abbrev pub reserved : List (List ℕ)
reserved = codes "nil" ∷ codes "any" ∷ codes "self" ∷ codes "common" ∷ codes "info" ∷ codes "setup"
    ∷ codes "forever" ∷ codes "plain"
    ∷ codes "string" ∷ codes "mstring" ∷ codes "data" ∷ codes "mdata" ∷ codes "number" ∷ codes "array"
    ∷ codes "dict" ∷ codes "set"
    ∷ codes "bag" ∷ codes "heap" ∷ codes "source" ∷ codes "timer" ∷ codes "observer" ∷ []

-- a word is one of those that are no names
abbrev pub is_reserved : List ℕ → Bool
is_reserved word = list_any (λ r. bytes_eq r word) reserved

-- a NAME: a letter, then up to 31 letters, digits and _, and not reserved
abbrev pub is_name : List ℕ → Bool
is_name word =
    is_letter (slice_index word 0)
    && (nat_le (length word) 32 && (list_all is_name_byte word && not (is_reserved word)))
