-- What the words of a line are: blanks stand between them, before the first and after the last, and a word is a TEXT
-- or contains no quote. This project's own. The function `words` finds them; a law says that it finds these and no
-- others.
use Rattle.std.specs.Prelude.{◌≡◌, ◌⊎◌, ℕ, ◌<◌, Bool, true, not, ◌&&◌, ◌||◌, List, [], ◌∷◌, ◌++◌, length, nat_lt, ◌==◌, if◌then◌else◌}
use Rattle.std.specs.List.{list_all}
use Rattle.cf_syntax.specs.Words.{is_blank}

-- a byte of a word that is no TEXT: neither a blank nor a quote (34)
abbrev pub is_plain_byte : ℕ → Bool
is_plain_byte b = not (is_blank b) && not (b == 34)

-- a byte of a TEXT that stands for itself: from 32 on, and neither a quote nor a backslash (92)
abbrev pub is_text_byte : ℕ → Bool
is_text_byte b = not (nat_lt b 32) && (not (b == 34) && not (b == 92))

-- a byte that stands after a backslash: a quote, a backslash or n (110)
abbrev pub is_escape : ℕ → Bool
is_escape b = b == 34 || (b == 92 || b == 110)

-- what stands between the quotes of a TEXT
abbrev pub is_quoted : List ℕ → Bool
is_quoted [] = true
is_quoted (b ∷ []) = is_text_byte b
is_quoted (b ∷ c ∷ bs) = if b == 92 then is_escape c && is_quoted bs else is_text_byte b && is_quoted (c ∷ bs)

-- a TEXT, and another word
pub record IsText (word : List ℕ) : Type 0 where
  pub inner : List ℕ
  pub is : word ≡ 34 ∷ inner ++ 34 ∷ []
  pub quoted : is_quoted inner ≡ true

pub record IsPlain (word : List ℕ) : Type 0 where
  pub some : 0 < length word
  pub plain : list_all is_plain_byte word ≡ true

-- after a word comes a blank, or the end of the line
abbrev pub ends_word : List ℕ → Bool
ends_word [] = true
ends_word (b ∷ bs) = is_blank b

-- the first word of a line, after blanks, and what is left after it
pub record First (line word rest : List ℕ) : Type 0 where
  pub gap : List ℕ
  pub is : line ≡ gap ++ word ++ rest
  pub blank : list_all is_blank gap ≡ true
  pub word_is : IsText word ⊎ IsPlain word
  pub ends : ends_word rest ≡ true

-- a line and its words
abbrev pub Spaced : List ℕ → List (List ℕ) → Type 0
Spaced line [] = list_all is_blank line ≡ true
Spaced line (w ∷ ws) = (rest : List ℕ) × First line w rest × Spaced rest ws
