-- The words of the command line. This project's own.
use Rattle.std.specs.Prelude.{ℕ, Bool, not, ◌&&◌, List, Option, Some, None, length, codes, slice_index, ◌==◌, if◌then◌else◌, IsSome}
use Rattle.std.specs.Str.{bytes_eq}
use Rattle.cf_syntax.specs.FormStatements.{word_at}

-- a word that names a file: it is not empty and does not begin with -
abbrev pub is_file : List ℕ → Bool
is_file word = not (length word == 0) && not (slice_index word 0 == 45)

-- the file that a word names, if it names one
abbrev pub named : List ℕ → Option (List ℕ)
named word = if is_file word then Some word else None

-- the file that the words `run FILE` or `run --serial FILE` name
abbrev pub file_of : List (List ℕ) → Option (List ℕ)
file_of words =
    if length words == 2 && bytes_eq (word_at words 0) (codes "run") then named (word_at words 1)
    else (if length words == 3
    && (bytes_eq (word_at words 0) (codes "run") && bytes_eq (word_at words 1) (codes "--serial"))
    then named (word_at words 2) else None)

-- the words are of one of the two forms
abbrev pub TakesWords : List (List ℕ) → Type 0
TakesWords words = IsSome (file_of words)
