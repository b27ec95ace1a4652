-- How threads and objects are written. This project's own.
use Rattle.std.specs.Prelude.{ℕ, List, ◌∷◌, codes, ◌==◌, if◌then◌else◌}
use Rattle.std.specs.Fmt.{decimal}

-- a thread is written as t and its number, and the lead as a word
abbrev pub thread_word : ℕ → List ℕ
thread_word t = if t == 255 then codes "lead" else 116 ∷ decimal t

-- an object is written as # and its number
abbrev pub number_word : ℕ → List ℕ
number_word o = 35 ∷ decimal o
