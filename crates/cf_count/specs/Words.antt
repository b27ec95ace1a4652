-- The word of an object: its count byte, its state, and how often it was exchanged. This project's own.
use Rattle.std.specs.Prelude.{ℕ, ◌+◌, ◌*◌, ◌/◌, ◌%◌, ◌^◌}
use Rattle.cf_count.specs.declared.words.State.{State}
use Rattle.cf_count.specs.declared.words.State.TheVariants.{Unmade, Live, Dead, Other}

-- the number of a state
abbrev pub number_of : State → ℕ
number_of Unmade = 0
number_of Live = 1
number_of Dead = 2
number_of Other = 3

-- a word: the byte in bits 0 to 7, the state in bits 8 and 9, nothing in bits 10 to 15, and from bit 16 on the number
-- of exchanges, of which 48 bits are kept
abbrev pub word_of : ℕ → State → ℕ → ℕ
word_of byte state changes = byte + 2 ^ 8 * number_of state + 2 ^ 16 * (changes % 2 ^ 48)

-- what a word has
abbrev pub byte_in : ℕ → ℕ
byte_in word = word % 2 ^ 8

abbrev pub state_in : ℕ → ℕ
state_in word = (word / 2 ^ 8) % 4

abbrev pub changes_in : ℕ → ℕ
changes_in word = word / 2 ^ 16
