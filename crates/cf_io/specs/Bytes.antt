-- Bytes on their way: those that a source has left and those that a sink has taken, each told or not. A source in
-- memory tells them, a real file does not. These words are this project's own.
use Rattle.std.specs.Prelude.{◌≡◌, ◌≤◌, ℕ, List, [], ◌++◌, length, Option, None, Some, IfSome}

-- These bytes and then those that are left, if these are told.
abbrev pub bytes_then : List ℕ → Option (List ℕ) → Option (List ℕ)
bytes_then bytes None = None
bytes_then bytes (Some left) = Some (bytes ++ left)

-- The bytes that were taken, if they are told, and then these.
abbrev pub then_bytes : Option (List ℕ) → List ℕ → Option (List ℕ)
then_bytes None bytes = None
then_bytes (Some taken) bytes = Some (taken ++ bytes)

-- Nothing is left, if what is left is told.
abbrev pub IsAtEnd : Option (List ℕ) → Type 0
IsAtEnd left = IfSome left (λ bytes. bytes ≡ [])

-- What was left before is these bytes and then what is left now, and they are at most so many.
pub record HasGiven (most : ℕ) (before after : Option (List ℕ)) : Type 0 where
  pub bytes : List ℕ
  pub were_left : before ≡ bytes_then bytes after
  pub few : length bytes ≤ most
