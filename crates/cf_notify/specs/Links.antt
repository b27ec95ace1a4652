-- How numbers are kept in lists. No public clause cites this module. All definitions here are this project's own.
use Rattle.std.specs.Prelude.{◌≡◌, ◌+◌, ◌<◌, ◌≤◌, ◌==◌, ℕ, Bool, true, false, List, length, Option, Some, None, slice_index_or, slice_set}
use Rattle.cf_notify.specs.declared.lists.Link.{Link}
use Rattle.cf_notify.specs.declared.lists.Ends.{Ends}

-- what the lists are to the centre: the list that each number is in, how many lists there are, and for how many more
-- numbers there is room
pub record Marks : Type 0 where
  pub marks : List (Option ℕ)
  pub lists : ℕ
  pub room : ℕ

-- whether a mark is that of a list
abbrev pub is_mark : ℕ → Option ℕ → Bool
is_mark l None = false
is_mark l (Some m) = m == l

-- whether a number is in a list
abbrev pub is_in : List (Option ℕ) → ℕ → ℕ → Bool
is_in marks l k = is_mark l (slice_index_or marks k None)

-- the first number that passes, of those from one on
abbrev pub IsNext : (ℕ → Bool) → ℕ → Option ℕ → Type 0
IsNext test from None = (j : ℕ) → from ≤ j → test j ≡ false
IsNext test from (Some n) = (from ≤ n) × (test n ≡ true) × ((j : ℕ) → from ≤ j → j < n → test j ≡ false)

-- the last number that passes, of those below one
abbrev pub IsLast : (ℕ → Bool) → ℕ → Option ℕ → Type 0
IsLast test to None = (j : ℕ) → j < to → test j ≡ false
IsLast test to (Some n) = (n < to) × (test n ≡ true) × ((j : ℕ) → n < j → j < to → test j ≡ false)

-- ---- links

-- the link of a number that is in no list
abbrev pub no_link : Link
no_link = record { list = None; prev = None; next = None }

-- the ends of an empty list
abbrev pub no_ends : Ends
no_ends = record { first = None; last = None }

-- the link of a number
abbrev pub link_at : List Link → ℕ → Link
link_at links k = slice_index_or links k no_link

-- the ends of a list
abbrev pub ends_at : List Ends → ℕ → Ends
ends_at ends l = slice_index_or ends l no_ends

-- whether a number is in a list, by its link
abbrev pub holds : List Link → ℕ → ℕ → Bool
holds links l k = is_mark l (link_at links k).list

-- each list leads from its first number through each next one to its last, and back
pub record AreLinked (links : List Link) (ends : List Ends) : Type 0 where
  pub firsts : (l : ℕ) → IsNext (holds links l) 0 (ends_at ends l).first
  pub lasts : (l : ℕ) → IsLast (holds links l) (length links) (ends_at ends l).last
  pub nexts : (k l : ℕ) → (link_at links k).list ≡ Some l → IsNext (holds links l) (k + 1) (link_at links k).next
  pub prevs : (k l : ℕ) → (link_at links k).list ≡ Some l → IsLast (holds links l) k (link_at links k).prev
  pub made : (k l : ℕ) → (link_at links k).list ≡ Some l → l < length ends

-- ---- steps

-- in the list l, `from` leads on to `to`; None stands for the list itself
abbrev pub next_links : Option ℕ → Option ℕ → List Link → List Link
next_links None to links = links
next_links (Some k) to links = slice_set links k (record (link_at links k) { next = to })

-- the ends after that: the list itself leads to its first number
abbrev pub next_ends : ℕ → Option ℕ → Option ℕ → List Ends → List Ends
next_ends l None to ends = slice_set ends l (record (ends_at ends l) { first = to })
next_ends l (Some k) to ends = ends

-- in the list l, `to` leads back to `from`
abbrev pub prev_links : Option ℕ → Option ℕ → List Link → List Link
prev_links None from links = links
prev_links (Some k) from links = slice_set links k (record (link_at links k) { prev = from })

-- the ends after that: the list itself leads to its last number
abbrev pub prev_ends : ℕ → Option ℕ → Option ℕ → List Ends → List Ends
prev_ends l None from ends = slice_set ends l (record (ends_at ends l) { last = from })
prev_ends l (Some k) from ends = ends
