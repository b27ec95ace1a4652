-- How a centre finds registrations: by the lists of their names and of their observers. No public clause cites this
-- module. All definitions here are this project's own.
use Rattle.std.specs.Prelude.{◌≡◌, ◌+◌, ◌-◌, ◌<◌, ◌≤◌, ℕ, zero, suc, Bool, List, [], ◌∷◌, length, map, filter, Option, Some, None, slice_index_or, Vec, vec_len, vec_capacity, if◌then◌else◌, nat_lt}
use Rattle.std.specs.List.{range_with_len}
use Rattle.cf_ids.specs.declared.limits.TheConstants.{OBJECT_NUMBERS}
use Rattle.rl_base.specs.declared.registrations.Registration.{Registration}
use Rattle.rl_base.specs.Receivers.{is_there_and}
use Rattle.cf_notify.specs.Centres.{count_there}
use Rattle.cf_notify.specs.Links.{Marks, is_mark}

-- the list of the registrations for a name; that of those for any name is the first
abbrev pub list_of : Option ℕ → ℕ
list_of None = 0
list_of (Some n) = n + 1

-- the list of the name of a registration, if it is there
abbrev pub name_mark : Option Registration → Option ℕ
name_mark None = None
name_mark (Some r) = Some (list_of r.name)

-- the list of the observer of a registration, if it is there
abbrev pub observer_mark : Option Registration → Option ℕ
observer_mark None = None
observer_mark (Some r) = Some r.observer

-- whether the registration of a number is in the list of a name
abbrev pub is_named : ℕ → List (Option Registration) → ℕ → Bool
is_named l made k = is_mark l (name_mark (slice_index_or made k None))

-- whether the registration of a number is of this observer
abbrev pub is_by : ℕ → List (Option Registration) → ℕ → Bool
is_by o made k = is_mark o (observer_mark (slice_index_or made k None))

-- whether the registration of a number passes a test
abbrev pub passes : (Registration → Bool) → List (Option Registration) → ℕ → Bool
passes test made k = is_there_and test (slice_index_or made k None)

-- the numbers below one that pass
abbrev pub upto : (ℕ → Bool) → ℕ → List ℕ
upto test n = filter test (range_with_len 0 n)

-- the registrations without those of the first numbers that pass
abbrev pub forgotten_upto : ℕ → (Registration → Bool) → List (Option Registration) → List (Option Registration)
forgotten_upto zero test made = made
forgotten_upto (suc n) test [] = []
forgotten_upto (suc n) test (r ∷ rs) = (if is_there_and test r then None else r) ∷ forgotten_upto n test rs

-- a number, or the end of all
abbrev pub place_or : Option ℕ → ℕ → ℕ
place_or None end = end
place_or (Some k) end = k

-- how many numbers are left from one on
abbrev pub left_from : Option ℕ → ℕ → ℕ
left_from None end = 0
left_from (Some k) end = end - k

-- the lists tell of each registration its name and its observer, all are counted, and each vector has memory for so
-- many
pub record IsRegistered {Y : Type 0} (made : Vec (Option Registration) Y) (names observers : Marks)
    (there capacity : ℕ) : Type 0 where
  pub named : names.marks ≡ map name_mark made.items
  pub observed : observers.marks ≡ map observer_mark made.items
  pub counted : there ≡ count_there made.items
  pub len : length made.items ≡ vec_len made
  pub within : vec_len made ≤ capacity
  pub made_fit : capacity ≤ vec_capacity made
  pub names_fit : capacity ≤ length names.marks + names.room
  pub observers_fit : capacity ≤ length observers.marks + observers.room
  pub name_lists : 0 < capacity → 0 < names.lists
  pub observer_lists : 0 < capacity → 0 < observers.lists
  pub names_whole : 0 < names.lists → names.lists ≡ 1025
  pub observers_whole : 0 < observers.lists → observers.lists ≡ OBJECT_NUMBERS

-- the lesser of two numbers
abbrev pub least : Option ℕ → Option ℕ → Option ℕ
least None b = b
least (Some m) None = Some m
least (Some m) (Some n) = Some (if nat_lt m n then m else n)
