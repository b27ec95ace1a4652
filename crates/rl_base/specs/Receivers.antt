-- The receivers of a notice, in the order in which they were registered, but for the test of live objects. After the
-- reference of CFNotificationCenter; the order is this project's own.
use Rattle.std.specs.Prelude.{ℕ, ◌==◌, Bool, true, false, ◌&&◌, List, length, filter, Option, Some, None, slice_index_or}
use Rattle.std.specs.List.{range_with_len}
use Rattle.rl_base.specs.declared.registrations.Registration.{Registration}

-- whether a wanted number takes a given one. If none is wanted, any is taken, also that none is given; if one is
-- wanted, that none is given is not taken
abbrev pub takes : (wanted given : Option ℕ) → Bool
takes None given = true
takes (Some n) None = false
takes (Some n) (Some m) = n == m

-- whether a registration receives a notice of this name and object: its name is that one or any, and its filter is the
-- object or any. A notice without an object does not match a registration with a filter
abbrev pub matches : ℕ → Option ℕ → Registration → Bool
matches name object r = takes r.name (Some name) && takes r.filter object

-- whether a registration is taken out that an observer forgets: it is the observer's, and has this name and filter,
-- where None stands for all. A given name does not take out a registration for any name
abbrev pub forgets : ℕ → (name filter : Option ℕ) → Registration → Bool
forgets observer name filter r = (r.observer == observer) && (takes name r.name && takes filter r.filter)

-- whether a registration is there and passes a test. One that was forgotten stands as None at its number
abbrev pub is_there_and : (Registration → Bool) → Option Registration → Bool
is_there_and test None = false
is_there_and test (Some r) = test r

-- the numbers of the registrations that pass a test, in the order in which they were made
abbrev pub numbers_of : (Registration → Bool) → List (Option Registration) → List ℕ
numbers_of test made = filter (λ k. is_there_and test (slice_index_or made k None)) (range_with_len 0 (length made))

-- the numbers of the registrations that receive a notice
abbrev pub receivers : ℕ → Option ℕ → List (Option Registration) → List ℕ
receivers name object = numbers_of (matches name object)
