-- Items of run loops, as what an object contains of them. After the Run Loops guide: a source is signalled until its
-- callout begins, a timer fires at its date, and an observer is told of activities. That a timer's date and a source's
-- signal stand in its content is this project's own.
use Rattle.std.specs.Prelude.{ℕ, ℤ, Bool, false, Option, None}
use Rattle.cf_ids.specs.declared.numbers.ItemKind.{ItemKind}
use Rattle.cf_ids.specs.declared.numbers.ItemKind.TheVariants.{Source, Timer, Observer}

-- a source with its order, and whether it is signalled; a timer with its first date, its interval, and its next
-- date, if it has one; an observer with the mask of its activities, whether it is called again and again, and its
-- order
pub data Item : Type 0 where
  source_item : (order : ℤ) (signalled : Bool) → Item
  timer_item : (first interval : ℕ) (date : Option ℕ) → Item
  observer_item : (mask : ℕ) (repeats : Bool) (order : ℤ) → Item

-- the kind of an item
abbrev pub kind_of : Item → ItemKind
kind_of (source_item order signalled) = Source
kind_of (timer_item first interval date) = Timer
kind_of (observer_item mask repeats order) = Observer

-- the number of the type of sources, after the reference's names
abbrev pub source_class : ℕ
source_class = 11

-- the number of the type of timers
abbrev pub timer_class : ℕ
timer_class = 12

-- the number of the type of observers
abbrev pub observer_class : ℕ
observer_class = 13

-- the number of the type of an item
abbrev pub class_of : Item → ℕ
class_of (source_item order signalled) = source_class
class_of (timer_item first interval date) = timer_class
class_of (observer_item mask repeats order) = observer_class

-- a source is signalled; no other item is
abbrev pub is_signalled_item : Item → Bool
is_signalled_item (source_item order signalled) = signalled
is_signalled_item _ = false

-- the next date of a timer, if it has one; no other item has a date
abbrev pub date_in : Item → Option ℕ
date_in (timer_item first interval date) = date
date_in _ = None

-- an observer is called again and again; no other item is told of
abbrev pub repeats_item : Item → Bool
repeats_item (observer_item mask repeats order) = repeats
repeats_item _ = false
