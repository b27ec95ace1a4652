-- The table of timers, by rising number, and how the queue agrees with it. No public clause cites this module. All
-- definitions here are this project's own.
use Rattle.std.specs.Prelude.{◌≡◌, ◌==◌, ◌≤◌, ◌<◌, ℕ, List, [], ◌∷◌, map, find, Option, None, if◌then◌else◌}
use Rattle.std.specs.List.{All, filter_map}
use Rattle.std.specs.Option.{option_map}
use Rattle.rl_base.proofs.Orders.{sort_with}
use Rattle.rl_timers.specs.declared.rows.Row.{Row}
use Rattle.rl_timers.specs.Timings.{Timer}
use Rattle.rl_timers.specs.Queues.{QueueEntry, Waiting, comes_first}

-- what a row says of its timer
abbrev pub timer_of : Row → Timer
timer_of r = record { number = r.number; first = r.first; interval = r.interval; date = r.date; valid = r.is_valid }

-- the timers of the rows
abbrev pub timers_of : List Row → List Timer
timers_of rows = map timer_of rows

-- the row of this number, if there is one
abbrev pub row_at : List Row → ℕ → Option Row
row_at rows t = find (λ r. r.number == t) rows

-- the numbers rise
abbrev pub IsRising : List Row → Type 0
IsRising [] = Unit {0}
IsRising (r ∷ rs) = All (λ s. r.number < s.number) rs × IsRising rs

-- the entry of a row, if its timer is valid and has a date
abbrev pub entry_of : Row → Option QueueEntry
entry_of r =
    if r.is_valid then option_map (λ date. record { node = r.node; date = date; number = r.number }) r.date else None

-- the entries of the rows, in order
abbrev pub queued : List Row → List QueueEntry
queued rows = sort_with comes_first (filter_map entry_of rows)

-- the table rises, the queue has the entries of its rows in order, and each has the room that is counted
pub record IsTable (rows : List Row) (spare : ℕ) (queue : Waiting) (room : ℕ) : Type 0 where
  pub rising : IsRising rows
  pub listed : queue.entries ≡ queued rows
  pub for_rows : room ≤ spare
  pub for_nodes : room ≤ queue.room
