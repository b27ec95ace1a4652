-- What a clock that tells its times answers. Times are this project's own: whole numbers of ticks, which stand for no
-- length of time.
use Rattle.std.specs.Prelude.{ℕ, max, List, [], ◌∷◌}

-- the time that is reached as `due` is waited for: the next of the times, or `due` if that is later or none is left
abbrev pub reached : ℕ → List ℕ → ℕ
reached due [] = due
reached due (time ∷ times) = max due time

-- the times that are left after one was reached
abbrev pub times_left : List ℕ → List ℕ
times_left [] = []
times_left (time ∷ times) = times
