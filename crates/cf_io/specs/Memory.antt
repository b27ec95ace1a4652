-- What a source and a sink in memory show. These words are this project's own.
use Rattle.std.specs.Prelude.{ℕ, List, ◌+◌, ◌-◌, ◌^◌, min}
use Rattle.cf_io.specs.Files.{File}

-- How an object in memory answers: the numbers of its calls that fail, counted from 0, the number of its next call,
-- and the most bytes that one call moves.
pub record Plan : Type 0 where
  pub failing : List ℕ
  pub calls : ℕ
  pub most : ℕ

-- The plan after one more call. The number of the next call stands still at the end of its type.
abbrev pub after_call : Plan → Plan
after_call plan = record plan { calls = min (plan.calls + 1) (2 ^ 64 - 1) }

-- A source in memory: its files, the bytes of the open one that are not yet read (none if no file is open), the
-- count of its faults, and its plan.
pub record SourceState : Type 0 where
  pub files : List File
  pub left : List ℕ
  pub faults : ℕ
  pub plan : Plan

-- A sink in memory: the bytes that it has taken, the count of its faults, and its plan.
pub record SinkState : Type 0 where
  pub taken : List ℕ
  pub faults : ℕ
  pub plan : Plan
