-- What the running counts of a block's lines have to do with the sums over them.
use Rattle.std.specs.Prelude.{◌≡◌, ℕ, ◌+◌, ◌<◌, ◌^◌, List, slice_index}
use Rattle.cf_syntax.specs.declared.counts.Counts.{Counts}
use Rattle.cf_syntax.specs.declared.mention.Ownership.{Ownership}
use Rattle.cf_syntax.specs.BlockLines.{BlockLine}
use Rattle.cf_syntax.specs.Owned.{bound, given, released, bound_by, given_by, released_by}
use Rattle.cf_ids.specs.declared.limits.TheConstants.{VARIABLES}

-- the counts are the sums over these lines
pub record Counted (c : Counts) (earlier : List BlockLine) : Type 0 where
  pub binds : (v : ℕ) → v < VARIABLES → slice_index c.bound v ≡ bound v earlier
  pub gives : (v : ℕ) → v < VARIABLES → slice_index c.given v ≡ given v earlier
  pub takes : (v : ℕ) → v < VARIABLES → slice_index c.released v ≡ released v earlier

-- the counts after a line that does this
pub record Noted (old : Counts) (ownership : Ownership) (new : Counts) : Type 0 where
  pub binds : (v : ℕ) → v < VARIABLES → slice_index new.bound v ≡ slice_index old.bound v + bound_by v ownership
  pub gives : (v : ℕ) → v < VARIABLES → slice_index new.given v ≡ slice_index old.given v + given_by v ownership
  pub takes : (v : ℕ) → v < VARIABLES
      → slice_index new.released v ≡ slice_index old.released v + released_by v ownership

-- each count can rise by a number
pub record HasRoom (c : Counts) (n : ℕ) : Type 0 where
  pub binds : (v : ℕ) → v < VARIABLES → slice_index c.bound v + n < 2 ^ 64
  pub gives : (v : ℕ) → v < VARIABLES → slice_index c.given v + n < 2 ^ 64
  pub takes : (v : ℕ) → v < VARIABLES → slice_index c.released v + n < 2 ^ 64
