-- What the sources of a run are to their callers.
use Rattle.std.specs.Prelude.{ℕ, List}
use Rattle.rl_base.specs.declared.sources.SourceState.{SourceState}

-- the sources made, by rising number, and how many more can be made before memory has to be taken
pub record SourceTable : Type 0 where
  pub sources : List SourceState
  pub room : ℕ
