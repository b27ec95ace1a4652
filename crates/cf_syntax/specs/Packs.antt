-- The places of the parcels that setup packs. This project's own.
use Rattle.std.specs.Prelude.{ℕ, ◌<◌, length}
use Rattle.cf_syntax.specs.declared.script.Script.{Script}
use Rattle.cf_syntax.specs.BlockLines.{uses_in, thread_block}

-- a place of the parcel of a thread after setup: it is that of one of the words after `uses` of the thread's line
pub record IsWithin (s : Script) (thread_number place_number : ℕ) : Type 0 where
  pub thread : thread_number < s.thread_count
  pub after_setup : 0 < thread_number
  pub place : place_number < length (uses_in (thread_block s thread_number))
