-- What the serial run finds after a journal: whether a thread goes on, the lead ticks or stalls, or the run is over.
-- This project's own.
use Rattle.std.specs.Prelude.{◌≡◌, ℕ, ◌<◌, ◌≤◌, false, IsTrue, List, Some, None}
use Rattle.cf_syntax.specs.declared.script.Script.{Script}
use Rattle.cf_syntax.specs.Owned.{Owned}
use Rattle.cf_model.specs.declared.entry.Entry.{Entry}
use Rattle.cf_model.specs.Journals.{can_go, all_sleep, AllowsTick, AllowsStall, over, busy, ticks, stalls, lead_next, has_stalled, After, IsLegal, IsWhole}
use Rattle.cf_model.specs.Serial.{picked}

-- Without a stall a legal journal of an owned script is whole if the lead has nothing more to do, and a whole journal
-- leaves it nothing. As long as a thread can go on, or all sleep, no journal is whole. If the pointer picks a thread,
-- the lead is busy, and else it is not; and it ticks and stalls only where it may.
pub record LeadTells (s : Script) (es : List Entry) : Type 0 where
  pub whole : Owned s → IsLegal s es → has_stalled es ≡ false → lead_next s es ≡ over → IsWhole s es
  pub ended : IsWhole s es → lead_next s es ≡ over
  pub going : (t : ℕ) → t < s.thread_count → IsTrue (can_go (After s es) t) → IsWhole s es → ⊥
  pub asleep : IsTrue (all_sleep s (After s es)) → IsWhole s es → ⊥
  pub goes : (pointer t : ℕ) → pointer ≤ s.thread_count → picked s (After s es) pointer ≡ Some t
      → has_stalled es ≡ false → lead_next s es ≡ busy
  pub waits : (pointer : ℕ) → pointer ≤ s.thread_count → picked s (After s es) pointer ≡ None
      → lead_next s es ≡ busy → ⊥
  pub tick : (time : ℕ) → lead_next s es ≡ ticks time → AllowsTick s (After s es) time
  pub stall : lead_next s es ≡ stalls → AllowsStall s (After s es)
