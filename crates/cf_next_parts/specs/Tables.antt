-- The facts that a table of a test has.
use Rattle.std.specs.Prelude.{ℕ, Bool, false, ◌==◌, Option, Some, None, slice_get, if◌then◌else◌}
use Rattle.cf_next.specs.Facts.{Callout, Facts}
use Rattle.cf_next_parts.specs.declared.table.ItemFacts.{ItemFacts}
use Rattle.cf_next_parts.specs.declared.table.ReceiverFacts.{ReceiverFacts}
use Rattle.cf_next_parts.specs.declared.table.Table.{Table}

abbrev pub says : (ItemFacts → Bool) → Option ItemFacts → Bool
says f None = false
says f (Some x) = f x

abbrev pub date_of : Option ItemFacts → Option ℕ
date_of None = None
date_of (Some x) = x.date

abbrev pub callout_of : Option ItemFacts → Option Callout
callout_of None = None
callout_of (Some x) = Some (record { handler = x.handler; info = x.info })

abbrev pub receiver_of : Option ReceiverFacts → Option Callout
receiver_of None = None
receiver_of (Some x) = if x.there then Some (record { handler = x.handler; info = Some x.observer }) else None

abbrev pub object_of : Option (Option ℕ) → Option ℕ
object_of None = None
object_of (Some o) = o

abbrev pub facts_of : Table → Facts
facts_of t = record {
  time = t.time;
  holds = λ thread m i. says (λ x. x.mode == m) (slice_get t.items i);
  is_empty = λ thread m. t.empty;
  is_valid = λ i. says (λ x. x.valid) (slice_get t.items i);
  is_signalled = λ i. says (λ x. x.signalled) (slice_get t.items i);
  next_date = λ i. date_of (slice_get t.items i);
  repeats = λ i. says (λ x. x.repeats) (slice_get t.items i);
  callout = λ i. callout_of (slice_get t.items i);
  receiver = λ r. receiver_of (slice_get t.receivers r);
  parcel = λ thread k. object_of (slice_get t.parcel k);
  slot = λ b k. if b == t.body then object_of (slice_get t.slots k) else None;
}
