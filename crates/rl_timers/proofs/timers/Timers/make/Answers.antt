-- Answers to the goals of `timers::Timers::make`.
use Rattle.std.proofs.Common.{◌≡◌, ◌-◌, Some, true, sym, ap, ◌∙◌, arith}
use Rattle.rl_timers.specs.declared.rows.Row.{Row}
use Rattle.rl_timers.specs.Timings.{Timing, timer_at, with_timer}
use Rattle.rl_timers.specs.Queues.{QueueEntry}
use Rattle.rl_timers.specs.Rows.{timer_of, timers_of, queued}
use Rattle.rl_timers.proofs.Tables.{stands_at}
use Rattle.rl_timers.proofs.Keeping.{queued_in_order, comes_in, with_entry}
use Rattle.rl_timers.proofs.timers.Timers.make.Goals as goal

pub put-node-requires-clause-in_order : goal.put-node-requires-clause-in_order
put-node-requires-clause-in_order c = rw c.self.invariant.listed (queued_in_order c.self.inside.rows.items)

-- what contracts see after a row comes in
abbrev made_with : Row → Timing → Timing
made_with r s = record { timers = with_timer (timer_of r) s.timers; room = s.room - 1 }

pub invariant_of-self : goal.invariant_of-self
invariant_of-self c =
    let rows = c.self.inside.rows.items in
    let t = c.args.t in
    let r : Row = record {
      number = t;
      first = c.args.first;
      interval = c.args.interval;
      date = Some c.args.first;
      is_valid = true;
      node = c.put-node.result;
    } in
    let stands = rw c.as_slice.ensures.value at (stands_at _ t c.place_of-place.result c.place_of-place.ensures.within
    c.place_of-place.ensures.lower c.place_of-place.ensures.higher) in
    let new = ap (λ (s : Timing). timer_at s.timers t) c.self.view_is ∙ c.requires.is_new in
    let in_ = comes_in rows c.place_of-place.result r c.self.invariant.rising stands new in
    let e : QueueEntry = record { node = c.put-node.result; date = c.args.first; number = t } in
    record {
      rising = rw c.insert.ensures.items in_.rising;
      listed = c.put-node.ensures.entries ∙ ap (with_entry (Some e)) c.self.invariant.listed ∙ sym in_.listed
          ∙ ap queued (sym c.insert.ensures.items);
      for_rows = omega (arith, c.self.invariant.for_rows, c.insert.ensures);
      for_nodes = omega (arith, c.self.invariant.for_nodes, c.put-node.ensures);
    }

pub returns : goal.returns
returns c =
    let rows = c.self.inside.rows.items in
    let t = c.args.t in
    let r : Row = record {
      number = t;
      first = c.args.first;
      interval = c.args.interval;
      date = Some c.args.first;
      is_valid = true;
      node = c.put-node.result;
    } in
    let stands = rw c.as_slice.ensures.value at (stands_at _ t c.place_of-place.result c.place_of-place.ensures.within
    c.place_of-place.ensures.lower c.place_of-place.ensures.higher) in
    let new = ap (λ (s : Timing). timer_at s.timers t) c.self.view_is ∙ c.requires.is_new in
    let in_ = comes_in rows c.place_of-place.result r c.self.invariant.rising stands new in
    let timers : timers_of c.insert.new.rows.items ≡ with_timer (timer_of r) (timers_of rows) = ap timers_of
    c.insert.ensures.items ∙ in_.timers in
    record { made = rw timers (ap (λ (s : Timing). made_with r s) c.self.view_is) }
