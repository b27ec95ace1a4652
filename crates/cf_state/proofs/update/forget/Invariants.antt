-- The loop invariants of `update::forget`.
use Rattle.std.proofs.Common.{◌≡◌, ◌-◌, ◌≤◌, ◌++◌, drop, length, map, take}
use Rattle.std.specs.Prelude.{if◌then◌else◌, Option, None}
use Rattle.rl_base.specs.declared.registrations.Registration.{Registration}
use Rattle.rl_base.specs.Receivers.{forgets, is_there_and}
use Rattle.cf_state.proofs.update.forget.Given as goal

-- the first ones are changed, and the others are as they were
abbrev pub invariant-loop-place : goal.invariant-loop-place
invariant-loop-place l = record {
  walked : l.registrations.items ≡ map (λ (r : Option Registration). if is_there_and (forgets l.observer l.name l.filter) r then None else r)
      (take l.place l.initial.registrations.items) ++ drop l.place l.initial.registrations.items;
  within : l.place ≤ length l.initial.registrations.items;
}

abbrev pub decreases-loop-place : goal.decreases-loop-place
decreases-loop-place l = length l.initial.registrations.items - l.place
