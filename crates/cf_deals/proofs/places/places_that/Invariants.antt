-- The loop invariants of `places::places_that`.
use Rattle.std.proofs.Common.{◌≡◌, take, not}
use Rattle.std.specs.Prelude.{filter, if◌then◌else◌}
use Rattle.rl_base.specs.Modes.{places}
use Rattle.cf_model.specs.Deals.{held_at, holds_at}
use Rattle.cf_deals.proofs.places.places_that.Given as goal

-- those of the modes that were passed over are listed
abbrev pub invariant-loop-mode : goal.invariant-loop-mode
invariant-loop-mode l =
    l.references.items ≡ held_at l.thread l.item
    (filter (λ p. if l.holding then holds_at l.thread l.item l.edges p else not (holds_at l.thread l.item l.edges p))
    (places (take l.mode-index l.modes)))
