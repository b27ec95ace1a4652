-- Deals, as the program has them and as the definitions have them.
use Rattle.std.specs.Prelude.{ℕ, Option, Some, None}
use Rattle.cf_model.specs.State.{Parts}
use Rattle.cf_model.specs.Deals as deals
use Rattle.cf_state.specs.Updates.{updated}
use Rattle.cf_deals.specs.declared.deal.Deal.{Deal}

-- a deal
abbrev pub deal_of : Parts → Deal → deals.Deal
deal_of p d = record {
  answer = d.answer;
  parts = updated d.update p;
  enters = d.enters.items;
  leaves = d.leaves.items;
  stops = d.stops;
}

-- the filter object of a registration, if a line names a filter
abbrev pub filter_in : Option ℕ → Option ℕ → Option ℕ
filter_in None object = None
filter_in (Some v) object = object
