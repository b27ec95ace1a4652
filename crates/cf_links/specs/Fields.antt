-- How a `Links` keeps its lists. No public clause cites this module. All definitions here are this
-- project's own.
use Rattle.std.specs.Prelude.{◌≡◌, ◌≢◌, ◌-◌, ◌<◌, ℕ, List, map, length, Option, None, Some, IsSome, slice_get, slice_index_or, Vec, vec_len, vec_capacity}
use Rattle.std.specs.Option.{ForSome, option_and_then, option_map}
use Rattle.slab.specs.Slab.{Slab, get, slab_len}
use Rattle.cf_links.specs.declared.joins.NodeRecord.{NodeRecord}
use Rattle.cf_links.specs.declared.joins.Ends.{Ends}
use Rattle.cf_links.specs.declared.joins.Gap.{Gap}
use Rattle.cf_links.specs.Lists.{Lists}
use Rattle.cf_links.specs.Chain.{Web, AreLists, walk}

module _ {T : Type 0} where
  -- where the links of the nodes and of the lists lead
  abbrev pub web_of : Slab (NodeRecord T) → List Ends → Web
  web_of nodes ends = record {
    first = λ l. option_and_then (λ e. e.first) (slice_get ends l);
    last = λ l. option_and_then (λ e. e.last) (slice_get ends l);
    next = λ n. option_and_then (λ e. e.next) (get nodes n);
    prev = λ n. option_and_then (λ e. e.prev) (get nodes n);
    list = λ n. option_and_then (λ e. e.list) (get nodes n);
  }

  -- the nodes of each list, as the links onwards give them
  abbrev pub lists_of : Slab (NodeRecord T) → List Ends → List (List ℕ)
  lists_of nodes ends = map (λ e. walk (length nodes.slots) (web_of nodes ends).next e.first) ends

  -- the value or nothing at each node's number
  abbrev pub values_of : Slab (NodeRecord T) → List (Option T)
  values_of nodes = map (option_map (λ e. e.value)) nodes.slots

  -- what a contract sees
  abbrev pub view_of : {Z : Type 0} → Slab (NodeRecord T) → Vec Ends Z → Lists T
  view_of nodes ends = record {
    lists = lists_of nodes ends.items;
    values = values_of nodes;
    list_room = vec_capacity ends - vec_len ends;
    node_room = nodes.capacity - slab_len nodes;
  }

  -- the links make the lists that the links onwards give
  abbrev pub IsSound : Slab (NodeRecord T) → List Ends → Type 0
  IsSound nodes ends = AreLists (web_of nodes ends) (lists_of nodes ends)

  -- the same nodes are there with the same values, and there is as much room
  pub record SameNodes (old new : Slab (NodeRecord T)) : Type 0 where
    pub values : values_of new ≡ values_of old
    pub len : slab_len new ≡ slab_len old
    pub capacity : new.capacity ≡ old.capacity

  -- the node is there
  abbrev pub IsThere : Slab (NodeRecord T) → ℕ → Type 0
  IsThere nodes n = IsSome (slice_index_or (values_of nodes) n None)

  -- n can stand in this gap of the list l: the nodes are there, n is neither of its neighbours, and the list was made
  pub record CanStand (nodes : Slab (NodeRecord T)) (ends : List Ends) (l n : ℕ) (gap : Gap) : Type 0 where
    pub there : IsThere nodes n
    pub from_there : ForSome gap.from (λ b. IsThere nodes b)
    pub to_there : ForSome gap.to (λ b. IsThere nodes b)
    pub before : gap.from ≢ Some n
    pub after : gap.to ≢ Some n
    pub made : l < length ends
