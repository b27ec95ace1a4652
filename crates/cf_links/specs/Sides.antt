-- What is done on one side of a node, or at one end of a list. No public clause cites this module. All definitions
-- here are this project's own.
use Rattle.std.specs.Prelude.{ℕ, List, Option, None, Some}
use Rattle.cf_links.specs.declared.joins.Side.{Side}
use Rattle.cf_links.specs.declared.joins.Side.TheVariants.{Before, After}
use Rattle.cf_links.specs.declared.joins.Gap.{Gap}
use Rattle.cf_links.specs.Lists.{with_first, with_last, put_before, put_after}

-- the lists, with n at one end of the list l
abbrev pub with_end : Side → List (List ℕ) → ℕ → ℕ → List (List ℕ)
with_end Before lists l n = with_first lists l n
with_end After lists l n = with_last lists l n

-- the nodes, with n right beside `at`
abbrev pub put_beside : Side → ℕ → ℕ → List ℕ → List ℕ
put_beside Before at n = put_before at n
put_beside After at n = put_after at n

-- the gap at one end of a list with this first and this last node
abbrev pub end_gap : Side → Option ℕ → Option ℕ → Gap
end_gap Before first last = record { from = None; to = first }
end_gap After first last = record { from = last; to = None }

-- the gap beside a node with these neighbours
abbrev pub gap_beside : Side → ℕ → Option ℕ → Option ℕ → Gap
gap_beside Before at prev next = record { from = prev; to = Some at }
gap_beside After at prev next = record { from = Some at; to = next }
