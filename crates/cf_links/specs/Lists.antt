-- What a contract sees of a `Links`. All definitions here are this project's own.
use Rattle.std.specs.Prelude.{◌+◌, ◌≡◌, ◌==◌, ℕ, Bool, not, List, [], ◌∷◌, ◌++◌, filter, Option, Some, None, is_some, IsSome, slice_get, slice_index_or, slice_set, if◌then◌else◌, refl}
use Rattle.std.specs.List.{list_any, flat_map, position}
use Rattle.std.specs.Option.{option_and_then}
use Rattle.std.specs.Coded.{Coded, code_by, coded×, coded_ℕ, coded_list, coded_option}

-- the nodes of each list that was made, in their order; the value or nothing at each node's number;
-- and how many more lists, and how many more nodes, can be made with no allocation
pub record Lists (T : Type 0) : Type 0 where
  pub lists : List (List ℕ)
  pub values : List (Option T)
  pub list_room : ℕ
  pub node_room : ℕ

-- lists are stored as the tuple of their parts
abbrev pub lists_code : {T : Type 0} → Coded T → Coded (Lists T)
lists_code {T} code =
    code_by
    (List (List ℕ) × (List (Option T) × (ℕ × ℕ)))
    (coded× (coded_list (coded_list coded_ℕ)) (coded× (coded_list (coded_option code)) (coded× coded_ℕ coded_ℕ)))
    (λ s. (s.lists, (s.values, (s.list_room, s.node_room))))
    (λ p. record { lists = p.0; values = p.1.0; list_room = p.1.1.0; node_room = p.1.1.1 })
    (λ _. refl)

-- the value of a node, if the node is there
abbrev pub value_at : {T : Type 0} → Lists T → ℕ → Option T
value_at s n = slice_index_or s.values n None

-- the nodes of a list; a list that was not made has none
abbrev pub nodes_of : List (List ℕ) → ℕ → List ℕ
nodes_of lists l = slice_index_or lists l []

-- whether n is among the nodes
abbrev pub is_in : ℕ → List ℕ → Bool
is_in n = list_any (λ m. n == m)

-- the list that n is in, if it is in one
abbrev pub list_of : List (List ℕ) → ℕ → Option ℕ
list_of lists n = position (is_in n) lists

-- the node after n among these
abbrev pub node_after : ℕ → List ℕ → Option ℕ
node_after n [] = None
node_after n (m ∷ ms) = if n == m then slice_get ms 0 else node_after n ms

-- the node before n among these, where `front` comes before them all
abbrev pub node_before : Option ℕ → ℕ → List ℕ → Option ℕ
node_before front n [] = None
node_before front n (m ∷ ms) = if n == m then front else node_before (Some m) n ms

-- the node after n in the list that it is in
abbrev pub next_of : List (List ℕ) → ℕ → Option ℕ
next_of lists n = option_and_then (λ l. node_after n (nodes_of lists l)) (list_of lists n)

-- the node before n in the list that it is in
abbrev pub prev_of : List (List ℕ) → ℕ → Option ℕ
prev_of lists n = option_and_then (λ l. node_before None n (nodes_of lists l)) (list_of lists n)

-- the value of a node that is there and in no list
abbrev pub loose_value : {T : Type 0} → Lists T → ℕ → Option T
loose_value s n = if is_some (list_of s.lists n) then None else value_at s n

-- a node is in one list at most and in one place of it, and it is there
pub record IsValid {T : Type 0} (s : Lists T) : Type 0 where
  pub one_place : (k l i j n : ℕ) → slice_get (nodes_of s.lists k) i ≡ Some n
      → slice_get (nodes_of s.lists l) j ≡ Some n → (k ≡ l) × (i ≡ j)
  pub there : (l i n : ℕ) → slice_get (nodes_of s.lists l) i ≡ Some n → IsSome (value_at s n)

-- the lists, with n as the first node of the list l
abbrev pub with_first : List (List ℕ) → ℕ → ℕ → List (List ℕ)
with_first lists l n = slice_set lists l (n ∷ nodes_of lists l)

-- the lists, with n as the last node of the list l
abbrev pub with_last : List (List ℕ) → ℕ → ℕ → List (List ℕ)
with_last lists l n = slice_set lists l (nodes_of lists l ++ n ∷ [])

-- the nodes, with n right before `at`
abbrev pub put_before : ℕ → ℕ → List ℕ → List ℕ
put_before at n = flat_map (λ m. if at == m then n ∷ m ∷ [] else m ∷ [])

-- the nodes, with n right after `at`
abbrev pub put_after : ℕ → ℕ → List ℕ → List ℕ
put_after at n = flat_map (λ m. if at == m then m ∷ n ∷ [] else m ∷ [])

-- the nodes but n
abbrev pub without : ℕ → List ℕ → List ℕ
without n = filter (λ m. not (n == m))

-- all but the node n, whose number may be given out again
abbrev pub without_node : {T : Type 0} → Lists T → ℕ → Lists T
without_node s n = record s { values = slice_set s.values n None; node_room = s.node_room + 1 }
