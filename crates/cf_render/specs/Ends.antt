-- The lines at the end, by numbers for each object. This project's own.
use Rattle.std.specs.Prelude.{◌≡◌, ℕ, ◌+◌, ◌^◌, ◌<◌, Bool, List, [], ◌∷◌, ◌++◌, codes, length, map, nat_lt, count_by, slice_index_or, slice_set, false, if◌then◌else◌}
use Rattle.std.specs.Fmt.{decimal}
use Rattle.std.specs.Global.{Vec}
use Rattle.cf_ids.specs.Words.{number_word}
use Rattle.cf_syntax.specs.declared.script.ClassLine.{ClassLine}
use Rattle.cf_contents.specs.Descriptions.{class_name}
use Rattle.cf_graph.specs.declared.edge.Edge.{Edge}
use Rattle.cf_graph.specs.Owners.{is_owning}
use Rattle.cf_graph.specs.Degrees.{owns, holds}
use Rattle.cf_graph.specs.Edges.{Reference, weigh, owning, holding}
use Rattle.cf_render.specs.Rendering.{joined}
use Rattle.cf_render.specs.declared.tally.Tally.{Tally}

-- edges are those of references, in any order: of each object as many own it, and as many hold it
pub record AreOf (es : List Edge) (rs : List Reference) : Type 0 where
  pub owned : (o : ℕ) → count_by (owns o) es ≡ weigh (owning o) rs
  pub held : (o : ℕ) → count_by (holds o) es ≡ weigh (holding o) rs

-- the texts of lines
abbrev pub lines_of : List (Vec ℕ) → List (List ℕ)
lines_of ls = map (λ l. l.items) ls

-- the line of an object that is left, by its class and how many references own it and hold it
abbrev pub left_line : List ClassLine → (o class owners slots : ℕ) → List ℕ
left_line classes o class owners slots =
    joined (codes "alive" ∷ number_word o ∷ class_name classes class
    ∷ codes "owners" ∷ decimal owners ∷ codes "slots" ∷ decimal slots ∷ [])

-- the lines of the objects from a number on that are left, by their classes
abbrev pub left_from : List ClassLine → (o : ℕ) → List ℕ → (alive : ℕ → Bool) → (owners slots : ℕ → ℕ)
    → List (List ℕ)
left_from classes o [] alive owners slots = []
left_from classes o (c ∷ cs) alive owners slots =
    (if alive o then left_line classes o c (owners o) (slots o) ∷ [] else [])
    ++ left_from classes (o + 1) cs alive owners slots

-- ---- counts

-- no reference
abbrev pub nothing : Tally
nothing = record { owners = 0; slots = 0 }

-- of each object: whether it is left, and how many references own it and hold it, as lists have them
abbrev pub alive_in : List Bool → ℕ → Bool
alive_in bs o = slice_index_or bs o false

abbrev pub owners_in : List Tally → ℕ → ℕ
owners_in ts o = (slice_index_or ts o nothing).owners

abbrev pub slots_in : List Tally → ℕ → ℕ
slots_in ts o = (slice_index_or ts o nothing).slots

-- which objects are left after one more is finalised
abbrev pub without : List Bool → ℕ → List Bool
without bs o = if nat_lt o (length bs) then slice_set bs o false else bs

-- how many of these edges lead to an object, by kind
abbrev pub counted_at : ℕ → List Edge → Tally
counted_at o es = record { owners = count_by (owns o) es; slots = count_by (holds o) es }

-- one reference more
abbrev pub with_edge : Tally → Edge → Tally
with_edge t e =
    if is_owning e.owner then record { owners = t.owners + 1; slots = t.slots }
    else record { owners = t.owners; slots = t.slots + 1 }

-- the counts with one reference more, where its object was made
abbrev pub with_tally : List Tally → Edge → List Tally
with_tally ts e =
    if nat_lt e.object (length ts)
    then slice_set ts e.object (with_edge (slice_index_or ts e.object nothing) e)
    else ts

-- there is room for one more
abbrev pub CanTally : List Tally → Edge → Type 0
CanTally ts e =
    let t = slice_index_or ts e.object nothing in
    e.object < length ts → (t.owners + 1 < 2 ^ 64) × (t.slots + 1 < 2 ^ 64)
