-- The rows of a dictionary as pairs.
use Rattle.std.proofs.Common.{◌≡◌, ℕ, Bool, true, false, cond, List, [], ◌∷◌, ◌++◌, map, Option, Some, None, refl, sym, ap, ◌∙◌}
use Rattle.std.specs.Prelude.{is_some}
use Rattle.std.specs.Map.{lookup, lookup_entry, remove_entry, set_value}
use Rattle.std.specs.Option.{option_map}
use Rattle.std.proofs.lemmas.Map.Made.{lookup-map_values}
use Rattle.cf_types.specs.Cells.{cells_equal}
use Rattle.cf_types.specs.declared.cells.Cell.{Cell}
use Rattle.cf_types.specs.declared.callbacks.CellCallbacks.{CellCallbacks}
use Rattle.cf_basichash.specs.Tables.{pairs_with}
use Rattle.cf_dictionary.specs.Dictionaries.{set_answer}
use Rattle.cf_dictionary.specs.declared.dictionary.DictSet.TheVariants.{Added, Changed}
use Rattle.cf_contents.specs.Contents.{callbacks_of}
use Rattle.cf_contents.specs.Keys.{equal_to}
use Rattle.cf_body.specs.Pairs.{pair_in, numbers_in}

abbrev pub id_of : Cell → ℕ
id_of cell = cell.id

look : (test : Cell → Bool) (rows : List (Cell × Cell))
    → lookup test (map pair_in rows) ≡ option_map id_of (lookup test rows)
look test rows = lookup-map_values id_of test rows

entry_head : (test : Cell → Bool) (r : Cell × Cell) (rows : List (Cell × Cell)) (b : Bool)
    → lookup_entry test (map pair_in rows) ≡ option_map pair_in (lookup_entry test rows)
    → cond b (Some (pair_in r)) (lookup_entry test (map pair_in rows))
    ≡ option_map pair_in (cond b (Some r) (lookup_entry test rows))
entry_head test r rows true rest = refl
entry_head test r rows false rest = rest

entry : (test : Cell → Bool) (rows : List (Cell × Cell))
    → lookup_entry test (map pair_in rows) ≡ option_map pair_in (lookup_entry test rows)
entry test [] = refl
entry test (r ∷ rows) = entry_head test r rows (test r.0) (entry test rows)

removed_head : (test : Cell → Bool) (r : Cell × Cell) (rows : List (Cell × Cell)) (b : Bool)
    → map pair_in (remove_entry test rows) ≡ remove_entry test (map pair_in rows)
    → map pair_in (cond b rows (r ∷ remove_entry test rows))
    ≡ cond b (map pair_in rows) (pair_in r ∷ remove_entry test (map pair_in rows))
removed_head test r rows true rest = refl
removed_head test r rows false rest = ap (λ (ps : List (Cell × ℕ)). pair_in r ∷ ps) rest

removed : (test : Cell → Bool) (rows : List (Cell × Cell))
    → map pair_in (remove_entry test rows) ≡ remove_entry test (map pair_in rows)
removed test [] = refl
removed test (r ∷ rows) = removed_head test r rows (test r.0) (removed test rows)

set_head : (test : Cell → Bool) (v : Cell) (r : Cell × Cell) (rows : List (Cell × Cell)) (b : Bool)
    → map pair_in (set_value test rows v) ≡ set_value test (map pair_in rows) v.id
    → map pair_in (cond b ((r.0, v) ∷ rows) (r ∷ set_value test rows v))
    ≡ cond b ((r.0, v.id) ∷ map pair_in rows) (pair_in r ∷ set_value test (map pair_in rows) v.id)
set_head test v r rows true rest = refl
set_head test v r rows false rest = ap (λ (ps : List (Cell × ℕ)). pair_in r ∷ ps) rest

set : (test : Cell → Bool) (v : Cell) (rows : List (Cell × Cell))
    → map pair_in (set_value test rows v) ≡ set_value test (map pair_in rows) v.id
set test v [] = refl
set test v (r ∷ rows) = set_head test v r rows (test r.0) (set test v rows)

added : (k v : Cell) (rows : List (Cell × Cell))
    → map pair_in (rows ++ (k, v) ∷ []) ≡ map pair_in rows ++ (k, v.id) ∷ []
added k v [] = refl
added k v (r ∷ rows) = ap (λ (ps : List (Cell × ℕ)). pair_in r ∷ ps) (added k v rows)

with_found : (test : Cell → Bool) (k v : Cell) (rows : List (Cell × Cell)) (found : Option Cell)
    → map pair_in (cond (is_some found) (set_value test rows v) (rows ++ (k, v) ∷ []))
    ≡ cond (is_some (option_map id_of found)) (set_value test (map pair_in rows) v.id) (map pair_in rows ++ (k, v.id) ∷ [])
with_found test k v rows None = added k v rows
with_found test k v rows (Some old) = set test v rows

put : (test : Cell → Bool) (k v : Cell) (rows : List (Cell × Cell))
    → map pair_in (pairs_with test rows k v) ≡ pairs_with test (map pair_in rows) k v.id
put test k v rows =
    with_found test k v rows (lookup test rows)
    ∙ ap (λ (found : Option ℕ). cond (is_some found) (set_value test (map pair_in rows) v.id) (map pair_in rows ++ (k, v.id) ∷ [])) (sym (look test rows))

-- the same by the callbacks of a dictionary
pub got : (plain : Bool) (c : CellCallbacks) (key : Cell) (rows : List (Cell × Cell)) (found : Option Cell)
    → c ≡ callbacks_of plain
    → found ≡ lookup (cells_equal c key) rows → option_map id_of found ≡ lookup (equal_to plain key) (map pair_in rows)
got plain c key rows found tied is =
    ap (option_map id_of) (is ∙ ap (λ (d : CellCallbacks). lookup (cells_equal d key) rows) tied) ∙ sym (look (equal_to plain key) rows)

pub added_none : (key : Cell) (found : Option Cell) → Added ≡ set_answer key found → None ≡ found
added_none key None is = refl
added_none key (Some old) is = absurd cc

pub changed_some : (key back old : Cell) (found : Option Cell) → Changed back old ≡ set_answer key found
    → Some old ≡ found
changed_some key back old None is = absurd cc
changed_some key back old (Some value) is = cc

pub put_in : (plain : Bool) (c : CellCallbacks) (key value : Cell) (rows now : List (Cell × Cell))
    → c ≡ callbacks_of plain
    → now ≡ pairs_with (cells_equal c key) rows key value
    → map pair_in now ≡ pairs_with (equal_to plain key) (map pair_in rows) key value.id
put_in plain c key value rows now tied is =
    ap (map pair_in) (is ∙ ap (λ (d : CellCallbacks). pairs_with (cells_equal d key) rows key value) tied) ∙ put (equal_to plain key) key value rows

pub taken_out : (plain : Bool) (c : CellCallbacks) (key : Cell) (rows : List (Cell × Cell))
    (found : Option (Cell × Cell))
    → c ≡ callbacks_of plain
    → found ≡ lookup_entry (cells_equal c key) rows
    → option_map (λ (r : Cell × Cell). (r.0.id, r.1.id)) found
    ≡ option_map numbers_in (lookup_entry (equal_to plain key) (map pair_in rows))
taken_out plain c key rows None tied is = ap (option_map numbers_in) (ap (option_map pair_in) (is ∙ ap (λ (d : CellCallbacks). lookup_entry (cells_equal d key) rows) tied) ∙ sym (entry (equal_to plain key) rows))
taken_out plain c key rows (Some r) tied is = ap (option_map numbers_in) (ap (option_map pair_in) (is ∙ ap (λ (d : CellCallbacks). lookup_entry (cells_equal d key) rows) tied) ∙ sym (entry (equal_to plain key) rows))

pub left_in : (plain : Bool) (c : CellCallbacks) (key : Cell) (rows now : List (Cell × Cell)) → c ≡ callbacks_of plain
    → now ≡ remove_entry (cells_equal c key) rows
    → map pair_in now ≡ remove_entry (equal_to plain key) (map pair_in rows)
left_in plain c key rows now tied is =
    ap (map pair_in) (is ∙ ap (λ (d : CellCallbacks). remove_entry (cells_equal d key) rows) tied) ∙ removed (equal_to plain key) rows
