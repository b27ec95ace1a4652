-- Changes of sets, bags and heaps, and the slots at their places.
use Rattle.std.proofs.Common.{arith, ◌≡◌, ℕ, ◌+◌, ◌<◌, ◌^◌, Bool, true, false, cond, not, List, [], ◌∷◌, ◌++◌, Option, Some, None, refl, sym, ap, ◌∙◌, slice_get}
use Rattle.std.specs.Prelude.{find, is_some, max}
use Rattle.std.specs.List.{list_any}
use Rattle.std.specs.Map.{lookup, lookup_entry, lookup_key}
use Rattle.std.specs.Option.{option_map, option_to_list}
use Rattle.cf_basichash.specs.Members.{members_set, members_with, members_without, most_of_one, rows_set, rows_without}
use Rattle.cf_callbacks.specs.Ranking.{by_rank, least, without_least}
use Rattle.cf_types.specs.declared.cells.Cell.{Cell}
use Rattle.cf_contents.specs.Contents.{bag_content, heap_content, set_content, greatest, id_in_row, ids_of, least_of, member_limit, numbered_row, order_of, present, row_ids, unless_plain}
use Rattle.cf_contents.specs.Deeds.{if_last, rows_with_one_more, unless_found}
use Rattle.cf_contents.specs.Keys.{equal_to}
use Rattle.cf_body.specs.Changes.{DoneTo}
use Rattle.cf_body.specs.declared.change.BodyChange.TheVariants.{AddMember, PutMember, RemoveMember, RemoveLeast}
use Rattle.cf_body.specs.declared.change.Moved.{Moved}
use Rattle.cf_body.proofs.Placing.{ids_at, row_ids_at, field_present}

abbrev Row : Type 0
Row = Cell × ℕ

abbrev id_of : Cell → ℕ
id_of cell = cell.id

-- ---- slots

pub set_at : (plain : Bool) (ms : List Cell) (k : ℕ) (o : Option ℕ) → plain ≡ false
    → o ≡ option_map (λ (m : Cell). m.id) (slice_get ms k)
    → o ≡ slice_get (unless_plain plain (ids_of ms)) k
set_at true ms k o typed is = absurd cc
set_at false ms k o typed is = is ∙ sym (ids_at ms k)

in_row : (e : Option Row) → option_map (λ (r : ℕ × ℕ). r.0) (option_map numbered_row e) ≡ option_map id_in_row e
in_row None = refl
in_row (Some r) = refl

pub bag_at : (plain : Bool) (rows : List Row) (k : ℕ) (o : Option (ℕ × ℕ)) → plain ≡ false
    → o ≡ option_map numbered_row (slice_get rows k)
    → option_map (λ (r : ℕ × ℕ). r.0) o ≡ slice_get (unless_plain plain (row_ids rows)) k
bag_at true rows k o typed is = absurd cc
bag_at false rows k o typed is = ap (option_map (λ (r : ℕ × ℕ). r.0)) is ∙ in_row (slice_get rows k) ∙ sym (row_ids_at rows k)

pub heap_at : (plain : Bool) (rows : List Row) (k : ℕ) (o : Option ℕ) → plain ≡ false
    → o ≡ option_map id_in_row (slice_get (by_rank (order_of plain) rows) k)
    → o ≡ slice_get (unless_plain plain (row_ids (by_rank (order_of plain) rows))) k
heap_at true rows k o typed is = absurd cc
heap_at false rows k o typed is = is ∙ sym (row_ids_at (by_rank (order_of false) rows) k)

-- ---- what is moved, unless a collection is plain

moved_by : (plain p q : Bool) → p ≡ plain → q ≡ p → (os some now : List ℕ) → os ≡ unless_plain q some → some ≡ now
    → os ≡ unless_plain plain now
moved_by plain p q same read os some now is named = is ∙ (λ i. unless_plain ((read ∙ same) i) (named i))

moved_none : (q : Bool) (os : List ℕ) → os ≡ unless_plain q [] → os ≡ []
moved_none true os is = is
moved_none false os is = is

found_or : (added any : Bool) (x : Cell) → added ≡ not any → cond added (x.id ∷ []) [] ≡ unless_found any x
found_or added true x is = rw is refl
found_or added false x is = rw is refl

one_of : (o : Option Cell) → present (option_map id_of o ∷ None ∷ []) ≡ ids_of (option_to_list o)
one_of None = refl
one_of (Some x) = refl

row_of : (o : Option Row) → present (option_map id_in_row o ∷ None ∷ []) ≡ row_ids (option_to_list o)
row_of None = refl
row_of (Some r) = refl

module _ (plain p q : Bool) (same : p ≡ plain) (read : q ≡ p) (x : Cell) (moved : Moved) where
  pub set_added : (ms now : List Cell) (added : Bool) (took : Option ℕ) → now ≡ members_with (equal_to plain x) ms x
      → added ≡ not (list_any (equal_to plain x) ms) → present (took ∷ None ∷ []) ≡ cond added (x.id ∷ []) []
      → present moved.took ≡ unless_plain q (present (took ∷ None ∷ [])) → present moved.gave ≡ unless_plain q []
      → DoneTo (AddMember x) (set_content plain ms) (set_content p now) moved
  set_added ms now added took is new named in' out = record {
    content = λ i. set_content (same i) (is i);
    took = moved_by plain p q same read _ _ _ in' (named ∙ found_or added (list_any (equal_to plain x) ms) x new);
    gave = moved_none q _ out;
  }

  pub set_put : (ms now : List Cell) (old : Option ℕ) → now ≡ members_set (equal_to plain x) ms x
      → old ≡ option_map (λ (m : Cell). m.id) (find (equal_to plain x) ms)
      → present moved.took ≡ unless_plain q (x.id ∷ [])
      → present moved.gave ≡ unless_plain q (present (old ∷ None ∷ []))
      → DoneTo (PutMember x) (set_content plain ms) (set_content p now) moved
  set_put ms now old is was in' out = record {
    content = λ i. set_content (same i) (is i);
    took = moved_by plain p q same read _ _ _ in' refl;
    gave = moved_by plain p q same read _ _ _ out
        (ap (λ (o : Option ℕ). present (o ∷ None ∷ [])) was ∙ one_of (find (equal_to plain x) ms));
  }

  pub set_removed : (ms now : List Cell) (old : Option ℕ) → now ≡ members_without (equal_to plain x) ms
      → old ≡ option_map (λ (m : Cell). m.id) (find (equal_to plain x) ms)
      → present moved.took ≡ unless_plain q [] → present moved.gave ≡ unless_plain q (present (old ∷ None ∷ []))
      → DoneTo (RemoveMember x) (set_content plain ms) (set_content p now) moved
  set_removed ms now old is was in' out = record {
    content = λ i. set_content (same i) (is i);
    took = moved_none q _ in';
    gave = moved_by plain p q same read _ _ _ out
        (ap (λ (o : Option ℕ). present (o ∷ None ∷ [])) was ∙ one_of (find (equal_to plain x) ms));
  }

  pub bag_added : (rows now : List Row) (added : Bool) (took : Option ℕ)
      → now ≡ rows_with_one_more (equal_to plain x) rows x (lookup (equal_to plain x) rows)
      → added ≡ not (is_some (lookup (equal_to plain x) rows)) → present (took ∷ None ∷ []) ≡ cond added (x.id ∷ []) []
      → present moved.took ≡ unless_plain q (present (took ∷ None ∷ [])) → present moved.gave ≡ unless_plain q []
      → DoneTo (AddMember x) (bag_content plain rows) (bag_content p now) moved
  bag_added rows now added took is new named in' out = record {
    content = λ i. bag_content (same i) (is i);
    took = moved_by plain p q same read _ _ _ in' (named ∙ found_or added (is_some (lookup (equal_to plain x) rows)) x new);
    gave = moved_none q _ out;
  }

  pub bag_put : (rows now : List Row) (old : Option ℕ) → now ≡ rows_set (equal_to plain x) rows x
      → old ≡ option_map (λ (m : Cell). m.id) (lookup_key (equal_to plain x) rows)
      → present moved.took ≡ unless_plain q (x.id ∷ [])
      → present moved.gave ≡ unless_plain q (present (old ∷ None ∷ []))
      → DoneTo (PutMember x) (bag_content plain rows) (bag_content p now) moved
  bag_put rows now old is was in' out = record {
    content = λ i. bag_content (same i) (is i);
    took = moved_by plain p q same read _ _ _ in' refl;
    gave = moved_by plain p q same read _ _ _ out
        (ap (λ (o : Option ℕ). present (o ∷ None ∷ [])) was ∙ one_of (lookup_key (equal_to plain x) rows));
  }

  pub bag_removed : (rows now : List Row) (old : Option ℕ) → now ≡ rows_without (equal_to plain x) rows
      → present (old ∷ []) ≡ if_last (lookup_entry (equal_to plain x) rows)
      → present moved.took ≡ unless_plain q [] → present moved.gave ≡ unless_plain q (present (old ∷ None ∷ []))
      → DoneTo (RemoveMember x) (bag_content plain rows) (bag_content p now) moved
  bag_removed rows now old is was in' out = record {
    content = λ i. bag_content (same i) (is i);
    took = moved_none q _ in';
    gave = moved_by plain p q same read _ _ _ out (field_present old ∙ was);
  }

  pub heap_added : (adds more : ℕ) (rows now : List Row) → more ≡ adds + 1 → now ≡ rows ++ (x, adds) ∷ []
      → present moved.took ≡ unless_plain q (x.id ∷ []) → present moved.gave ≡ unless_plain q []
      → DoneTo (AddMember x) (heap_content plain adds rows) (heap_content p more now) moved
  heap_added adds more rows now counted is in' out = record {
    content = λ i. heap_content (same i) (counted i) (is i);
    took = moved_by plain p q same read _ _ _ in' refl;
    gave = moved_none q _ out;
  }

pub heap_removed : (plain p q : Bool) → p ≡ plain → q ≡ p
    → (moved : Moved) (adds same : ℕ) (rows now : List Row) (old : Option ℕ) → same ≡ adds
    → now ≡ without_least (order_of plain) rows → old ≡ least_of plain rows
    → present moved.took ≡ unless_plain q [] → present moved.gave ≡ unless_plain q (present (old ∷ None ∷ []))
    → DoneTo RemoveLeast (heap_content plain adds rows) (heap_content p same now) moved
heap_removed plain p q kept read moved adds same rows now old counted is was in' out = record {
  content = λ i. heap_content (kept i) (counted i) (is i);
  took = moved_none q _ in';
  gave = moved_by plain p q kept read _ _ _ out
      (ap (λ (o : Option ℕ). present (o ∷ None ∷ [])) was ∙ row_of (least (order_of plain) rows));
}

-- ---- what stays below the limit can be counted

pub few_of_one : (most rows : ℕ) → max rows most + 1 < member_limit → most < most_of_one
few_of_one most rows few = omega arith

pub few_adds : (adds rows : ℕ) → max rows adds + 1 < member_limit → adds + 1 < 2 ^ 64
few_adds adds rows few = omega arith
