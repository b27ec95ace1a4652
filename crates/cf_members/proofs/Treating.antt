-- What the calls of sets, bags and heaps say by their callbacks, said by whether they are plain.
use Rattle.std.proofs.Common.{◌≡◌, ℕ, ◌<◌, Bool, true, false, cond, not, ◌==◌, List, [], ◌∷◌, ◌++◌, Option, Some, None, Result, Ok, Err, refl, sym, ap, ◌∙◌, arith}
use Rattle.std.proofs.lemmas.Bool.{false≢true, true≢false}
use Rattle.std.specs.Prelude.{◌||◌, ◌↔◌, slice_get, find, is_ok, is_some, unwrap_or, IsOk, IsNone, OnOk, OnErr}
use Rattle.std.specs.List.{list_any}
use Rattle.std.specs.Map.{lookup, lookup_entry, lookup_key}
use Rattle.std.specs.Option.{option_map}
use Rattle.cf_basichash.specs.Members.{members_set, members_with, members_without, most_of_one, rows_set, rows_with, rows_with_more, rows_without}
use Rattle.cf_callbacks.specs.Ranking.{by_rank, least, without_least}
use Rattle.cf_types.specs.Cells.{cells_equal, cell_order}
use Rattle.cf_types.specs.declared.cells.Cell.{Cell}
use Rattle.cf_types.specs.declared.callbacks.CellCallbacks.{CellCallbacks}
use Rattle.cf_set_bag.specs.Sets.{Members}
use Rattle.cf_set_bag.specs.Bags.{add_answer, remove_answer}
use Rattle.cf_set_bag.specs.declared.bag.BagAdd.{BagAdd}
use Rattle.cf_set_bag.specs.declared.bag.BagAdd.TheVariants.{More, Full}
use Rattle.cf_set_bag.specs.declared.bag.BagRemove.{BagRemove}
use Rattle.cf_set_bag.specs.declared.bag.BagRemove.TheVariants.{Less, Gone}
use Rattle.cf_set_bag.proofs.Membership.{lookup_key-entry, lookup-entry}
use Rattle.cf_binheap.specs.Heaps.{by_element}
use Rattle.cf_contents.specs.Contents.{callbacks_of, greatest, id_in_row, numbered_row, order_of, present}
use Rattle.cf_contents.specs.Deeds.{if_last, once, row_in_set, rows_with_one_more}
use Rattle.cf_contents.specs.Keys.{equal_to}
use Rattle.cf_contents.proofs.MemberLaws.{greatest-found}
use Rattle.cf_members.specs.Views.{is_first, member_gone}

abbrev pub id_of : Cell → ℕ
id_of cell = cell.id

abbrev Row : Type 0
Row = Cell × ℕ

pub err_members : (new old : Members Cell CellCallbacks) (r : Result (Unit {0}) Cell) → OnErr r (new ≡ old)
    → OnErr r (new.members ≡ old.members)
err_members new old (Ok t) h = h
err_members new old (Err e) h = ap (λ (s : Members Cell CellCallbacks). s.members) h

any_found : (test : Cell → Bool) (ms : List Cell) → list_any test ms ≡ is_some (find test ms)
any_found test [] = refl
any_found test (m ∷ ms) = by (test m) (any_found test ms)
  where
    by : (t : Bool) → list_any test ms ≡ is_some (find test ms)
        → t || list_any test ms ≡ is_some (cond t (Some m) (find test ms))
    by true rest = refl
    by false rest = rest

module _ (plain : Bool) (c : CellCallbacks) (tied : c ≡ callbacks_of plain) (x : Cell) where
  -- ---- sets

  module _ (ms : List Cell) where
    pub found : (o : Option Cell) → o ≡ find (cells_equal c x) ms
        → option_map id_of o ≡ option_map id_of (find (equal_to plain x) ms)
    found o is = ap (option_map id_of) (is ∙ ap (λ (d : CellCallbacks). find (cells_equal d x) ms) tied)

    pub found_row : (o : Option Cell) → o ≡ find (cells_equal c x) ms → option_map once o ≡ row_in_set plain ms x
    found_row o is = ap (option_map once) (is ∙ ap (λ (d : CellCallbacks). find (cells_equal d x) ms) tied)

    is_added : (test : Cell → Bool) (r : Result (Unit {0}) Cell) → (IsOk r ↔ IsNone (find test ms))
        → is_ok r ≡ not (list_any test ms)
    is_added test r when = by r (find test ms) when ∙ sym (ap not (any_found test ms))
      where
        by : (s : Result (Unit {0}) Cell) (o : Option Cell) → (IsOk s ↔ IsNone o) → is_ok s ≡ not (is_some o)
        by (Ok t) None h = refl
        by (Ok t) (Some y) h = absurd (true≢false (h.0 refl))
        by (Err e) None h = absurd (false≢true (h.1 refl))
        by (Err e) (Some y) h = refl

    members_added : (test : Cell → Bool) (now : List Cell) (r : Result (Unit {0}) Cell)
        → (IsOk r ↔ IsNone (find test ms))
        → OnOk r (now ≡ ms ++ x ∷ []) → OnErr r (now ≡ ms) → now ≡ members_with test ms x
    members_added test now r when more same = by r (list_any test ms) (is_added test r when) more same
      where
        by : (s : Result (Unit {0}) Cell) (any : Bool) → is_ok s ≡ not any → OnOk s (now ≡ ms ++ x ∷ [])
            → OnErr s (now ≡ ms)
            → now ≡ cond any ms (ms ++ x ∷ [])
        by (Ok t) true is more same = absurd cc
        by (Ok t) false is more same = more
        by (Err e) true is more same = same
        by (Err e) false is more same = absurd cc

    pub adds : (r : Result (Unit {0}) Cell) → (IsOk r ↔ IsNone (find (cells_equal c x) ms))
        → is_ok r ≡ not (list_any (equal_to plain x) ms)
    adds r when = is_added (cells_equal c x) r when ∙ ap (λ (d : CellCallbacks). not (list_any (cells_equal d x) ms)) tied

    pub with_added : (now : List Cell) (r : Result (Unit {0}) Cell) → (IsOk r ↔ IsNone (find (cells_equal c x) ms))
        → OnOk r (now ≡ ms ++ x ∷ []) → OnErr r (now ≡ ms) → now ≡ members_with (equal_to plain x) ms x
    with_added now r when more same =
        members_added (cells_equal c x) now r when more same ∙ ap (λ (d : CellCallbacks). members_with (cells_equal d x) ms x) tied

    pub with_set : (now : List Cell) → now ≡ members_set (cells_equal c x) ms x
        → now ≡ members_set (equal_to plain x) ms x
    with_set now is = is ∙ ap (λ (d : CellCallbacks). members_set (cells_equal d x) ms x) tied

    pub without : (now : List Cell) → now ≡ members_without (cells_equal c x) ms
        → now ≡ members_without (equal_to plain x) ms
    without now is = is ∙ ap (λ (d : CellCallbacks). members_without (cells_equal d x) ms) tied

  -- ---- bags

  module _ (rows : List Row) where
    row_by : (test : Cell → Bool) (member : Cell) (n : ℕ) → Some member ≡ lookup_key test rows
        → n ≡ unwrap_or (lookup test rows) 0
        → Some (member.id, n) ≡ option_map numbered_row (lookup_entry test rows)
    row_by test member n there number =
        by (lookup_entry test rows) (there ∙ lookup_key-entry test rows) (number ∙ ap (λ (o : Option ℕ). unwrap_or o 0) (lookup-entry test rows))
      where
        by : (e : Option Row) → Some member ≡ option_map (λ (r : Row). r.0) e
            → n ≡ unwrap_or (option_map (λ (r : Row). r.1) e) 0
            → Some (member.id, n) ≡ option_map numbered_row e
        by None k l = absurd cc
        by (Some r) k l = let same : member ≡ r.0 = cc in λ i. Some ((same i).id, l i)

    none_by : (test : Cell → Bool) → None ≡ lookup_key test rows
        → None ≡ option_map numbered_row (lookup_entry test rows)
    none_by test none = by (lookup_entry test rows) (none ∙ lookup_key-entry test rows)
      where
        by : (e : Option Row) → None ≡ option_map (λ (r : Row). r.0) e → None ≡ option_map numbered_row e
        by None k = refl
        by (Some r) k = absurd cc

    pub row_found : (member : Cell) (n : ℕ) → Some member ≡ lookup_key (cells_equal c x) rows
        → n ≡ unwrap_or (lookup (cells_equal c x) rows) 0
        → Some (member.id, n) ≡ option_map numbered_row (lookup_entry (equal_to plain x) rows)
    row_found member n there number =
        row_by (cells_equal c x) member n there number ∙ ap (λ (d : CellCallbacks). option_map numbered_row (lookup_entry (cells_equal d x) rows)) tied

    pub row_missing : None ≡ lookup_key (cells_equal c x) rows
        → None ≡ option_map numbered_row (lookup_entry (equal_to plain x) rows)
    row_missing none =
        none_by (cells_equal c x) none ∙ ap (λ (d : CellCallbacks). option_map numbered_row (lookup_entry (cells_equal d x) rows)) tied

    first_by : (o : Option ℕ) → is_first (add_answer x o) ≡ not (is_some o)
    first_by None = refl
    first_by (Some n) = by (n == most_of_one)
      where
        by : (full : Bool) → is_first (cond full (Full x) (More x)) ≡ false
        by true = refl
        by false = refl

    pub takes_first : (answer : BagAdd Cell) → answer ≡ add_answer x (lookup (cells_equal c x) rows)
        → is_first answer ≡ not (is_some (lookup (equal_to plain x) rows))
    takes_first answer is =
        ap is_first is ∙ first_by (lookup (cells_equal c x) rows)
        ∙ ap (λ (d : CellCallbacks). not (is_some (lookup (cells_equal d x) rows))) tied

    -- no number is the greatest that can be counted
    never_full : (test : Cell → Bool) (o : Option ℕ) → lookup test rows ≡ o → greatest rows < most_of_one
        → rows_with_more test rows x o ≡ rows_with_one_more test rows x o
    never_full test None is few = refl
    never_full test (Some n) is few =
        let below = greatest-found test n rows is in
        let apart : (n == most_of_one) ≡ false = grind arith in
        rw apart refl

    pub with_one_more : (now : List Row) → now ≡ rows_with (cells_equal c x) rows x → greatest rows < most_of_one
        → now ≡ rows_with_one_more (equal_to plain x) rows x (lookup (equal_to plain x) rows)
    with_one_more now is few =
        is ∙ never_full (cells_equal c x) (lookup (cells_equal c x) rows) refl few
        ∙ ap (λ (d : CellCallbacks). rows_with_one_more (cells_equal d x) rows x (lookup (cells_equal d x) rows)) tied

    pub replaced : (o : Option Cell) → o ≡ lookup_key (cells_equal c x) rows
        → option_map id_of o ≡ option_map id_of (lookup_key (equal_to plain x) rows)
    replaced o is = ap (option_map id_of) (is ∙ ap (λ (d : CellCallbacks). lookup_key (cells_equal d x) rows) tied)

    pub rows_put : (now : List Row) → now ≡ rows_set (cells_equal c x) rows x → now ≡ rows_set (equal_to plain x) rows x
    rows_put now is = is ∙ ap (λ (d : CellCallbacks). rows_set (cells_equal d x) rows x) tied

    gone_by : (e : Option Row) → present (member_gone (remove_answer e) ∷ []) ≡ if_last e
    gone_by None = refl
    gone_by (Some r) = by (r.1 == 1)
      where
        by : (last : Bool) → present (member_gone (cond last (Gone r.0) Less) ∷ []) ≡ cond last (r.0.id ∷ []) []
        by true = refl
        by false = refl

    pub gone : (answer : BagRemove Cell) → answer ≡ remove_answer (lookup_entry (cells_equal c x) rows)
        → present (member_gone answer ∷ []) ≡ if_last (lookup_entry (equal_to plain x) rows)
    gone answer is =
        ap (λ (a : BagRemove Cell). present (member_gone a ∷ [])) is ∙ gone_by (lookup_entry (cells_equal c x) rows)
        ∙ ap (λ (d : CellCallbacks). if_last (lookup_entry (cells_equal d x) rows)) tied

    pub rows_less : (now : List Row) → now ≡ rows_without (cells_equal c x) rows
        → now ≡ rows_without (equal_to plain x) rows
    rows_less now is = is ∙ ap (λ (d : CellCallbacks). rows_without (cells_equal d x) rows) tied

-- ---- heaps

pub id_in : (o : Option Row) → option_map id_of (option_map (λ (r : Row). r.0) o) ≡ option_map id_in_row o
id_in None = refl
id_in (Some r) = refl

module _ (plain : Bool) (c : CellCallbacks) (tied : c ≡ callbacks_of plain) (rows : List Row) where
  pub least_id : (o : Option Cell) → o ≡ option_map (λ (r : Row). r.0) (least (by_element (cell_order c)) rows)
      → option_map id_of o ≡ option_map id_in_row (least (order_of plain) rows)
  least_id o is =
      ap (option_map id_of) is ∙ id_in (least (by_element (cell_order c)) rows)
      ∙ ap (λ (d : CellCallbacks). option_map id_in_row (least (by_element (cell_order d)) rows)) tied

  pub least_gone : (now : List Row) → now ≡ without_least (by_element (cell_order c)) rows
      → now ≡ without_least (order_of plain) rows
  least_gone now is = is ∙ ap (λ (d : CellCallbacks). without_least (by_element (cell_order d)) rows) tied

  pub at_turn : (k : ℕ) (o : Option ℕ)
      → o ≡ option_map id_in_row (slice_get (by_rank (by_element (cell_order c)) rows) k)
      → o ≡ option_map id_in_row (slice_get (by_rank (order_of plain) rows) k)
  at_turn k o is = is ∙ ap (λ (d : CellCallbacks). option_map id_in_row (slice_get (by_rank (by_element (cell_order d)) rows) k)) tied

  pub id_in_slot : (slots : List Row) (k : ℕ) (o : Option Cell) → slots ≡ by_rank (order_of plain) rows
      → o ≡ option_map (λ (r : Row). r.0) (slice_get slots k)
      → option_map id_of o ≡ option_map id_in_row (slice_get (by_rank (order_of plain) rows) k)
  id_in_slot slots k o sorted is =
      ap (option_map id_of) is ∙ id_in (slice_get slots k) ∙ ap (λ (l : List Row). option_map id_in_row (slice_get l k)) sorted
