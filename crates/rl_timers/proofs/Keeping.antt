-- How the queue keeps to the table: what one row's entry is to the others, where a row is written, comes in or is
-- read.
use Rattle.std.proofs.Common.{◌≡◌, subst, ℕ, suc, ◌+◌, ◌<◌, ◌≤◌, Bool, true, false, cond, ◌⊎◌, List, [], ◌∷◌, ◌++◌, length, get_or, set, take, drop, Option, Some, None, refl, sym, ap, ◌∙◌, inl, inr, arith}
use Rattle.std.specs.List.{All, AllWithin, slice_get, filter_map, insert}
use Rattle.std.specs.Option.{option_map, is_some, IsSomeAnd}
use Rattle.std.proofs.lemmas.Bool.{false≢true, cases_Bool, cases_eq}
use Rattle.std.proofs.lemmas.List.{set_split, set-get_or, take-append-drop}
use Rattle.std.proofs.lemmas.List.Elements.{All-cons, All-head, All-tail, All-nil, filter_map-append}
use Rattle.std.proofs.lemmas.Option.{none-some, same_Some, slice_get_within, get_or_from_slice_get}
use Rattle.rl_base.proofs.Orders.{put_with, sort_with, IsInOrder, AreApart, puts_in, sort_with-middle, IsInOrder-sort_with}
use Rattle.rl_timers.specs.declared.rows.Row.{Row}
use Rattle.rl_timers.specs.Timings.{Timer, Timing, with_timer, timer_at, changed, is_valid, date_of}
use Rattle.rl_timers.specs.Queues.{QueueEntry, Waiting, comes_first}
use Rattle.rl_timers.specs.Rows.{timer_of, timers_of, row_at, IsRising, entry_of, queued, IsTable}
use Rattle.rl_timers.proofs.Tables.{AreBelow, AreAbove, StandsAt, stands_at, rising_parts, rising_whole, row_at-here, row_at-apart, timer_at_from_row, above_from, with_timer-place, changed-place}
use Rattle.rl_timers.proofs.Queueing.{comes_first-order, comes_first-apart}

-- the entries with one more, if there is one
abbrev pub with_entry : Option QueueEntry → List QueueEntry → List QueueEntry
with_entry None es = es
with_entry (Some e) es = put_with comes_first e es

pub queued_in_order : (rows : List Row) → IsInOrder comes_first (queued rows)
queued_in_order rows = IsInOrder-sort_with comes_first comes_first-order (filter_map entry_of rows)

-- the entry of a row has its number
entry_number : (r : Row) (e : QueueEntry) → entry_of r ≡ Some e → e.number ≡ r.number
entry_number r e is = by_parts r.is_valid r.date is
  where
    by_parts : (valid : Bool) (date : Option ℕ) → ◌≡◌ {A = Option QueueEntry}
        (cond valid (option_map (λ d. record { node = r.node; date = d; number = r.number }) date) None) (Some e)
        → e.number ≡ r.number
    by_parts false date is = absurd (none-some e is)
    by_parts true None is = absurd (none-some e is)
    by_parts true (Some d) is = ap (λ (x : QueueEntry). x.number) (sym (same_Some _ e is))

-- entries of rows with other numbers are apart
apart_entries : (rows : List Row) (e : QueueEntry) → All (λ r. r.number ≡ e.number → ⊥) rows
    → All (λ x. AreApart comes_first x e) (filter_map entry_of rows)
apart_entries [] e others = All-nil (λ x. AreApart comes_first x e)
apart_entries (r ∷ rs) e others =
    with_first (entry_of r) refl (apart_entries rs e (All-tail (λ s. s.number ≡ e.number → ⊥) r rs others))
  where
    with_first : (o : Option QueueEntry) → entry_of r ≡ o
        → All (λ x. AreApart comes_first x e) (filter_map entry_of rs)
        → All (λ x. AreApart comes_first x e) (filter_map entry_of (r ∷ rs))
    with_first None is rest = rw is rest
    with_first (Some x) is rest =
        let differ = All-head (λ s. s.number ≡ e.number → ⊥) r rs others in
        rw is (All-cons (λ y. AreApart comes_first y e) x (filter_map entry_of rs)
        (comes_first-apart x e (λ same. differ (sym (entry_number r x is) ∙ same))) rest)

-- the queue, as one row and the others make it
pub queued-middle : (front back : List Row) (r : Row) → AreBelow r.number front → queued (front ++ r ∷ back)
    ≡ with_entry (entry_of r) (queued (front ++ back))
queued-middle front back r below =
    ap (sort_with comes_first) (filter_map-append entry_of front (r ∷ back)) ∙ with_one (entry_of r) refl
    ∙ ap (λ l. with_entry (entry_of r) (sort_with comes_first l)) (sym (filter_map-append entry_of front back))
  where
    with_one : (o : Option QueueEntry) → entry_of r ≡ o → sort_with comes_first
        (filter_map entry_of front ++ filter_map entry_of (r ∷ back))
        ≡ with_entry (entry_of r) (sort_with comes_first (filter_map entry_of front ++ filter_map entry_of back))
    with_one None is = rw is refl
    with_one (Some e) is =
        let number = entry_number r e is in
        let others : All (λ s. s.number ≡ e.number → ⊥) front = λ k d within same. omega (arith, below k d within) in
        rw is (sort_with-middle comes_first comes_first-order (filter_map entry_of front) e (filter_map entry_of back)
        (apart_entries front e others))

-- ---- a row that comes in

pub record ComesIn (rows : List Row) (p : ℕ) (r : Row) : Type 0 where
  pub rising : IsRising (insert rows p r)
  pub timers : timers_of (insert rows p r) ≡ with_timer (timer_of r) (timers_of rows)
  pub listed : queued (insert rows p r) ≡ with_entry (entry_of r) (queued rows)

pub comes_in : (rows : List Row) (p : ℕ) (r : Row) → IsRising rows → StandsAt rows r.number p
    → timer_at (timers_of rows) r.number ≡ None → ComesIn rows p r
comes_in rows p r rising stands new =
    let front = take p rows in
    let back = drop p rows in
    let whole : front ++ back ≡ rows = take-append-drop p rows in
    let cut = rising_parts front back (rw whole rising) in
    let above : AreAbove r.number back = above_from rows r.number p rising stands (λ s found same.
    let there = row_at-here rows r.number p s stands found same in
    none-some (timer_of s) (sym new ∙ timer_at_from_row rows r.number ∙ ap (option_map timer_of) there)) in
    record {
      rising = rising_whole front (r ∷ back) cut.0 (above, cut.1)
          (λ k d within. All-cons (λ s. (get_or front k d).number < s.number) r back (stands.below k d within)
          (cut.2 k d within));
      timers = sym (with_timer-place front back r stands.below above)
          ∙ ap (λ l. with_timer (timer_of r) (timers_of l)) whole;
      listed = queued-middle front back r stands.below ∙ ap (λ l. with_entry (entry_of r) (queued l)) whole;
    }

-- ---- a row that is written

-- the rows but the one at a place
abbrev pub others : List Row → ℕ → List Row
others rows p = take p rows ++ drop (suc p) rows

pub record IsWritten (rows : List Row) (p : ℕ) (r s : Row) : Type 0 where
  pub rising : IsRising (set rows p s)
  pub timers : (change : Timer → Timer) → change (timer_of r) ≡ timer_of s → timers_of (set rows p s)
      ≡ changed r.number change (timers_of rows)
  pub was_listed : queued rows ≡ with_entry (entry_of r) (queued (others rows p))
  pub listed : queued (set rows p s) ≡ with_entry (entry_of s) (queued (others rows p))

pub is_written : (rows : List Row) (p : ℕ) (r s : Row) → IsRising rows → slice_get rows p ≡ Some r → s.number
    ≡ r.number → IsWritten rows p r s
is_written rows p r s rising found same =
    let within = slice_get_within rows p r found in
    let front = take p rows in
    let back = drop (suc p) rows in
    let here : get_or rows p r ≡ r = get_or_from_slice_get rows p r r found in
    let whole : rows ≡ front ++ r ∷ back = sym (set-get_or rows p r) ∙ ap (set rows p) here
    ∙ set_split rows p r within in
    let written : set rows p s ≡ front ++ s ∷ back = set_split rows p s within in
    let cut = rising_parts front (r ∷ back) (rw (← whole) rising) in
    let above : AreAbove r.number back = cut.1.0 in
    let below : AreBelow r.number front = λ k d short. All-head (λ q. (get_or front k d).number < q.number) r back
    (cut.2 k d short) in
    let below_s : AreBelow s.number front = rw same below in
    record {
      rising = rw written (rising_whole front (s ∷ back) cut.0 (rw same above, cut.1.1) (λ k d short.
          All-cons (λ q. (get_or front k d).number < q.number) s back (below_s k d short)
          (All-tail (λ q. (get_or front k d).number < q.number) r back (cut.2 k d short))));
      timers = λ change is. ap timers_of written ∙ sym (changed-place front back r s change below above is)
          ∙ ap (λ l. changed r.number change (timers_of l)) (sym whole);
      was_listed = ap queued whole ∙ queued-middle front back r below;
      listed = ap queued written ∙ queued-middle front back s below_s;
    }

-- ---- a row that is read

pub valid_none : (rows : List Row) (t : ℕ) → row_at rows t ≡ None → is_valid (timers_of rows) t ≡ false
valid_none rows t none = rw (timer_at_from_row rows t, none) refl

pub valid_here : (rows : List Row) (t : ℕ) (r : Row) → row_at rows t ≡ Some r
    → (is_valid (timers_of rows) t ≡ r.is_valid) × (date_of (timers_of rows) t ≡ r.date)
valid_here rows t r here = (rw (timer_at_from_row rows t, here) refl, rw (timer_at_from_row rows t, here) refl)

pub record HasValid (rows : List Row) (t p : ℕ) : Type 0 where
  pub row : Row
  pub found : slice_get rows p ≡ Some row
  pub number : row.number ≡ t
  pub valid : row.is_valid ≡ true
  pub date : date_of (timers_of rows) t ≡ row.date

pub has_valid : (rows : List Row) (t p : ℕ) → IsRising rows → StandsAt rows t p → is_valid (timers_of rows) t ≡ true
    → HasValid rows t p
has_valid rows t p rising stands valid = by_row (slice_get rows p) refl
  where
    refuted : ((r : Row) → slice_get rows p ≡ Some r → r.number ≡ t → ⊥) → HasValid rows t p
    refuted apart = absurd (false≢true (sym (valid_none rows t (row_at-apart rows t p rising stands apart)) ∙ valid))

    by_row : (o : Option Row) → slice_get rows p ≡ o → HasValid rows t p
    by_row None none = refuted (λ r found same. none-some r (sym none ∙ found))
    by_row (Some r) found =
        elim (cases_eq r.number t) [
          | inl same ↦ (
              let here = valid_here rows t r (row_at-here rows t p r stands found same) in
              record { row = r; found = found; number = same; valid = sym here.0 ∙ valid; date = here.1 }
              )
          | inr differs ↦ refuted (λ s there same. differs (ap (λ (q : Row). q.number)
              (same_Some r s (sym found ∙ there)) ∙ same))
        ]

-- ---- a row whose entry goes out of the queue

-- what the queue leaves where it takes out the entry of a node
abbrev pub TakesOut : Waiting → Waiting → ℕ → Type 0
TakesOut old new node = (e : QueueEntry) (front back : List QueueEntry) → e.node ≡ node → old.entries ≡ front ++ e ∷ back → new
    ≡ record { entries = front ++ back; room = old.room + 1 }

pub left_without : (rows : List Row) (spare : ℕ) (old new : Waiting) (room p : ℕ) (r : Row) (date : ℕ)
    → IsTable rows spare old room → slice_get rows p ≡ Some r → r.is_valid ≡ true → r.date ≡ Some date
    → TakesOut old new r.node → new ≡ record { entries = queued (others rows p); room = old.room + 1 }
left_without rows spare old new room p r date table found valid dated takes =
    let e : QueueEntry = record { node = r.node; date = date; number = r.number } in
    let entry : entry_of r ≡ Some e = rw (valid, dated) refl in
    let was = (is_written rows p r r table.rising found refl).was_listed in
    let rest = queued (others rows p) in
    let puts = puts_in comes_first e rest in
    let split : old.entries ≡ puts.front ++ e ∷ puts.back = table.listed ∙ was ∙ ap (λ o. with_entry o rest) entry
    ∙ puts.after in
    takes e puts.front puts.back refl split ∙ ap (λ l. left_at l old) (sym puts.before)
  where
    left_at : List QueueEntry → Waiting → Waiting
    left_at l w = record { entries = l; room = w.room + 1 }

pub some_date : (o : Option ℕ) → is_some o ≡ true → (date : ℕ) × (o ≡ Some date)
some_date None there = absurd (false≢true there)
some_date (Some date) there = (date, refl)

pub no_date : (o : Option ℕ) → is_some o ≡ false → o ≡ None
no_date None empty = refl
no_date (Some date) empty = absurd (false≢true (sym empty))

-- the table after a row is written, and its entry is put in again
pub table_after : (rows : List Row) (spare : ℕ) (old new : Waiting) (room p : ℕ) (r s : Row)
    → IsTable rows spare old room → slice_get rows p ≡ Some r → s.number ≡ r.number → new.entries
    ≡ with_entry (entry_of s) (queued (others rows p)) → old.room ≤ new.room → IsTable (set rows p s) spare new room
table_after rows spare old new room p r s table found same entries kept =
    let written = is_written rows p r s table.rising found same in
    record {
      rising = written.rising;
      listed = entries ∙ sym written.listed;
      for_rows = table.for_rows;
      for_nodes = omega (arith, table.for_nodes);
    }

pub timers_after : (rows : List Row) (spare : ℕ) (old : Waiting) (room t p : ℕ) (r s : Row) (change : Timer → Timer)
    → IsTable rows spare old room → slice_get rows p ≡ Some r → r.number ≡ t → s.number ≡ r.number
    → change (timer_of r) ≡ timer_of s → timers_of (set rows p s) ≡ changed t change (timers_of rows)
timers_after rows spare old room t p r s change table found number same is =
    (is_written rows p r s table.rising found same).timers change is
    ∙ ap (λ k. changed k change (timers_of rows)) number

-- what is asked of a valid timer, and its place, as contracts see them
pub record IsAsked (rows : List Row) (t p : ℕ) : Type 0 where
  pub stands : StandsAt rows t p
  pub valid : is_valid (timers_of rows) t ≡ true

pub is_asked : (rows seen : List Row) (room t p : ℕ) (w : Timing)
    → ◌≡◌ {A = Timing} (record { timers = timers_of rows; room = room }) w → seen ≡ rows → p ≤ length seen
    → AllWithin (λ r. r.number < t) seen 0 p → AllWithin (λ r. t ≤ r.number) seen p (length seen)
    → is_valid w.timers t ≡ true → IsAsked rows t p
is_asked rows seen room t p w view same within lower higher valid =
    let timers : timers_of rows ≡ w.timers = ap (λ (s : Timing). s.timers) view in
    let P : List Row → Type 0 = λ l. StandsAt l t p in
    record {
      stands = subst P same (stands_at seen t p within lower higher);
      valid = ap (λ l. is_valid l t) timers ∙ valid;
    }

pub due_seen : (rows : List Row) (room t now : ℕ) (w : Timing)
    → ◌≡◌ {A = Timing} (record { timers = timers_of rows; room = room }) w
    → IsSomeAnd (date_of w.timers t) (λ date. date ≤ now) → IsSomeAnd (date_of (timers_of rows) t) (λ date. date ≤ now)
due_seen rows room t now w view due =
    let timers : timers_of rows ≡ w.timers = ap (λ (s : Timing). s.timers) view in rw timers due

-- the place of a valid timer is one of a row
pub place_within : (rows : List Row) (t p : ℕ) → IsRising rows → IsAsked rows t p → p < length rows
place_within rows t p rising asked =
    let has = has_valid rows t p rising asked.stands asked.valid in slice_get_within rows p has.row has.found

-- the row that is read at its place
pub record IsReadAt (rows : List Row) (t p : ℕ) (r : Row) : Type 0 where
  pub found : slice_get rows p ≡ Some r
  pub number : r.number ≡ t
  pub valid : r.is_valid ≡ true
  pub date : date_of (timers_of rows) t ≡ r.date

pub is_read_at : (rows : List Row) (t p : ℕ) (r : Row) → IsRising rows → IsAsked rows t p → r ≡ get_or rows p r
    → IsReadAt rows t p r
is_read_at rows t p r rising asked read =
    let has = has_valid rows t p rising asked.stands asked.valid in
    let same : r ≡ has.row = read ∙ get_or_from_slice_get rows p has.row r has.found in
    record {
      found = has.found ∙ ap Some (sym same);
      number = ap (λ (q : Row). q.number) same ∙ has.number;
      valid = ap (λ (q : Row). q.is_valid) same ∙ has.valid;
      date = has.date ∙ ap (λ (q : Row). q.date) (sym same);
    }

-- a date that has come is one
pub date_there : (o : Option ℕ) (now : ℕ) → IsSomeAnd o (λ date. date ≤ now) → (date : ℕ) × (o ≡ Some date)
date_there None now due = absurd due
date_there (Some date) now due = (date, refl)

-- ---- what the queue has after a row is written

pub entry_put : (es rest : List QueueEntry) (s : Row) (date t : ℕ) → es ≡ rest → s.is_valid ≡ true → s.date ≡ Some date
    → s.number ≡ t → put_with comes_first (record { node = s.node; date = date; number = t }) es
    ≡ with_entry (entry_of s) rest
entry_put es rest s date t same valid dated number =
    let is : entry_of s ≡ Some (record { node = s.node; date = date; number = t }) = rw (valid, dated, number) refl in
    rw (is, same) refl

-- nothing comes in for a timer that is invalid or has no date
pub no_entry : (s : Row) → (s.is_valid ≡ false) ⊎ (s.date ≡ None) → entry_of s ≡ None
no_entry s (inl invalid) = rw invalid refl
no_entry s (inr never) =
    elim (cases_Bool s.is_valid) [
      | inl valid ↦ rw (valid, never) refl
      | inr invalid ↦ rw invalid refl
    ]

-- ---- what contracts see

pub changed_view : (rows after : List Row) (room t : ℕ) (change : Timer → Timer) (w : Timing)
    → ◌≡◌ {A = Timing} (record { timers = timers_of rows; room = room }) w → timers_of after
    ≡ changed t change (timers_of rows) → ◌≡◌ {A = Timing} (record { timers = timers_of after; room = room })
    (record w { timers = changed t change w.timers })
changed_view rows after room t change w view timers = ap (λ l. seen l) timers ∙ ap (λ (v : Timing). after_change v) view
  where
    seen : List Timer → Timing
    seen l = record { timers = l; room = room }

    after_change : Timing → Timing
    after_change v = record v { timers = changed t change v.timers }

-- where there was no entry, and none comes in
pub entries_stay : (rows : List Row) (spare : ℕ) (queue : Waiting) (room p : ℕ) (r s : Row)
    → IsTable rows spare queue room → slice_get rows p ≡ Some r → entry_of r ≡ None → entry_of s ≡ None
    → queue.entries ≡ with_entry (entry_of s) (queued (others rows p))
entries_stay rows spare queue room p r s table found none also =
    let rest = queued (others rows p) in
    table.listed ∙ (is_written rows p r r table.rising found refl).was_listed
    ∙ ap (λ o. with_entry o rest) (none ∙ sym also)
