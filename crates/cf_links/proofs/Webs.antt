-- Lemmas on links that make lists, and on what an edit of the links makes of them.
use Rattle.std.proofs.Common.{◌≡◌, ◌≢◌, ◌⊎◌, ℕ, ◌<◌, Bool, true, false, eqb, List, [], ◌∷◌, ◌++◌, map, set, length, reverse, get_or, Option, Some, None, refl, sym, subst, ap, ◌∙◌, arith, inl, inr}
use Rattle.std.specs.List.{slice_get}
use Rattle.std.specs.Option.{is_none}
use Rattle.std.proofs.lemmas.Bool.{cases_eq, cases_lt, cases_order, cases_Bool, eqb-true, eqb-false, eq-eqb, false≢true, or_right}
use Rattle.std.proofs.lemmas.List.{get_or-set_same, get_or-set_other, length-map, length-set, length-append, get_or_append_left, get_or_push}
use Rattle.std.proofs.lemmas.Option.{slice_get_within, get_or_from_slice_get}
use Rattle.std.proofs.lemmas.Map.Keys.{apart_from_distinct, any_passes_from_place}
use Rattle.std.proofs.lemmas.List.Folds.{list_any-append}
use Rattle.cf_links.specs.declared.joins.Side.{Side}
use Rattle.cf_links.specs.declared.joins.Side.TheVariants.{Before, After}
use Rattle.cf_links.specs.Sides.{with_end, put_beside, end_gap, gap_beside}
use Rattle.cf_links.proofs.Turned.{AreLists-mirror, Puts-mirror, first_by_turning, after_by_turning}
use Rattle.cf_links.specs.Lists.{is_in, put_before, without, nodes_of, list_of, next_of, prev_of}
use Rattle.cf_links.specs.Chain.{Web, prev_from, GoesOn, AreLists, Puts, Removes, mirror}
use Rattle.cf_links.proofs.Edits.{nodes_of-map, made_from_in, put_before_none, without_none, is_in-put_before, is_in-without, list_of_is, list_of_none, prev_of_other}
use Rattle.cf_links.proofs.Chains.{distinct, list_in, node_after_is, node_before_is, put_where, FindsGap, is_some_of, different, put_goes, put_where_before, put_where_back, remove_goes, other_goes, prev_marked, next_marked, first_marked, last_marked, joined_before, joined_after, joined_last, finds_by_to}

-- what an optional number is
cases_Option : (o : Option ℕ) → (o ≡ None) ⊎ ((n : ℕ) × (o ≡ Some n))
cases_Option None = inl refl
cases_Option (Some n) = inr (n, refl)

other_mark : (w : Web) (n k l : ℕ) → w.list n ≡ Some l → k ≢ l → w.list n ≢ Some k
other_mark w n k l mark apart same = let both : Some l ≡ Some k = sym mark ∙ same in let here : l ≡ k = cc in
    apart (sym here)

-- a list that was made goes on from its head, and any other has no nodes
going_in : (w : Web) (lists : List (List ℕ)) (n l : ℕ) → AreLists w lists → is_in n (nodes_of lists l) ≡ true
    → GoesOn w l None (nodes_of lists l)
going_in w lists n l are among = are.going l (made_from_in lists l n among)

marked_in : (w : Web) (lists : List (List ℕ)) (n l : ℕ) → AreLists w lists → is_in n (nodes_of lists l) ≡ true
    → w.list n ≡ Some l
marked_in w lists n l are among = list_in w l None (nodes_of lists l) n (going_in w lists n l are among) among

out_of : (w : Web) (lists : List (List ℕ)) (n k : ℕ) → AreLists w lists → w.list n ≢ Some k
    → is_in n (nodes_of lists k) ≡ false
out_of w lists n k are other =
    elim (cases_Bool (is_in n (nodes_of lists k))) [
      | inl among ↦ absurd (other (marked_in w lists n k are among))
      | inr none ↦ none
    ]

-- ---- what the links tell
pub list_of_mark : (w : Web) (lists : List (List ℕ)) (n : ℕ) → AreLists w lists → list_of lists n ≡ w.list n
list_of_mark w lists n are =
    elim (cases_Option (w.list n)) [
      | inl none ↦ list_of_none lists n (λ k. out_of w lists n k are
          (λ e. let clash : None ≡ Some k = sym none ∙ e in absurd (cc))) ∙ sym none
      | inr some ↦ list_of_is lists n some.0 (are.listed n some.0 some.1)
          (λ k apart. out_of w lists n k are (other_mark w n k some.0 some.1 apart)) ∙ sym some.1
    ]

pub next_of_link : (w : Web) (lists : List (List ℕ)) (n : ℕ) → AreLists w lists → next_of lists n ≡ w.next n
next_of_link w lists n are =
    elim (cases_Option (w.list n)) [
      | inl none ↦ rw (list_of_mark w lists n are, none) (sym (are.loose n none).0)
      | inr some ↦
          let among = are.listed n some.0 some.1 in
          rw (
            list_of_mark w lists n are,
            some.1,
          ) (node_after_is w some.0 None (nodes_of lists some.0) n (going_in w lists n some.0 are among)
          among)
    ]

pub prev_of_link : (w : Web) (lists : List (List ℕ)) (n : ℕ) → AreLists w lists → prev_of lists n ≡ w.prev n
prev_of_link w lists n are =
    elim (cases_Option (w.list n)) [
      | inl none ↦ rw (list_of_mark w lists n are, none) (sym (are.loose n none).1)
      | inr some ↦
          let among = are.listed n some.0 some.1 in
          rw (
            list_of_mark w lists n are,
            some.1,
          ) (node_before_is w some.0 None (nodes_of lists some.0) n (going_in w lists n some.0 are among)
          among)
    ]

first_of_nodes : (w : Web) (l : ℕ) (ns : List ℕ) → GoesOn w l None ns → slice_get ns 0 ≡ w.first l
first_of_nodes w l [] goes = sym goes.onwards
first_of_nodes w l (m ∷ ms) goes = sym goes.0.onwards

pub first_link : (w : Web) (lists : List (List ℕ)) (l : ℕ) → AreLists w lists → l < length lists
    → slice_get (nodes_of lists l) 0 ≡ w.first l
first_link w lists l are within = first_of_nodes w l (nodes_of lists l) (are.going l within)

-- ---- a node comes in
-- what is known where n comes into the list l, between p and q
record CanPut (old : Web) (lists : List (List ℕ)) (l n : ℕ) (p q : Option ℕ) : Type 0 where
  pub are : AreLists old lists
  pub made : l < length lists
  pub outside : old.list n ≡ None
  pub before : (b : ℕ) → p ≡ Some b → old.list b ≡ Some l
  pub after : (b : ℕ) → q ≡ Some b → old.list b ≡ Some l

-- the lists after it
record PutIn (old new : List (List ℕ)) (l n : ℕ) (gap : Option ℕ → Option ℕ → Bool) : Type 0 where
  pub count : length new ≡ length old
  pub changed : nodes_of new l ≡ put_where gap n None (nodes_of old l)
  pub others : (k : ℕ) → k ≢ l → nodes_of new k ≡ nodes_of old k
  pub there : is_in n (nodes_of new l) ≡ true

is_in-put_where : (gap : Option ℕ → Option ℕ → Bool) (n k : ℕ) (from : Option ℕ) (ns : List ℕ) → is_in k ns ≡ true
    → is_in k (put_where gap n from ns) ≡ true
is_in-put_where gap n k from [] among = absurd (false≢true among)
is_in-put_where gap n k from (m ∷ ms) among =
    elim (cases_Bool (eqb k m)) [
      | inl same ↦
          elim (cases_Bool (gap from (Some m))) [
            | inl hit ↦ rw (hit, same) (or_right (eqb k n) true refl)
            | inr miss ↦ rw (miss, same) refl
          ]
      | inr differs ↦
          let later = is_in-put_where gap n k (Some m) ms (rw differs at among) in
          elim (cases_Bool (gap from (Some m))) [
            | inl hit ↦ rw (hit, differs) (or_right (eqb k n) _ later)
            | inr miss ↦ rw (miss, differs) later
          ]
    ]

unlike : (w : Web) (m l : ℕ) (o : Option ℕ) → w.list m ≢ Some l → ((b : ℕ) → o ≡ Some b → w.list b ≡ Some l)
    → Some m ≢ o
unlike w m l o other marked same = other (marked m (sym same))

-- the links of a node outside the list stay
far_from_put : (old new : Web) (l n : ℕ) (p q : Option ℕ) (lists : List (List ℕ)) → CanPut old lists l n p q
    → Puts old new l n p q → (m : ℕ) → m ≢ n → old.list m ≢ Some l → (new.next m ≡ old.next m)
    × (new.prev m ≡ old.prev m) × (new.list m ≡ old.list m)
far_from_put old new l n p q lists can puts m differs other = (
  puts.nexts (Some m) (unlike old m l p other can.before) (different n m differs),
  puts.prevs (Some m) (unlike old m l q other can.after) (different n m differs),
  puts.marks m differs,
)

put_lists : (old new : Web) (lists after : List (List ℕ)) (l n : ℕ) (p q : Option ℕ) (gap : Option ℕ → Option ℕ → Bool)
    → CanPut old lists l n p q → Puts old new l n p q → FindsGap gap old l p q → PutIn lists after l n gap
    → AreLists new after
put_lists old new lists after l n p q gap can puts finds put =
    let far = far_from_put old new l n p q lists can puts in
    let outside : (k : ℕ) → old.list n ≢ Some k = λ k e. let clash : None ≡ Some k =
    sym can.outside ∙ e in absurd (cc) in
    record {
      going = λ k made.
          elim (cases_eq k l) [
            | inl same ↦ rw (same, put.changed) (put_goes old new l n p q gap puts finds (outside l) None
                (nodes_of lists l) (λ e. absurd (cc)) (can.are.going l can.made))
            | inr apart ↦
                rw (put.others k apart) (
                other_goes old new k (λ m mark. far m (λ e. outside k (ap old.list (sym e) ∙ mark))
                (other_mark old m l k mark (λ e. apart (sym e)))) (puts.lasts k apart) None (nodes_of lists k)
                (puts.firsts k apart)
                (can.are.going k (omega (arith, put.count)))
                )
          ];
      listed = λ m k mark.
          elim (cases_eq m n) [
            | inl same ↦
                let both : Some k ≡ Some l = sym mark ∙ ap new.list same ∙ puts.mark in
                let here : k ≡ l = cc in
                rw (same, here) put.there
            | inr differs ↦
                let was = can.are.listed m k (sym (puts.marks m differs) ∙ mark) in
                elim (cases_eq k l) [
                  | inl same ↦ rw (same, put.changed) (is_in-put_where gap n m None (nodes_of lists l) (rw same at was))
                  | inr apart ↦ rw (put.others k apart) was
                ]
          ];
      loose = λ m none.
          let differs : m ≢ n = λ e. let clash : None ≡ Some l = sym none ∙ ap new.list e ∙ puts.mark in absurd (cc) in
          let was : old.list m ≡ None = sym (puts.marks m differs) ∙ none in
          let kept = far m differs (λ e. let clash : None ≡ Some l = sym was ∙ e in absurd (cc)) in
          let nothing = can.are.loose m was in
          (kept.0 ∙ nothing.0, kept.1 ∙ nothing.1);
    }

hit_some : (at : ℕ) (o : Option ℕ) → is_some_of at o ≡ true → o ≡ Some at
hit_some at None hit = absurd (false≢true hit)
hit_some at (Some m) hit = ap Some (sym (eqb-true at m hit))

miss_some : (at : ℕ) (o : Option ℕ) → is_some_of at o ≡ false → o ≢ Some at
miss_some at None miss same = absurd (cc)
miss_some at (Some m) miss same = let here : m ≡ at = cc in eqb-false at m miss (sym here)

hit_none : (o : Option ℕ) → is_none o ≡ true → o ≡ None
hit_none None hit = refl
hit_none (Some m) hit = absurd (false≢true hit)

miss_none : (o : Option ℕ) → is_none o ≡ false → o ≢ None
miss_none None miss same = false≢true (sym miss)
miss_none (Some m) miss same = absurd (cc)

-- ---- the edits that put a node in, and the one that removes it
push_back_is : (old new : Web) (lists : List (List ℕ)) (l n : ℕ) → AreLists old lists → l < length lists
    → old.list n ≡ None → Puts old new l n (old.last l) None → AreLists new (set lists l (nodes_of lists l ++ n ∷ []))
push_back_is old new lists l n are made outside puts =
    let goes = are.going l made in
    put_lists old new lists _ l n (old.last l) None (λ x y. is_none y)
    record {
      are = are;
      made = made;
      outside = outside;
      before = λ b found. last_marked old l None (nodes_of lists l) b (λ e. absurd (cc)) goes found;
      after = λ b found. absurd (cc);
    }
    puts
    (finds_by_to _ old l (old.last l) None (joined_last old l None (nodes_of lists l) goes) (λ x y hit. hit_none y hit)
    (λ x y miss. miss_none y miss))
    record {
      count = length-set lists l _;
      changed = get_or-set_same lists l _ [] made ∙ sym (put_where_back n None (nodes_of lists l));
      others = λ k apart. get_or-set_other lists l k _ [] apart;
      there = rw (
        get_or-set_same lists l (nodes_of lists l ++ n ∷ []) [] made,
        list_any-append (eqb n) (nodes_of lists l) (n ∷ []),
        eq-eqb n n refl,
      )
          (or_right (is_in n (nodes_of lists l)) true refl);
    }

insert_before_is : (old new : Web) (lists : List (List ℕ)) (l at n : ℕ) → AreLists old lists → old.list at ≡ Some l
    → old.list n ≡ None → Puts old new l n (old.prev at) (Some at) → AreLists new (map (put_before at n) lists)
insert_before_is old new lists l at n are mark outside puts =
    let among = are.listed at l mark in
    let goes = going_in old lists at l are among in
    let nodes = nodes_of-map (put_before at n) refl lists in
    put_lists old new lists _ l n (old.prev at) (Some at) (λ x y. is_some_of at y)
    record {
      are = are;
      made = made_from_in lists l at among;
      outside = outside;
      before = λ b found. prev_marked old l None (nodes_of lists l) at b (λ e. absurd (cc)) goes among found;
      after = λ b found. let here : at ≡ b = cc in rw (← here) mark;
    }
    puts
    (finds_by_to _ old l (old.prev at) (Some at) (joined_before old l None (nodes_of lists l) at goes among)
    (λ x y hit. hit_some at y hit) (λ x y miss. miss_some at y miss))
    record {
      count = length-map lists (put_before at n);
      changed = nodes l ∙ sym (put_where_before at n None (nodes_of lists l));
      others = λ k apart. nodes k
          ∙ put_before_none at n (nodes_of lists k) (out_of old lists at k are (other_mark old at k l mark apart));
      there = rw (nodes l) (is_in-put_before at n (nodes_of lists l) among);
    }

-- a node comes in at one end of a list; at the front, by turning the links round
pub push_is : (side : Side) (old new : Web) (lists : List (List ℕ)) (l n : ℕ) → AreLists old lists → l < length lists
    → old.list n ≡ None → Puts old new l n (end_gap side (old.first l) (old.last l)).from
    (end_gap side (old.first l) (old.last l)).to → AreLists new (with_end side lists l n)
push_is After old new lists l n are made outside puts = push_back_is old new lists l n are made outside puts
push_is Before old new lists l n are made outside puts =
    let done = push_back_is (mirror old) (mirror new) (map reverse lists) l n (AreLists-mirror old lists are)
    (omega (arith, length-map lists reverse)) outside (Puts-mirror old new l n None (old.first l) puts) in
    subst (λ (xss : List (List ℕ)). AreLists new xss) (first_by_turning lists l n) (AreLists-mirror (mirror new) _ done)

-- a node comes in right beside another; after it, by turning the links round
pub insert_is : (side : Side) (old new : Web) (lists : List (List ℕ)) (l at n : ℕ) → AreLists old lists
    → old.list at ≡ Some l → old.list n ≡ None
    → Puts old new l n (gap_beside side at (old.prev at) (old.next at)).from
    (gap_beside side at (old.prev at) (old.next at)).to → AreLists new (map (put_beside side at n) lists)
insert_is Before old new lists l at n are mark outside puts =
    insert_before_is old new lists l at n are mark outside puts
insert_is After old new lists l at n are mark outside puts =
    let done = insert_before_is (mirror old) (mirror new) (map reverse lists) l at n (AreLists-mirror old lists are)
    mark outside (Puts-mirror old new l n (Some at) (old.next at) puts) in
    subst (λ (xss : List (List ℕ)). AreLists new xss) (after_by_turning at n lists)
    (AreLists-mirror (mirror new) _ done)

pub unlink_is : (old new : Web) (lists : List (List ℕ)) (l n : ℕ) → AreLists old lists → old.list n ≡ Some l
    → Removes old new l n (old.prev n) (old.next n) → AreLists new (map (without n) lists)
unlink_is old new lists l n are mark removes =
    let among = are.listed n l mark in
    let goes = going_in old lists n l are among in
    let nodes = nodes_of-map (without n) refl lists in
    let before = joined_before old l None (nodes_of lists l) n goes among in
    let after = joined_after old l (nodes_of lists l) n goes among in
    let far : (m : ℕ) → m ≢ n → old.list m ≢ Some l → (new.next m ≡ old.next m) × (new.prev m ≡ old.prev m)
    × (new.list m ≡ old.list m) =
    λ m differs other. (
      removes.nexts (Some m) (unlike old m l (old.prev n) other
          (λ b found. prev_marked old l None (nodes_of lists l) n b (λ e. absurd (cc)) goes among found))
          (different n m differs),
      removes.prevs (Some m) (unlike old m l (old.next n) other
          (λ b found. next_marked old l (nodes_of lists l) n b goes among found)) (different n m differs),
      removes.marks m differs,
    )
    in
    record {
      going = λ k made.
          elim (cases_eq k l) [
            | inl same ↦ rw (same, nodes l) ((remove_goes old new l n (old.prev n) (old.next n) removes before after
                None (nodes_of lists l) goes).0 (λ e. absurd (cc)))
            | inr apart ↦
                rw (
                  nodes k,
                  without_none n (nodes_of lists k)
                      (out_of old lists n k are (other_mark old n k l mark apart)),
                ) (
                other_goes old new k
                (λ m here. far m (λ e. other_mark old n k l mark apart (ap old.list (sym e) ∙ here))
                (other_mark old m l k here (λ e. apart (sym e))))
                (removes.lasts k apart) None (nodes_of lists k) (removes.firsts k apart)
                (are.going k (omega (arith, length-map lists (without n))))
                )
          ];
      listed = λ m k here.
          let differs : m ≢ n = λ e. let clash : None ≡ Some k =
          sym removes.mark ∙ ap new.list (sym e) ∙ here in absurd (cc) in
          rw (nodes k) (is_in-without n m (nodes_of lists k) differs
          (are.listed m k (sym (removes.marks m differs) ∙ here)));
      loose = λ m none.
          elim (cases_eq m n) [
            | inl same ↦ rw same (removes.next, removes.prev)
            | inr differs ↦
                let was : old.list m ≡ None = sym (removes.marks m differs) ∙ none in
                let kept = far m differs (λ e. let clash : None ≡ Some l = sym was ∙ e in absurd (cc)) in
                let nothing = are.loose m was in
                (kept.0 ∙ nothing.0, kept.1 ∙ nothing.1)
          ];
    }

-- ---- a node has one place
in_from_place : (ns : List ℕ) (i n : ℕ) → slice_get ns i ≡ Some n → is_in n ns ≡ true
in_from_place ns i n found = any_passes_from_place (eqb n) ns i n found (eq-eqb n n refl)

same_place : (w : Web) (l : ℕ) (ns : List ℕ) (i j n : ℕ) → GoesOn w l None ns → slice_get ns i ≡ Some n
    → slice_get ns j ≡ Some n → i ≡ j
same_place w l ns i j n goes first second =
    let apart : (a b : ℕ) → a < b → slice_get ns a ≡ Some n → slice_get ns b ≡ Some n → ⊥ =
    λ a b below here there.
    let clash : eqb (get_or ns a n) (get_or ns b n) ≡ false =
    apart_from_distinct eqb ns a b n (distinct w l ns goes) below (slice_get_within ns b n there) in
    eqb-false (get_or ns a n) (get_or ns b n) clash
    (get_or_from_slice_get ns a n n here ∙ sym (get_or_from_slice_get ns b n n there))
    in
    elim (cases_order i j) [
      | inl same ↦ same
      | inr other ↦ elim other [
        | inl below ↦ absurd (apart i j below first second)
        | inr above ↦ absurd (apart j i above second first)
      ]
    ]

pub marked_at : (w : Web) (lists : List (List ℕ)) (l i n : ℕ) → AreLists w lists
    → slice_get (nodes_of lists l) i ≡ Some n → w.list n ≡ Some l
marked_at w lists l i n are found = marked_in w lists n l are (in_from_place (nodes_of lists l) i n found)

pub one_place : (w : Web) (lists : List (List ℕ)) (k l i j n : ℕ) → AreLists w lists
    → slice_get (nodes_of lists k) i ≡ Some n → slice_get (nodes_of lists l) j ≡ Some n → (k ≡ l) × (i ≡ j)
one_place w lists k l i j n are first second =
    let both : Some k ≡ Some l = sym (marked_at w lists k i n are first) ∙ marked_at w lists l j n are second in
    let here : k ≡ l = cc in
    let there : slice_get (nodes_of lists k) j ≡ Some n = rw here second in (
      here,
      same_place w k (nodes_of lists k) i j n
          (going_in w lists n k are (in_from_place (nodes_of lists k) i n first)) first there,
    )

-- ---- the neighbours of a node of a list are in the list
pub next_of_marked : (w : Web) (lists : List (List ℕ)) (n l b : ℕ) → AreLists w lists → list_of lists n ≡ Some l
    → next_of lists n ≡ Some b → w.list b ≡ Some l
next_of_marked w lists n l b are here found =
    let among = are.listed n l (sym (list_of_mark w lists n are) ∙ here) in
    next_marked w l (nodes_of lists l) n b (going_in w lists n l are among) among
    (sym (next_of_link w lists n are) ∙ found)

pub prev_of_marked : (w : Web) (lists : List (List ℕ)) (n l b : ℕ) → AreLists w lists → list_of lists n ≡ Some l
    → prev_of lists n ≡ Some b → w.list b ≡ Some l
prev_of_marked w lists n l b are here found =
    let among = are.listed n l (sym (list_of_mark w lists n are) ∙ here) in
    prev_marked w l None (nodes_of lists l) n b (λ e. absurd (cc)) (going_in w lists n l are among) among
    (sym (prev_of_link w lists n are) ∙ found)

pub first_is_marked : (w : Web) (lists : List (List ℕ)) (l b : ℕ) → AreLists w lists → l < length lists
    → w.first l ≡ Some b → w.list b ≡ Some l
first_is_marked w lists l b are made found = first_marked w l (nodes_of lists l) b (are.going l made) found

pub last_is_marked : (w : Web) (lists : List (List ℕ)) (l b : ℕ) → AreLists w lists → l < length lists
    → w.last l ≡ Some b → w.list b ≡ Some l
last_is_marked w lists l b are made found =
    last_marked w l None (nodes_of lists l) b (λ e. absurd (cc)) (are.going l made) found

-- no node comes after itself
pub next_of_other : (w : Web) (lists : List (List ℕ)) (n l : ℕ) → AreLists w lists → list_of lists n ≡ Some l
    → next_of lists n ≢ Some n
next_of_other w lists n l are here same =
    let among = are.listed n l (sym (list_of_mark w lists n are) ∙ here) in
    let after = joined_after w l (nodes_of lists l) n (going_in w lists n l are among) among in
    let loops : w.next n ≡ Some n = sym (next_of_link w lists n are) ∙ same in
    prev_of_other lists n (prev_of_link w lists n are ∙ ap (prev_from w l) (sym loops) ∙ after.backwards)

-- ---- edits that change no link
pub same_web : (old new : Web) (lists : List (List ℕ))
    → ((m : ℕ) → (new.next m ≡ old.next m) × (new.prev m ≡ old.prev m) × (new.list m ≡ old.list m))
    → ((l : ℕ) → (new.first l ≡ old.first l) × (new.last l ≡ old.last l)) → AreLists old lists → AreLists new lists
same_web old new lists nodes ends are =
    record {
      going = λ l made. other_goes old new l (λ m _. nodes m) (ends l).1 None (nodes_of lists l) (ends l).0
          (are.going l made);
      listed = λ m l mark. are.listed m l (sym (nodes m).2 ∙ mark);
      loose = λ m none. let nothing = are.loose m (sym (nodes m).2 ∙ none) in
          ((nodes m).0 ∙ nothing.0, (nodes m).1 ∙ nothing.1);
    }

-- one more list, with no nodes
pub make_list_is : (old new : Web) (lists : List (List ℕ))
    → ((m : ℕ) → (new.next m ≡ old.next m) × (new.prev m ≡ old.prev m) × (new.list m ≡ old.list m))
    → ((l : ℕ) → l < length lists → (new.first l ≡ old.first l) × (new.last l ≡ old.last l))
    → new.first (length lists) ≡ None → new.last (length lists) ≡ None → AreLists old lists
    → AreLists new (lists ++ [] ∷ [])
make_list_is old new lists nodes ends first last are =
    let kept : (l : ℕ) → l < length lists → nodes_of (lists ++ [] ∷ []) l ≡ nodes_of lists l =
    λ l made. get_or_append_left lists ([] ∷ []) [] l made in
    record {
      going = λ l made.
          elim (cases_lt l (length lists)) [
            | inl below ↦ rw (kept l below) (other_goes old new l (λ m _. nodes m) (ends l below).1 None
                (nodes_of lists l) (ends l below).0 (are.going l below))
            | inr past ↦
                let here : l ≡ length lists = omega (arith, length-append lists ([] ∷ [])) in
                let empty : nodes_of (lists ++ [] ∷ []) (length lists) ≡ [] =
                get_or_push lists [] [] (length lists) refl in
                rw (here, empty) (record { onwards = first; backwards = last })
          ];
      listed = λ m l mark.
          let was = are.listed m l (sym (nodes m).2 ∙ mark) in
          rw (kept l (made_from_in lists l m was)) was;
      loose = λ m none. let nothing = are.loose m (sym (nodes m).2 ∙ none) in
          ((nodes m).0 ∙ nothing.0, (nodes m).1 ∙ nothing.1);
    }
