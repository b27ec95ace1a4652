-- Lemmas on the fields of a `Links`: writes of a node and of a list's ends, and the lists that the
-- fields make.
use Rattle.std.proofs.Common.{Vec, ◌++◌, ◌≡◌, ◌≢◌, ℕ, zero, suc, ◌<◌, ◌≤◌, false, List, [], ◌∷◌, map, set, length, get_or, Option, Some, None, is_some, IsSome, cond, count_by, refl, sym, ap, ◌∙◌, arith, inl, inr}
use Rattle.std.specs.Option.{option_map, option_and_then}
use Rattle.std.specs.List.{slice_get}
use Rattle.std.specs.Vec.{with_items, vec_len}
use Rattle.std.proofs.lemmas.Bool.{cases_eq, cases_lt}
use Rattle.std.proofs.lemmas.Map.Steps.{length-le_from_distinct_below}
use Rattle.std.proofs.lemmas.List.{with_items_is, map-set, set-get_or, get_or_past, get_or-map, length-map, length-set, length-append, get_or_append_left, get_or_push, ext_get_or}
use Rattle.std.proofs.lemmas.List.Sums.{sum_by-cons}
use Rattle.std.proofs.lemmas.Option.{slice_get_within, slice_get_past, slice_get-get_or, slice_get_read}
use Rattle.slab.specs.Slab.{Slab, Updates, get, with_value}
use Rattle.cf_links.specs.declared.joins.NodeRecord.{NodeRecord}
use Rattle.cf_links.specs.declared.joins.Ends.{Ends}
use Rattle.cf_links.specs.declared.joins.Gap.{Gap}
use Rattle.cf_links.specs.declared.joins.Side.{Side}
use Rattle.cf_links.specs.declared.joins.Side.TheVariants.{Before, After}
use Rattle.cf_links.specs.Lists.{Lists, nodes_of, next_of, prev_of, list_of, without, IsValid}
use Rattle.cf_links.specs.Sides.{with_end, put_beside, end_gap, gap_beside}
use Rattle.cf_links.proofs.Edits.{made_from_in, prev_of_other}
use Rattle.cf_links.specs.Chain.{Leads, mirror, next_from, GoesOn, AreLists, Puts, Removes, walk}
use Rattle.cf_links.proofs.Chains.{distinct, list_in, walk_is}
use Rattle.cf_links.proofs.Webs.{list_of_mark, next_of_link, prev_of_link, next_of_other, first_link, one_place, marked_at, next_of_marked, prev_of_marked, first_is_marked, last_is_marked, push_is, insert_is, unlink_is, same_web, make_list_is}
use Rattle.cf_links.specs.Fields.{web_of, lists_of, values_of, SameNodes, IsThere, IsSound, CanStand, view_of}

slice_get-set_same : {X : Type 0} (xs : List X) (i : ℕ) (x : X) → i < length xs → slice_get (set xs i x) i ≡ Some x
slice_get-set_same [] i x within = absurd (omega arith)
slice_get-set_same (y ∷ ys) zero x within = refl
slice_get-set_same (y ∷ ys) (suc i) x within = slice_get-set_same ys i x (omega arith)

slice_get-set_other : {X : Type 0} (xs : List X) (i k : ℕ) (x : X) → k ≢ i → slice_get (set xs i x) k ≡ slice_get xs k
slice_get-set_other [] i k x apart = refl
slice_get-set_other (y ∷ ys) zero zero x apart = absurd (apart refl)
slice_get-set_other (y ∷ ys) zero (suc k) x apart = refl
slice_get-set_other (y ∷ ys) (suc i) zero x apart = refl
slice_get-set_other (y ∷ ys) (suc i) (suc k) x apart = slice_get-set_other ys i k x (λ e. apart (ap suc e))

count-set_some : {X : Type 0} (slots : List (Option X)) (key : ℕ) (old new : X) → get_or slots key None ≡ Some old
    → count_by is_some (set slots key (Some new)) ≡ count_by is_some slots
count-set_some [] key old new found = refl
count-set_some (slot ∷ rest) zero old new found =
    rw (
      sum_by-cons (λ o. cond (is_some o) 1 0) (Some new) rest,
      sum_by-cons (λ o. cond (is_some o) 1 0) slot rest,
      found,
    ) refl
count-set_some (slot ∷ rest) (suc key) old new found =
    rw (
      sum_by-cons (λ o. cond (is_some o) 1 0) slot (set rest key (Some new)),
      sum_by-cons (λ o. cond (is_some o) 1 0) slot rest,
      count-set_some rest key old new found,
    ) refl

-- a part of a list's ends that a write keeps
part_kept : (part : Ends → Option ℕ) (ends : List Ends) (l k : ℕ) (old new : Ends) → slice_get ends l ≡ Some old
    → part new ≡ part old → option_and_then part (slice_get (set ends l new) k)
    ≡ option_and_then part (slice_get ends k)
part_kept part ends l k old new found kept =
    elim (cases_eq k l) [
      | inl same ↦ rw (same, slice_get-set_same ends l new (slice_get_within ends l old found), found) kept
      | inr apart ↦ ap (option_and_then part) (slice_get-set_other ends l k new apart)
    ]

count-with_end : (side : Side) (lists : List (List ℕ)) (l n : ℕ) → length (with_end side lists l n) ≡ length lists
count-with_end Before lists l n = length-set lists l _
count-with_end After lists l n = length-set lists l _

pub none_from : (o : Option ℕ) → false ≡ is_some o → o ≡ None
none_from None test = refl
none_from (Some x) test = absurd (cc)

module _ {T : Type 0} where
  value_in : (slots : List (Option (NodeRecord T))) (n : ℕ)
      → get_or (map (option_map (λ e. e.value)) slots) n None ≡ option_map (λ e. e.value) (get_or slots n None)
  value_in [] n = refl
  value_in (slot ∷ rest) zero = refl
  value_in (slot ∷ rest) (suc n) = value_in rest n

  -- a write of a node that keeps its value
  pub same_nodes : (nodes : Slab (NodeRecord T)) (n : ℕ) (old new : NodeRecord T) → get nodes n ≡ Some old
      → new.value ≡ old.value
      → SameNodes nodes (with_value nodes n new)
  same_nodes nodes n old new found kept =
      let view : Option (NodeRecord T) → Option T = option_map (λ e. e.value) in
      let was : get_or (map view nodes.slots) n None ≡ Some new.value =
      value_in nodes.slots n ∙ ap view found ∙ ap Some (sym kept) in
      record {
        values = map-set view nodes.slots n (Some new) ∙ ap (set (map view nodes.slots) n) (sym was)
            ∙ set-get_or (map view nodes.slots) n None;
        len = count-set_some nodes.slots n old new found;
        capacity = refl;
      }

  next_kept : (nodes : Slab (NodeRecord T)) (ends : List Ends) (l : ℕ) (new : Ends) (x : Option ℕ) → x ≢ None
      → next_from (web_of nodes (set ends l new)) l x ≡ next_from (web_of nodes ends) l x
  next_kept nodes ends l new None apart = absurd (apart refl)
  next_kept nodes ends l new (Some n) apart = refl

  prev_kept : (nodes : Slab (NodeRecord T)) (ends : List Ends) (l : ℕ) (new : Ends) (x : Option ℕ) → x ≢ None
      → next_from (mirror (web_of nodes (set ends l new))) l x ≡ next_from (mirror (web_of nodes ends)) l x
  prev_kept nodes ends l new None apart = absurd (apart refl)
  prev_kept nodes ends l new (Some n) apart = refl

  -- a write of a list's ends
  pub leads_first : (nodes : Slab (NodeRecord T)) (ends : List Ends) (l : ℕ) (old : Ends) (to : Option ℕ)
      → l < length ends
      → slice_get ends l ≡ Some old
      → Leads (web_of nodes ends) (web_of nodes (set ends l (record { first = to; last = old.last }))) l None to
  leads_first nodes ends l old to within found =
      let new : Ends = record { first = to; last = old.last } in
      record {
        set = ap (option_and_then (λ e. e.first)) (slice_get-set_same ends l new within);
        nexts = λ x apart. next_kept nodes ends l new x apart;
        firsts = λ k apart. ap (option_and_then (λ e. e.first)) (slice_get-set_other ends l k new apart);
        lasts = λ k. part_kept (λ e. e.last) ends l k old new found refl;
        prevs = λ n. refl;
        marks = λ n. refl;
      }

  pub leads_last : (nodes : Slab (NodeRecord T)) (ends : List Ends) (l : ℕ) (old : Ends) (to : Option ℕ)
      → l < length ends
      → slice_get ends l ≡ Some old
      → Leads (mirror (web_of nodes ends)) (mirror (web_of nodes
      (set ends l (record { first = old.first; last = to })))) l None to
  leads_last nodes ends l old to within found =
      let new : Ends = record { first = old.first; last = to } in
      record {
        set = ap (option_and_then (λ e. e.last)) (slice_get-set_same ends l new within);
        nexts = λ x apart. prev_kept nodes ends l new x apart;
        firsts = λ k apart. ap (option_and_then (λ e. e.last)) (slice_get-set_other ends l k new apart);
        lasts = λ k. part_kept (λ e. e.first) ends l k old new found refl;
        prevs = λ n. refl;
        marks = λ n. refl;
      }

  -- ---- the lists that the fields make
  within_from : {X : Type 0} (part : NodeRecord T → Option X) (nodes : Slab (NodeRecord T)) (n : ℕ) (x : X)
      → option_and_then part (get nodes n) ≡ Some x → n < length nodes.slots
  within_from part nodes n x found =
      elim (cases_lt n (length nodes.slots)) [
        | inl within ↦ within
        | inr past ↦ let clash : None ≡ Some x = sym (ap (option_and_then part) (get_or_past nodes.slots n None past))
            ∙ found in absurd (cc)
      ]

  -- a list has no more nodes than there are slots
  fits : (nodes : Slab (NodeRecord T)) (ends : List Ends) (l : ℕ) (ns : List ℕ) → GoesOn (web_of nodes ends) l None ns
      → length ns ≤ length nodes.slots
  fits nodes ends l ns goes =
      length-le_from_distinct_below ns (length nodes.slots) (distinct (web_of nodes ends) l ns goes)
      (λ q among. within_from (λ e. e.list) nodes q l (list_in (web_of nodes ends) l None ns q goes among))

  pub seen : (nodes : Slab (NodeRecord T)) (ends : List Ends) (lists : List (List ℕ))
      → AreLists (web_of nodes ends) lists
      → length lists ≡ length ends → lists_of nodes ends ≡ lists
  seen nodes ends lists are count =
      let walked : Ends → List ℕ = λ e. walk (length nodes.slots) (web_of nodes ends).next e.first in
      let none : Ends = record { first = None; last = None } in
      ext_get_or [] (map walked ends) lists (length-map ends walked ∙ sym count) (λ l made.
      let within : l < length ends = omega (arith, length-map ends walked) in
      let goes = are.going l (omega arith) in
      let first : (web_of nodes ends).first l ≡ (get_or ends l none).first =
      ap (option_and_then (λ e. e.first)) (slice_get-get_or ends l none within) in
      get_or-map walked ends l none [] within ∙ ap (walk (length nodes.slots) (web_of nodes ends).next) (sym first)
      ∙ walk_is (web_of nodes ends) l None (nodes_of lists l) (length nodes.slots)
      (fits nodes ends l (nodes_of lists l) goes) goes)

  -- the new fields make these lists
  pub record Makes (nodes : Slab (NodeRecord T)) (ends : List Ends) (lists : List (List ℕ)) : Type 0 where
    pub sound : IsSound nodes ends
    pub seen_as : lists_of nodes ends ≡ lists

  pub makes : (nodes : Slab (NodeRecord T)) (ends : List Ends) (lists : List (List ℕ))
      → AreLists (web_of nodes ends) lists
      → length lists ≡ length ends → Makes nodes ends lists
  makes nodes ends lists are count =
      let here = seen nodes ends lists are count in
      record { sound = rw here are; seen_as = here }

  count_of : (nodes : Slab (NodeRecord T)) (ends : List Ends) → length (lists_of nodes ends) ≡ length ends
  count_of nodes ends = length-map ends _

  -- ---- what is found in the fields
  pub next_seen : (nodes : Slab (NodeRecord T)) (ends : List Ends) (n : ℕ) (found : Option (NodeRecord T))
      → IsSound nodes ends
      → get nodes n ≡ found → option_and_then (λ e. e.next) found ≡ next_of (lists_of nodes ends) n
  next_seen nodes ends n found sound is =
      rw (← is) (sym (next_of_link (web_of nodes ends) (lists_of nodes ends) n sound))

  pub prev_seen : (nodes : Slab (NodeRecord T)) (ends : List Ends) (n : ℕ) (found : Option (NodeRecord T))
      → IsSound nodes ends
      → get nodes n ≡ found → option_and_then (λ e. e.prev) found ≡ prev_of (lists_of nodes ends) n
  prev_seen nodes ends n found sound is =
      rw (← is) (sym (prev_of_link (web_of nodes ends) (lists_of nodes ends) n sound))

  pub list_seen : (nodes : Slab (NodeRecord T)) (ends : List Ends) (n : ℕ) (found : Option (NodeRecord T))
      → IsSound nodes ends
      → get nodes n ≡ found → option_and_then (λ e. e.list) found ≡ list_of (lists_of nodes ends) n
  list_seen nodes ends n found sound is =
      rw (← is) (sym (list_of_mark (web_of nodes ends) (lists_of nodes ends) n sound))

  pub first_seen : (nodes : Slab (NodeRecord T)) (ends : List Ends) (l : ℕ) (found : Option Ends) → IsSound nodes ends
      → slice_get ends l ≡ found
      → option_and_then (λ e. e.first) found ≡ slice_get (nodes_of (lists_of nodes ends) l) 0
  first_seen nodes ends l found sound is =
      elim (cases_lt l (length ends)) [
        | inl within ↦ rw (← is) (sym (first_link (web_of nodes ends) (lists_of nodes ends) l sound
            (omega (arith, count_of nodes ends))))
        | inr past ↦
            let none : found ≡ None = sym is ∙ slice_get_past ends l past in
            let empty : nodes_of (lists_of nodes ends) l ≡ [] =
            get_or_past (lists_of nodes ends) l [] (omega (arith, count_of nodes ends)) in
            rw (none, empty) refl
      ]

  some_from : {X : Type 0} (part : NodeRecord T → Option X) (o : Option (NodeRecord T)) (x : X)
      → option_and_then part o ≡ Some x
      → IsSome (option_map (λ e. e.value) o)
  some_from part None x found = absurd (cc)
  some_from part (Some e) x found = refl

  -- a node with a mark is there
  pub there_from : (nodes : Slab (NodeRecord T)) (ends : List Ends) (n l : ℕ) → (web_of nodes ends).list n ≡ Some l
      → IsThere nodes n
  there_from nodes ends n l mark = rw (value_in nodes.slots n) (some_from (λ e. e.list) (get nodes n) l mark)

  pub valid_seen : (nodes : Slab (NodeRecord T)) (ends : List Ends) (s : Lists T) → IsSound nodes ends
      → lists_of nodes ends ≡ s.lists → values_of nodes ≡ s.values → IsValid s
  valid_seen nodes ends s sound lists values =
      let w = web_of nodes ends in
      let here : AreLists w s.lists = rw (← lists) sound in
      record {
        one_place = λ k l i j n first second. one_place w s.lists k l i j n here first second;
        there = λ l i n found. rw (← values) (there_from nodes ends n l (marked_at w s.lists l i n here found));
      }

  -- ---- what is known before an edit
  -- a node that is in no list has no mark
  pub no_mark : (nodes : Slab (NodeRecord T)) (ends : List Ends) (n : ℕ) → IsSound nodes ends
      → list_of (lists_of nodes ends) n ≡ None → (web_of nodes ends).list n ≡ None
  no_mark nodes ends n sound loose = sym (list_of_mark (web_of nodes ends) (lists_of nodes ends) n sound) ∙ loose

  pub has_mark : (nodes : Slab (NodeRecord T)) (ends : List Ends) (n l : ℕ) → IsSound nodes ends
      → list_of (lists_of nodes ends) n ≡ Some l → (web_of nodes ends).list n ≡ Some l
  has_mark nodes ends n l sound linked = sym (list_of_mark (web_of nodes ends) (lists_of nodes ends) n sound) ∙ linked

  -- a node of a list is there, and is not one that is in none
  record Stands (nodes : Slab (NodeRecord T)) (ends : List Ends) (o : Option ℕ) : Type 0 where
    pub there : (b : ℕ) → o ≡ Some b → IsThere nodes b
    pub apart : (n : ℕ) → list_of (lists_of nodes ends) n ≡ None → o ≢ Some n

  stands : (nodes : Slab (NodeRecord T)) (ends : List Ends) (l : ℕ) (o : Option ℕ) → IsSound nodes ends
      → ((b : ℕ) → o ≡ Some b → (web_of nodes ends).list b ≡ Some l) → Stands nodes ends o
  stands nodes ends l o sound marked =
      record {
        there = λ b found. there_from nodes ends b l (marked b found);
        apart = λ n loose found. let clash : None ≡ Some l = sym (no_mark nodes ends n sound loose) ∙ marked n found in
            absurd (cc);
      }

  -- the ends that are read of a list that was made
  ends_at : (nodes : Slab (NodeRecord T)) (ends : List Ends) (l : ℕ) (e : Ends) → l < length (lists_of nodes ends)
      → e ≡ get_or ends l e → slice_get ends l ≡ Some e
  ends_at nodes ends l e made read =
      slice_get_read ends (length ends) l e refl (omega (arith, made, count_of nodes ends)) read

  none_stands : (nodes : Slab (NodeRecord T)) (ends : List Ends) → Stands nodes ends None
  none_stands nodes ends = record { there = λ b found. absurd (cc); apart = λ n loose found. absurd (cc) }

  self_stands : (nodes : Slab (NodeRecord T)) (ends : List Ends) (n l : ℕ) → IsSound nodes ends
      → list_of (lists_of nodes ends) n ≡ Some l → Stands nodes ends (Some n)
  self_stands nodes ends n l sound linked =
      stands nodes ends l (Some n) sound (λ b found. let here : n ≡ b = cc in
      rw (← here) (has_mark nodes ends n l sound linked))

  next_stands : (nodes : Slab (NodeRecord T)) (ends : List Ends) (n l : ℕ) → IsSound nodes ends
      → list_of (lists_of nodes ends) n ≡ Some l → Stands nodes ends (next_of (lists_of nodes ends) n)
  next_stands nodes ends n l sound linked =
      stands nodes ends l _ sound (λ b found. next_of_marked (web_of nodes ends) (lists_of nodes ends) n l b sound
      linked found)

  prev_stands : (nodes : Slab (NodeRecord T)) (ends : List Ends) (n l : ℕ) → IsSound nodes ends
      → list_of (lists_of nodes ends) n ≡ Some l → Stands nodes ends (prev_of (lists_of nodes ends) n)
  prev_stands nodes ends n l sound linked =
      stands nodes ends l _ sound (λ b found. prev_of_marked (web_of nodes ends) (lists_of nodes ends) n l b sound
      linked found)

  -- a node that is in no list can come in between two that stand
  can_stand : (nodes : Slab (NodeRecord T)) (ends : List Ends) (l n : ℕ) (gap : Gap) → IsThere nodes n
      → list_of (lists_of nodes ends) n ≡ None → l < length (lists_of nodes ends) → Stands nodes ends gap.from
      → Stands nodes ends gap.to → CanStand nodes ends l n gap
  can_stand nodes ends l n gap there loose made from to =
      record {
        there = there;
        from_there = from.there;
        to_there = to.there;
        before = from.apart n loose;
        after = to.apart n loose;
        made = omega (arith, made, count_of nodes ends);
      }

  pub can_push : (side : Side) (nodes : Slab (NodeRecord T)) (ends : List Ends) (l n : ℕ) (e : Ends)
      → IsSound nodes ends
      → IsThere nodes n → list_of (lists_of nodes ends) n ≡ None → l < length (lists_of nodes ends)
      → e ≡ get_or ends l e → CanStand nodes ends l n (end_gap side e.first e.last)
  can_push Before nodes ends l n e sound there loose made read =
      let here = ends_at nodes ends l e made read in
      can_stand nodes ends l n (record { from = None; to = e.first }) there loose made (none_stands nodes ends)
      (stands nodes ends l e.first sound (λ b found. first_is_marked (web_of nodes ends) (lists_of nodes ends) l b sound
      made (ap (option_and_then (λ x. x.first)) here ∙ found)))
  can_push After nodes ends l n e sound there loose made read =
      let here = ends_at nodes ends l e made read in
      can_stand nodes ends l n (record { from = e.last; to = None }) there loose made
      (stands nodes ends l e.last sound (λ b found. last_is_marked (web_of nodes ends) (lists_of nodes ends) l b sound
      made (ap (option_and_then (λ x. x.last)) here ∙ found)))
      (none_stands nodes ends)

  -- a list that a node is in was made
  made_from_list_of : (nodes : Slab (NodeRecord T)) (ends : List Ends) (n l : ℕ) → IsSound nodes ends
      → list_of (lists_of nodes ends) n ≡ Some l → l < length (lists_of nodes ends)
  made_from_list_of nodes ends n l sound linked =
      made_from_in (lists_of nodes ends) l n (sound.listed n l (has_mark nodes ends n l sound linked))

  pub can_insert : (side : Side) (nodes : Slab (NodeRecord T)) (ends : List Ends) (l at n : ℕ) → IsSound nodes ends
      → IsThere nodes n → list_of (lists_of nodes ends) n ≡ None → list_of (lists_of nodes ends) at ≡ Some l
      → CanStand nodes ends l n (gap_beside side at (prev_of (lists_of nodes ends) at)
      (next_of (lists_of nodes ends) at))
  can_insert Before nodes ends l at n sound there loose linked =
      can_stand nodes ends l n (record { from = prev_of (lists_of nodes ends) at; to = Some at }) there loose
      (made_from_list_of nodes ends at l sound linked) (prev_stands nodes ends at l sound linked)
      (self_stands nodes ends at l sound linked)
  can_insert After nodes ends l at n sound there loose linked =
      can_stand nodes ends l n (record { from = Some at; to = next_of (lists_of nodes ends) at }) there loose
      (made_from_list_of nodes ends at l sound linked) (self_stands nodes ends at l sound linked)
      (next_stands nodes ends at l sound linked)

  pub can_remove : (nodes : Slab (NodeRecord T)) (ends : List Ends) (l n : ℕ) → IsSound nodes ends
      → list_of (lists_of nodes ends) n ≡ Some l
      → CanStand nodes ends l n (record {
        from = prev_of (lists_of nodes ends) n;
        to = next_of (lists_of nodes ends) n;
      })
  can_remove nodes ends l n sound linked =
      record {
        there = (self_stands nodes ends n l sound linked).there n refl;
        from_there = (prev_stands nodes ends n l sound linked).there;
        to_there = (next_stands nodes ends n l sound linked).there;
        before = prev_of_other (lists_of nodes ends) n;
        after = next_of_other (web_of nodes ends) (lists_of nodes ends) n l sound linked;
        made = omega (arith, made_from_list_of nodes ends n l sound linked, count_of nodes ends);
      }

  -- ---- what an edit leaves
  module _ {Z : Type 0} where
    -- the fields are sound, and show these lists, and what they showed before beside them
    pub record Edited (nodes : Slab (NodeRecord T)) (ends : Vec Ends Z) (new : Slab (NodeRecord T)) (new_ends : List Ends)
        (lists : List (List ℕ)) : Type 0 where
      pub sound : IsSound new (with_items ends new_ends).items
      pub shows : view_of new (with_items ends new_ends) ≡ record (view_of nodes ends) { lists = lists }

    -- what each edit of links keeps
    pub record Kept (nodes : Slab (NodeRecord T)) (ends : Vec Ends Z) (new : Slab (NodeRecord T))
        (new_ends : List Ends) : Type 0
      where
        pub sound : IsSound nodes ends.items
        pub fits : length ends.items ≡ vec_len ends
        pub count : length new_ends ≡ length ends.items
        pub same : SameNodes nodes new

    pub kept_from : (nodes : Slab (NodeRecord T)) (ends : Vec Ends Z) (new : Slab (NodeRecord T))
        (new_ends slice : List Ends)
        → IsSound nodes ends.items → slice ≡ ends.items → length slice ≡ vec_len ends → length new_ends ≡ length slice
        → SameNodes nodes new → Kept nodes ends new new_ends
    kept_from nodes ends new new_ends slice sound is fits count same =
        record { sound = sound; fits = rw is at fits; count = count ∙ ap length is; same = same }

    edited : (nodes : Slab (NodeRecord T)) (ends : Vec Ends Z) (new : Slab (NodeRecord T)) (new_ends : List Ends)
        (lists : List (List ℕ)) → Kept nodes ends new new_ends → AreLists (web_of new new_ends) lists
        → length lists ≡ length (lists_of nodes ends.items) → Edited nodes ends new new_ends lists
    edited nodes ends new new_ends lists kept are count =
        let items : (with_items ends new_ends).items ≡ new_ends =
        with_items_is ends new_ends (kept.count ∙ kept.fits) in
        let made = makes new new_ends lists are (omega (arith, count, count_of nodes ends.items, kept.count)) in
        record {
          sound = rw items made.sound;
          shows = rw (items, made.seen_as, kept.same.values, kept.same.len, kept.same.capacity) refl;
        }

    pub push_seen : (side : Side) (nodes : Slab (NodeRecord T)) (ends : Vec Ends Z) (new : Slab (NodeRecord T))
        (new_ends : List Ends) (l n : ℕ) (e : Ends) → Kept nodes ends new new_ends
        → l < length (lists_of nodes ends.items) → e ≡ get_or ends.items l e
        → list_of (lists_of nodes ends.items) n ≡ None
        → Puts (web_of nodes ends.items) (web_of new new_ends) l n (end_gap side e.first e.last).from
        (end_gap side e.first e.last).to
        → Edited nodes ends new new_ends (with_end side (lists_of nodes ends.items) l n)
    push_seen side nodes ends new new_ends l n e kept made read loose puts =
        let w = web_of nodes ends.items in
        let here = ends_at nodes ends.items l e made read in
        let first : w.first l ≡ e.first = ap (option_and_then (λ x. x.first)) here in
        let last : w.last l ≡ e.last = ap (option_and_then (λ x. x.last)) here in
        edited nodes ends new new_ends _ kept
        (push_is side w (web_of new new_ends) (lists_of nodes ends.items) l n kept.sound made
        (no_mark nodes ends.items n kept.sound loose) (rw (first, last) puts))
        (count-with_end side (lists_of nodes ends.items) l n)

    pub insert_seen : (side : Side) (nodes : Slab (NodeRecord T)) (ends : Vec Ends Z) (new : Slab (NodeRecord T))
        (new_ends : List Ends) (l at n : ℕ) → Kept nodes ends new new_ends
        → list_of (lists_of nodes ends.items) at ≡ Some l → list_of (lists_of nodes ends.items) n ≡ None
        → Puts (web_of nodes ends.items) (web_of new new_ends) l n
        (gap_beside side at (prev_of (lists_of nodes ends.items) at) (next_of (lists_of nodes ends.items) at)).from
        (gap_beside side at (prev_of (lists_of nodes ends.items) at) (next_of (lists_of nodes ends.items) at)).to
        → Edited nodes ends new new_ends (map (put_beside side at n) (lists_of nodes ends.items))
    insert_seen side nodes ends new new_ends l at n kept linked loose puts =
        let w = web_of nodes ends.items in
        let lists = lists_of nodes ends.items in
        let puts_at : Puts w (web_of new new_ends) l n (gap_beside side at (w.prev at) (w.next at)).from
        (gap_beside side at (w.prev at) (w.next at)).to =
        rw (prev_of_link w lists at kept.sound, next_of_link w lists at kept.sound) at puts in
        edited nodes ends new new_ends _ kept
        (insert_is side w (web_of new new_ends) lists l at n kept.sound
        (has_mark nodes ends.items at l kept.sound linked) (no_mark nodes ends.items n kept.sound loose) puts_at)
        (length-map lists _)

    pub unlink_seen : (nodes : Slab (NodeRecord T)) (ends : Vec Ends Z) (new : Slab (NodeRecord T))
        (new_ends : List Ends)
        (l n : ℕ) → Kept nodes ends new new_ends → list_of (lists_of nodes ends.items) n ≡ Some l
        → Removes (web_of nodes ends.items) (web_of new new_ends) l n (prev_of (lists_of nodes ends.items) n)
        (next_of (lists_of nodes ends.items) n)
        → Edited nodes ends new new_ends (map (without n) (lists_of nodes ends.items))
    unlink_seen nodes ends new new_ends l n kept linked removes =
        let w = web_of nodes ends.items in
        edited nodes ends new new_ends _ kept
        (unlink_is w (web_of new new_ends) (lists_of nodes ends.items) l n kept.sound
        (has_mark nodes ends.items n l kept.sound linked)
        (rw (
          prev_of_link w (lists_of nodes ends.items) n kept.sound,
          next_of_link w (lists_of nodes ends.items) n kept.sound,
        ) at removes))
        (length-map (lists_of nodes ends.items) _)

  -- ---- lists and nodes that are made, and nodes that go
  -- the values and the links at a node's number
  pub value_seen : (nodes : Slab (NodeRecord T)) (n : ℕ)
      → get_or (values_of nodes) n None ≡ option_map (λ e. e.value) (get nodes n)
  value_seen nodes n = value_in nodes.slots n

  pub make_list_seen : (nodes : Slab (NodeRecord T)) (ends : List Ends) → IsSound nodes ends
      → Makes nodes (ends ++ record { first = None; last = None } ∷ []) (lists_of nodes ends ++ [] ∷ [])
  make_list_seen nodes ends sound =
      let new : Ends = record { first = None; last = None } in
      let after = ends ++ new ∷ [] in
      let count = count_of nodes ends in
      let kept : (l : ℕ) → l < length ends → slice_get after l ≡ slice_get ends l = λ l made.
      slice_get-get_or after l new (omega (arith, length-append ends (new ∷ [])))
      ∙ ap Some (get_or_append_left ends (new ∷ []) new l made) ∙ sym (slice_get-get_or ends l new made)
      in
      let last : slice_get after (length ends) ≡ Some new =
      slice_get-get_or after (length ends) new (omega (arith, length-append ends (new ∷ [])))
      ∙ ap Some (get_or_push ends new new (length ends) refl)
      in
      makes nodes after (lists_of nodes ends ++ [] ∷ [])
      (make_list_is (web_of nodes ends) (web_of nodes after) (lists_of nodes ends) (λ m. (refl, refl, refl))
      (λ l made. let same = kept l (omega (arith, count)) in
      (ap (option_and_then (λ e. e.first)) same, ap (option_and_then (λ e. e.last)) same))
      (rw (count, last) refl) (rw (count, last) refl) sound)
      (omega (arith, count, length-append ends (new ∷ []), length-append (lists_of nodes ends) ([] ∷ [])))

  -- a slot that changes between nothing and a node that is in no list
  pub same_seen : (nodes new : Slab (NodeRecord T)) (ends : List Ends)
      → ((m : ℕ) → (option_and_then (λ e. e.next) (get new m) ≡ option_and_then (λ e. e.next) (get nodes m))
      × (option_and_then (λ e. e.prev) (get new m) ≡ option_and_then (λ e. e.prev) (get nodes m))
      × (option_and_then (λ e. e.list) (get new m) ≡ option_and_then (λ e. e.list) (get nodes m))) → IsSound nodes ends
      → Makes new ends (lists_of nodes ends)
  same_seen nodes new ends same sound =
      makes new ends (lists_of nodes ends) (same_web (web_of nodes ends) (web_of new ends) (lists_of nodes ends) same
      (λ l. (refl, refl)) sound) (count_of nodes ends)

  pub make_seen : (nodes new : Slab (NodeRecord T)) (ends : List Ends) (n : ℕ) (v : T) → IsSound nodes ends
      → get nodes n ≡ None → Updates nodes new n (Some (record { value = v; list = None; prev = None; next = None }))
      → Makes new ends (lists_of nodes ends)
  make_seen nodes new ends n v sound vacant updates =
      same_seen nodes new ends (λ m.
      elim (cases_eq m n) [
        | inl same ↦ rw (same, updates.changed, vacant) (refl, refl, refl)
        | inr differs ↦ rw (updates.others m differs) (refl, refl, refl)
      ]) sound

  pub make_loose : (nodes : Slab (NodeRecord T)) (ends : List Ends) (n : ℕ) → IsSound nodes ends → get nodes n ≡ None
      → list_of (lists_of nodes ends) n ≡ None
  make_loose nodes ends n sound vacant = sym (list_seen nodes ends n None sound vacant)

  pub free_seen : (nodes new : Slab (NodeRecord T)) (ends : List Ends) (n : ℕ) → IsSound nodes ends
      → list_of (lists_of nodes ends) n ≡ None → Updates nodes new n None → Makes new ends (lists_of nodes ends)
  free_seen nodes new ends n sound loose updates =
      let nothing = sound.loose n (no_mark nodes ends n sound loose) in
      same_seen nodes new ends (λ m.
      elim (cases_eq m n) [
        | inl same ↦ rw (same, updates.changed) (sym nothing.0, sym nothing.1, sym (no_mark nodes ends n sound loose))
        | inr differs ↦ rw (updates.others m differs) (refl, refl, refl)
      ]) sound

  pub values_freed : (nodes new : Slab (NodeRecord T)) (n : ℕ) → new.slots ≡ set nodes.slots n None
      → values_of new ≡ set (values_of nodes) n None
  values_freed nodes new n slots = ap (map (option_map (λ e. e.value))) slots
      ∙ map-set (option_map (λ e. e.value)) nodes.slots n None
