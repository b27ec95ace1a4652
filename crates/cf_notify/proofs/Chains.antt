-- Lists stay linked where a number comes to the end of one, and where a number leaves one.
use Rattle.std.proofs.Common.{◌≡◌, ◌≢◌, ◌⊎◌, ℕ, ◌+◌, ◌<◌, ◌≤◌, Bool, true, false, List, [], ◌∷◌, ◌++◌, length, Option, Some, None, refl, sym, ap, ◌∙◌, inl, inr, ⊎_elim, arith}
use Rattle.std.specs.List.{slice_set}
use Rattle.std.proofs.lemmas.Bool.{cases_eq, cases_lt, cases_order, both_ways, eq-eqb, eqb-true, ne_eqb, false_from_ne_true}
use Rattle.std.proofs.lemmas.List.{get_or_append_left, get_or_push, get_or_past, get_or-set_same, get_or-set_other, length-set, length_push}
use Rattle.std.proofs.lemmas.Option.{same_Some, none-some}
use Rattle.cf_notify.specs.declared.lists.Link.{Link}
use Rattle.cf_notify.specs.declared.lists.Ends.{Ends}
use Rattle.cf_notify.specs.Links.{is_mark, IsNext, IsLast, link_at, ends_at, no_link, no_ends, holds, AreLinked, next_links, next_ends, prev_links, prev_ends}
use Rattle.cf_notify.proofs.Nexts.{next_same, last_same, next_kept, next_new, next_none, last_kept, last_new, next_left, next_over, last_left, last_over, prev_from_next, next_from_prev, prev_of_first, next_of_last, same_next, same_last}
use Rattle.cf_notify.proofs.Steps.{list_on, prev_on, next_on, next_on_other, length_on, first_on, first_on_other, last_on, ends_on, list_back, next_back, prev_back, prev_back_other, length_back, last_back, last_back_other, first_back, ends_back}

-- whether an optional number is this one
is_it : (r : Option ℕ) (j : ℕ) → (r ≡ Some j) ⊎ (r ≢ Some j)
is_it None j = inr (λ e. none-some j e)
is_it (Some k) j = ⊎_elim (λ e. inl (ap Some e)) (λ ne. inr (λ e. ne (same_Some k j e))) (cases_eq k j)

holds_its : (links : List Link) (l k : ℕ) → (link_at links k).list ≡ Some l → holds links l k ≡ true
holds_its links l k e = rw e (eq-eqb l l refl)

-- a number is in the list that its link names
its_list : (links : List Link) (l k : ℕ) → holds links l k ≡ true → (link_at links k).list ≡ Some l
its_list links l k t = named (link_at links k).list t
  where
    named : (m : Option ℕ) → is_mark l m ≡ true → m ≡ Some l
    named None h = absurd (both_ways _ refl h)
    named (Some n) h = ap Some (eqb-true n l h)

not_made : (links : List Link) (l j : ℕ) → length links ≤ j → holds links l j ≡ false
not_made links l j past = rw (get_or_past links j no_link past) refl

pub below_length : (links : List Link) (l j : ℕ) → holds links l j ≡ true → j < length links
below_length links l j t = ⊎_elim (λ lt. lt) (λ ge. absurd (both_ways _ (not_made links l j ge) t))
    (cases_lt j (length links))

-- ---- one more

module _ (links : List Link) (ends : List Ends) (l : ℕ) (linked : AreLinked links ends) (made : l < length ends) where
  abbrev new : Link
  new = record { list = Some l; prev = (ends_at ends l).last; next = None }

  abbrev longer : List Link
  longer = next_links (ends_at ends l).last (Some (length links)) links ++ new ∷ []

  abbrev later : List Ends
  later = prev_ends l None (Some (length links)) (next_ends l (ends_at ends l).last (Some (length links)) ends)

  long : length (next_links (ends_at ends l).last (Some (length links)) links) ≡ length links
  long = length_on (ends_at ends l).last (Some (length links)) links

  before_new : (j : ℕ) → j < length links
      → link_at longer j ≡ link_at (next_links (ends_at ends l).last (Some (length links)) links) j
  before_new j lt = get_or_append_left _ (new ∷ []) no_link j (omega (arith, long))

  at_new : link_at longer (length links) ≡ new
  at_new = get_or_push _ new no_link (length links) long

  after_new : (j : ℕ) → length links < j → link_at longer j ≡ no_link
  after_new j gt = get_or_past longer j no_link (omega (
    arith,
    length_push
        (next_links (ends_at ends l).last (Some (length links)) links) new,
    long,
  ))

  list_same : (j : ℕ) → j ≢ length links → (link_at longer j).list ≡ (link_at links j).list
  list_same j other =
      ⊎_elim
      (λ lt. ap {A = Link} (λ h. h.list) (before_new j lt) ∙ list_on (ends_at ends l).last (Some (length links)) links
      j)
      (λ ge. ap {A = Link} (λ h. h.list) (after_new j (omega arith)) ∙ sym (ap {A = Link} (λ h. h.list)
      (get_or_past links j no_link ge)))
      (cases_lt j (length links))

  same : (m j : ℕ) → j ≢ length links → holds longer m j ≡ holds links m j
  same m j other = ap (is_mark m) (list_same j other)

  here : holds longer l (length links) ≡ true
  here = holds_its longer l (length links) (ap {A = Link} (λ h. h.list) at_new)

  other_same : (m : ℕ) → m ≢ l → (j : ℕ) → holds longer m j ≡ holds links m j
  other_same m other j =
      ⊎_elim
      (λ e. rw e (ap (is_mark m) (ap {A = Link} (λ h. h.list) at_new) ∙ (ne_eqb l m (λ g. other (sym g)) ∙ sym
      (not_made links m (length links) (omega arith)))))
      (λ ne. same m j ne)
      (cases_eq j (length links))

  past : (m j : ℕ) → length links ≤ j → holds links m j ≡ false
  past m j ge = not_made links m j ge

  is_number : (k m : ℕ) → (link_at longer k).list ≡ Some m → (k ≡ length links) ⊎ (k < length links)
  is_number k m e =
      ⊎_elim
      (λ eq. inl eq)
      (λ order. ⊎_elim (λ lt. inr lt) (λ gt. absurd (none-some m (sym (ap {A = Link} (λ h. h.list) (after_new k gt))
      ∙ e))) order)
      (cases_order k (length links))

  new_mark : (m : ℕ) → (link_at longer (length links)).list ≡ Some m → m ≡ l
  new_mark m e = same_Some m l (sym e ∙ ap {A = Link} (λ h. h.list) at_new)

  old_mark : (k m : ℕ) → k < length links → (link_at longer k).list ≡ Some m → (link_at links k).list ≡ Some m
  old_mark k m lt e = sym (list_same k (λ g. absurd (omega arith))) ∙ e

  first_at : (last : Option ℕ) → (ends_at ends l).last ≡ last → IsNext (holds longer l) 0 (ends_at later l).first
  first_at None e =
      let lasts : IsLast (holds links l) (length links) None = rw e at (linked.lasts l) in
      let now : (ends_at later l).first ≡ Some (length links) = first_back l None (Some (length links))
      (next_ends l (ends_at ends l).last (Some (length links)) ends) l ∙ (rw e
      (first_on l (Some (length links)) ends made)) in
      rw now (next_new (holds links l) (holds longer l) (length links) (same l) here (past l) 0
      (λ j _. ⊎_elim (λ lt. lasts j lt) (λ ge. past l j ge) (cases_lt j (length links))) (omega arith))
  first_at (Some t) e =
      let lasts : IsLast (holds links l) (length links) (Some t) = rw e at (linked.lasts l) in
      let now : (ends_at later l).first ≡ (ends_at ends l).first = first_back l None (Some (length links))
      (next_ends l (ends_at ends l).last (Some (length links)) ends) l ∙ (rw e refl) in
      rw now (kept (ends_at ends l).first (linked.firsts l) lasts)
    where
      kept : (r : Option ℕ) → IsNext (holds links l) 0 r → IsLast (holds links l) (length links) (Some t)
          → IsNext (holds longer l) 0 r
      kept None next last = absurd (both_ways _ (next t (omega arith)) last.1)
      kept (Some n) next last = next_kept (holds links l) (holds longer l) (length links) (same l) here (past l) 0 n
          next

  first_other : (m : ℕ) → m ≢ l → (ends_at later m).first ≡ (ends_at ends m).first
  first_other m other = first_back l None (Some (length links)) (next_ends l (ends_at ends l).last
      (Some (length links)) ends) m ∙ first_on_other l (ends_at ends l).last (Some (length links)) ends m other

  last_now : (ends_at later l).last ≡ Some (length links)
  last_now = last_back l (Some (length links)) (next_ends l (ends_at ends l).last (Some (length links)) ends)
      (omega (arith, made, ends_on l (ends_at ends l).last (Some (length links)) ends))

  last_other : (m : ℕ) → m ≢ l → (ends_at later m).last ≡ (ends_at ends m).last
  last_other m other = last_back_other l None (Some (length links)) (next_ends l (ends_at ends l).last
      (Some (length links)) ends) m other ∙ last_on l (ends_at ends l).last (Some (length links)) ends m

  -- a list that has no number more ends where it did
  last_more : (test : ℕ → Bool) (to : ℕ) (r : Option ℕ) → test to ≡ false → IsLast test to r → IsLast test (to + 1) r
  last_more test to None f last = λ j lt. ⊎_elim (λ e. rw e f) (λ ne. last j (omega arith)) (cases_eq j to)
  last_more test to (Some n) f last = (
    omega (arith, last.0),
    last.1,
    λ j gt lt. ⊎_elim (λ e. rw e f)
        (λ ne. last.2 j gt (omega arith)) (cases_eq j to),
  )

  next_at : (k : ℕ) → k < length links → (link_at links k).list ≡ Some l → (last : Option ℕ)
      → (ends_at ends l).last ≡ last → IsNext (holds longer l) (k + 1) (link_at longer k).next
  next_at k lt e None is = absurd (both_ways _ ((rw is at (linked.lasts l)) k lt) (holds_its links l k e))
  next_at k lt e (Some t) is =
      let lasts : IsLast (holds links l) (length links) (Some t) = rw is at (linked.lasts l) in
      let read : (link_at longer k).next ≡ (link_at (next_links (Some t) (Some (length links)) links) k).next = ap
      {A = Link} (λ h. h.next) (before_new k lt) ∙ (rw is refl) in
      ⊎_elim
      (λ same_one. let now : (link_at longer k).next ≡ Some (length links) = read
      ∙ (rw same_one (next_on (Some (length links)) links t lasts.0)) in
      let none : (link_at links k).next ≡ None = next_of_last (holds links l) k (length links) (link_at links k).next
      (past l) (rw same_one lasts) (linked.nexts k l e) in
      rw now (next_new (holds links l) (holds longer l) (length links) (same l) here (past l) (k + 1)
      (rw none at (linked.nexts k l e)) (omega arith)))
      (λ other. let now : (link_at longer k).next ≡ (link_at links k).next = read ∙ next_on_other (Some t)
      (Some (length links)) links k (λ g. other (sym (same_Some t k g))) in
      rw now (kept (link_at links k).next (linked.nexts k l e) lasts other))
      (cases_eq k t)
    where
      kept : (r : Option ℕ) → IsNext (holds links l) (k + 1) r → IsLast (holds links l) (length links) (Some t)
          → k ≢ t → IsNext (holds longer l) (k + 1) r
      kept None next last other =
          absurd (⊎_elim
          (λ below. both_ways _ (next t (omega arith)) last.1)
          (λ above. both_ways _ (last.2 k (omega arith) lt) (holds_its links l k e))
          (cases_lt k t))
      kept (Some n) next last other = next_kept (holds links l) (holds longer l) (length links) (same l) here (past l)
          (k + 1) n next

  next_else : (m k : ℕ) → m ≢ l → k < length links → (link_at links k).list ≡ Some m
      → (link_at longer k).next ≡ (link_at links k).next
  next_else m k other lt e =
      ap {A = Link} (λ h. h.next) (before_new k lt)
      ∙ next_on_other (ends_at ends l).last (Some (length links)) links k (λ g. other
      (same_Some m l (sym e ∙ its_list links l k (rw g at (linked.lasts l)).1)))

  prev_before : (k : ℕ) → k < length links → (link_at longer k).prev ≡ (link_at links k).prev
  prev_before k lt = ap {A = Link} (λ h. h.prev) (before_new k lt) ∙ prev_on (ends_at ends l).last
      (Some (length links)) links k

  last_l : IsLast (holds longer l) (length links + 1) (ends_at later l).last
  last_l = rw last_now (last_new (holds links l) (holds longer l) (length links) (same l) here (past l))

  pub linked_longer : AreLinked longer later
  linked_longer = record {
    firsts = λ m. ⊎_elim
        (λ e. rw e (first_at (ends_at ends l).last refl))
        (λ other. rw (first_other m other) (next_same (holds links m) (holds longer m) (other_same m other) 0
        (ends_at ends m).first (linked.firsts m)))
        (cases_eq m l);
    lasts = λ m. rw (length_push (next_links (ends_at ends l).last (Some (length links)) links) new, long) (⊎_elim
        (λ e. rw e last_l)
        (λ other. rw (last_other m other) (last_more (holds longer m) (length links) (ends_at ends m).last
        (other_same m other (length links) ∙ past m (length links) (omega arith))
        (last_same (holds links m) (holds longer m) (other_same m other) (length links) (ends_at ends m).last
        (linked.lasts m))))
        (cases_eq m l));
    nexts = λ k m e. ⊎_elim
        (λ eq. rw eq (rw at_new (rw (new_mark m (rw eq at e)) (next_none (holds links l) (holds longer l) (length links)
        (same l) here (past l)))))
        (λ lt. let old = old_mark k m lt e in
        ⊎_elim
        (λ g. rw g (next_at k lt (rw g at old) (ends_at ends l).last refl))
        (λ other. rw (next_else m k other lt old) (next_same (holds links m) (holds longer m) (other_same m other)
        (k + 1) (link_at links k).next (linked.nexts k m old)))
        (cases_eq m l))
        (is_number k m e);
    prevs = λ k m e. ⊎_elim
        (λ eq. rw eq (rw at_new (rw (new_mark m (rw eq at e)) (last_kept (holds links l) (holds longer l) (length links)
        (same l) here (past l) (length links) (ends_at ends l).last (omega arith) (linked.lasts l)))))
        (λ lt. let old = old_mark k m lt e in
        rw (prev_before k lt) (⊎_elim
        (λ g. rw g (last_kept (holds links l) (holds longer l) (length links) (same l) here (past l) k
        (link_at links k).prev (omega arith) (rw g at (linked.prevs k m old))))
        (λ other. last_same (holds links m) (holds longer m) (other_same m other) k (link_at links k).prev
        (linked.prevs k m old))
        (cases_eq m l)))
        (is_number k m e);
    made = λ k m e. let count : length later ≡ length ends = ends_back l None (Some (length links))
        (next_ends l (ends_at ends l).last (Some (length links)) ends) ∙ ends_on l (ends_at ends l).last
        (Some (length links)) ends in
        rw count (⊎_elim
        (λ eq. rw (new_mark m (rw eq at e)) made)
        (λ lt. linked.made k m (old_mark k m lt e))
        (is_number k m e));
  }

-- ---- one less

module _ (links : List Link) (ends : List Ends) (l k : ℕ) (linked : AreLinked links ends) (its : (link_at links k).list ≡ Some l) where
  abbrev before : Option ℕ
  before = (link_at links k).prev

  abbrev after : Option ℕ
  after = (link_at links k).next

  abbrev shorter : List Link
  shorter = slice_set (prev_links after before (next_links before after links)) k no_link

  abbrev sooner : List Ends
  sooner = prev_ends l after before (next_ends l before after ends)

  made_l : l < length ends
  made_l = linked.made k l its

  is_here : holds links l k ≡ true
  is_here = holds_its links l k its

  below : k < length links
  below = below_length links l k is_here

  read : (j : ℕ) → j ≢ k → link_at shorter j ≡ link_at (prev_links after before (next_links before after links)) j
  read j other = get_or-set_other (prev_links after before (next_links before after links)) k j no_link no_link other

  list_left : (j : ℕ) → j ≢ k → (link_at shorter j).list ≡ (link_at links j).list
  list_left j other = ap {A = Link} (λ h. h.list) (read j other) ∙ (list_back after before
      (next_links before after links) j ∙ list_on before after links j)

  left : link_at shorter k ≡ no_link
  left = get_or-set_same (prev_links after before (next_links before after links)) k no_link no_link
      (omega (arith, below, length_back after before (next_links before after links), length_on before after links))

  same_left : (m j : ℕ) → j ≢ k → holds shorter m j ≡ holds links m j
  same_left m j other = ap (is_mark m) (list_left j other)

  gone : (m : ℕ) → holds shorter m k ≡ false
  gone m = ap (λ h. is_mark m h.list) left

  other_left : (m : ℕ) → m ≢ l → (j : ℕ) → holds shorter m j ≡ holds links m j
  other_left m other j =
      ⊎_elim
      (λ e. rw e (gone m ∙ sym (ap (is_mark m) its ∙ ne_eqb l m (λ g. other (sym g)))))
      (λ ne. same_left m j ne)
      (cases_eq j k)

  stays : (j m : ℕ) → (link_at shorter j).list ≡ Some m → (j ≢ k) × ((link_at links j).list ≡ Some m)
  stays j m e =
      let apart : j ≢ k = λ g. let at_k : link_at shorter j ≡ no_link = rw g left in none-some m
      (sym (ap {A = Link} (λ h. h.list) at_k) ∙ e) in
      (apart, sym (list_left j apart) ∙ e)

  next_read : (j : ℕ) → j ≢ k → (link_at shorter j).next ≡ (link_at (next_links before after links) j).next
  next_read j other = ap {A = Link} (λ h. h.next) (read j other) ∙ next_back after before
      (next_links before after links) j

  prev_read : (j : ℕ) → j ≢ k → (link_at shorter j).prev ≡ (link_at (prev_links after before
      (next_links before after links)) j).prev
  prev_read j other = ap {A = Link} (λ h. h.prev) (read j other)

  next_before : (j : ℕ) → j < length links → before ≡ Some j → (link_at (next_links before after links) j).next ≡ after
  next_before j lt e = rw e (next_on after links j lt)

  prev_after : (j : ℕ) → j < length links → after ≡ Some j
      → (link_at (prev_links after before (next_links before after links)) j).prev ≡ before
  prev_after j lt e = rw e (prev_back before (next_links before (Some j) links) j
      (omega (arith, length_on before (Some j) links)))

  pub prev_k : (p : Option ℕ) → before ≡ p → IsLast (holds links l) k p
  prev_k p e = rw e at (linked.prevs k l its)

  pub next_k : (n : Option ℕ) → after ≡ n → IsNext (holds links l) (k + 1) n
  next_k n e = rw e at (linked.nexts k l its)

  first_l : (p : Option ℕ) → before ≡ p → IsNext (holds shorter l) 0 (ends_at sooner l).first
  first_l None e =
      let was : (ends_at ends l).first ≡ Some k = same_next (holds links l) 0 k (ends_at ends l).first (omega arith)
      is_here (λ j _ lt. prev_k None e j lt) (linked.firsts l) in
      let now : (ends_at sooner l).first ≡ after = first_back l after before (next_ends l before after ends) l
      ∙ (rw e (first_on l after ends made_l)) in
      rw now (next_over (holds links l) (holds shorter l) k (same_left l) (gone l) 0 after
      (rw was at (linked.firsts l)) (linked.nexts k l its))
  first_l (Some q) e =
      let now : (ends_at sooner l).first ≡ (ends_at ends l).first = first_back l after before
      (next_ends l before after ends) l ∙ (rw e refl) in
      rw now (next_left (holds links l) (holds shorter l) k (same_left l) (gone l) 0 (ends_at ends l).first
      (λ g. none-some q (sym (prev_of_first (holds links l) k (Some q) (rw g at (linked.firsts l))
      (prev_k (Some q) e)))) (linked.firsts l))

  last_of : (n : Option ℕ) → after ≡ n → IsLast (holds shorter l) (length links) (ends_at sooner l).last
  last_of None e =
      let was : (ends_at ends l).last ≡ Some k = same_last (holds links l) (length links) k (ends_at ends l).last
      below is_here (λ j gt lt. next_k None e j (omega arith)) (linked.lasts l) in
      let now : (ends_at sooner l).last ≡ before = rw e (last_back l before (next_ends l before None ends)
      (omega (arith, made_l, ends_on l before None ends))) in
      rw now (last_over (holds links l) (holds shorter l) k (same_left l) (gone l) (length links) before
      (rw was at (linked.lasts l)) (linked.prevs k l its))
  last_of (Some q) e =
      let now : (ends_at sooner l).last ≡ (ends_at ends l).last = rw e (last_on l before (Some q) ends l) in
      rw now (last_left (holds links l) (holds shorter l) k (same_left l) (gone l) (length links) (ends_at ends l).last
      (λ g. none-some q (sym (next_of_last (holds links l) k (length links) (Some q) (not_made links l)
      (rw g at (linked.lasts l)) (next_k (Some q) e)))) (linked.lasts l))

  next_of : (j : ℕ) → j ≢ k → (link_at links j).list ≡ Some l
      → IsNext (holds shorter l) (j + 1) (link_at shorter j).next
  next_of j apart e =
      let lt : j < length links = below_length links l j (holds_its links l j e) in
      ⊎_elim
      (λ yes. let now : (link_at shorter j).next ≡ after = next_read j apart ∙ next_before j lt yes in
      let was : (link_at links j).next ≡ Some k = next_from_prev (holds links l) j k (link_at links j).next is_here
      (prev_k (Some j) yes) (linked.nexts j l e) in
      rw now (next_over (holds links l) (holds shorter l) k (same_left l) (gone l) (j + 1) after
      (rw was at (linked.nexts j l e)) (linked.nexts k l its)))
      (λ no. let now : (link_at shorter j).next ≡ (link_at links j).next = next_read j apart ∙ next_on_other before
      after links j no in
      rw now (next_left (holds links l) (holds shorter l) k (same_left l) (gone l) (j + 1) (link_at links j).next
      (λ g. no (prev_from_next (holds links l) j k before (holds_its links l j e) (rw g at (linked.nexts j l e))
      (linked.prevs k l its))) (linked.nexts j l e)))
      (is_it before j)

  prev_of : (j : ℕ) → j ≢ k → (link_at links j).list ≡ Some l → IsLast (holds shorter l) j (link_at shorter j).prev
  prev_of j apart e =
      let lt : j < length links = below_length links l j (holds_its links l j e) in
      ⊎_elim
      (λ yes. let now : (link_at shorter j).prev ≡ before = prev_read j apart ∙ prev_after j lt yes in
      let was : (link_at links j).prev ≡ Some k = prev_from_next (holds links l) k j (link_at links j).prev is_here
      (next_k (Some j) yes) (linked.prevs j l e) in
      rw now (last_over (holds links l) (holds shorter l) k (same_left l) (gone l) j before
      (rw was at (linked.prevs j l e)) (linked.prevs k l its)))
      (λ no. let now : (link_at shorter j).prev ≡ (link_at links j).prev = prev_read j apart
      ∙ (prev_back_other after before (next_links before after links) j no ∙ prev_on before after links j) in
      rw now (last_left (holds links l) (holds shorter l) k (same_left l) (gone l) j (link_at links j).prev
      (λ g. no (next_from_prev (holds links l) k j after (holds_its links l j e) (rw g at (linked.prevs j l e))
      (linked.nexts k l its))) (linked.prevs j l e)))
      (is_it after j)

  next_aside : (j m : ℕ) → j ≢ k → m ≢ l → (link_at links j).list ≡ Some m
      → (link_at shorter j).next ≡ (link_at links j).next
  next_aside j m apart other e = next_read j apart ∙ next_on_other before after links j
      (λ g. other (same_Some m l (sym e ∙ its_list links l j (prev_k (Some j) g).1)))

  prev_aside : (j m : ℕ) → j ≢ k → m ≢ l → (link_at links j).list ≡ Some m
      → (link_at shorter j).prev ≡ (link_at links j).prev
  prev_aside j m apart other e = prev_read j apart ∙ (prev_back_other after before (next_links before after links) j
      (λ g. other (same_Some m l (sym e ∙ its_list links l j (next_k (Some j) g).1))) ∙ prev_on before after links j)

  first_aside : (m : ℕ) → m ≢ l → (ends_at sooner m).first ≡ (ends_at ends m).first
  first_aside m other = first_back l after before (next_ends l before after ends) m ∙ first_on_other l before after
      ends m other

  last_aside : (m : ℕ) → m ≢ l → (ends_at sooner m).last ≡ (ends_at ends m).last
  last_aside m other = last_back_other l after before (next_ends l before after ends) m other ∙ last_on l before after
      ends m

  pub length_shorter : length shorter ≡ length links
  length_shorter = length-set (prev_links after before (next_links before after links)) k no_link
      ∙ (length_back after before (next_links before after links) ∙ length_on before after links)

  pub length_sooner : length sooner ≡ length ends
  length_sooner = ends_back l after before (next_ends l before after ends) ∙ ends_on l before after ends

  pub linked_shorter : AreLinked shorter sooner
  linked_shorter = record {
    firsts = λ m. ⊎_elim
        (λ e. rw e (first_l before refl))
        (λ other. rw (first_aside m other) (next_same (holds links m) (holds shorter m) (other_left m other) 0
        (ends_at ends m).first (linked.firsts m)))
        (cases_eq m l);
    lasts = λ m. rw length_shorter (⊎_elim
        (λ e. rw e (last_of after refl))
        (λ other. rw (last_aside m other) (last_same (holds links m) (holds shorter m) (other_left m other)
        (length links) (ends_at ends m).last (linked.lasts m)))
        (cases_eq m l));
    nexts = λ j m e. let old = stays j m e in
        ⊎_elim
        (λ g. rw g (next_of j old.0 (rw g at old.1)))
        (λ other. rw (next_aside j m old.0 other old.1) (next_same (holds links m) (holds shorter m)
        (other_left m other) (j + 1) (link_at links j).next (linked.nexts j m old.1)))
        (cases_eq m l);
    prevs = λ j m e. let old = stays j m e in
        ⊎_elim
        (λ g. rw g (prev_of j old.0 (rw g at old.1)))
        (λ other. rw (prev_aside j m old.0 other old.1) (last_same (holds links m) (holds shorter m)
        (other_left m other) j (link_at links j).prev (linked.prevs j m old.1)))
        (cases_eq m l);
    made = λ j m e. rw length_sooner (linked.made j m (stays j m e).1);
  }

-- ---- no number yet

pub linked_none : (links : List Link) (old new : List Ends) → AreLinked links old → length old ≡ 0
    → ((l : ℕ) → ends_at new l ≡ no_ends) → AreLinked links new
linked_none links old new linked none empty =
    let unmarked : (k l : ℕ) → (link_at links k).list ≢ Some l = λ k l e. absurd (omega (arith, linked.made k l e)) in
    let free : (l j : ℕ) → holds links l j ≡ false = λ l j. false_from_ne_true _
    (λ t. unmarked j l (its_list links l j t)) in
    record {
      firsts = λ l. rw (empty l) (λ j _. free l j);
      lasts = λ l. rw (empty l) (λ j _. free l j);
      nexts = λ k l e. absurd (unmarked k l e);
      prevs = λ k l e. absurd (unmarked k l e);
      made = λ k l e. absurd (unmarked k l e);
    }
