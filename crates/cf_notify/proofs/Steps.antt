-- What a step between neighbours leaves in the links and the ends of lists.
use Rattle.std.proofs.Common.{◌≡◌, ◌≢◌, ℕ, zero, suc, ◌<◌, List, [], ◌∷◌, length, map, get_or, Option, Some, None, refl, sym, ap, ⊎_elim}
use Rattle.std.specs.List.{slice_set}
use Rattle.std.proofs.lemmas.Bool.{cases_eq, cases_lt}
use Rattle.std.proofs.lemmas.List.{get_or-set_same, get_or-set_other, set_past, length-set}
use Rattle.cf_notify.specs.declared.lists.Link.{Link}
use Rattle.cf_notify.specs.declared.lists.Ends.{Ends}
use Rattle.cf_notify.specs.Links.{link_at, ends_at, no_link, no_ends, next_links, next_ends, prev_links, prev_ends}

-- a write keeps what it does not change
set_keeps : {X : Type 0} (g : Link → X) (links : List Link) (k : ℕ) (v : Link) (j : ℕ) → g v ≡ g (link_at links k)
    → g (link_at (slice_set links k v) j) ≡ g (link_at links j)
set_keeps g links k v j e =
    ⊎_elim
    (λ same. rw same (⊎_elim (λ lt. rw (get_or-set_same links k v no_link lt) e)
    (λ ge. rw (set_past links k v ge) refl) (cases_lt k (length links))))
    (λ other. rw (get_or-set_other links k j v no_link other) refl)
    (cases_eq j k)

ends_keep : {X : Type 0} (g : Ends → X) (ends : List Ends) (l : ℕ) (v : Ends) (m : ℕ) → g v ≡ g (ends_at ends l)
    → g (ends_at (slice_set ends l v) m) ≡ g (ends_at ends m)
ends_keep g ends l v m e =
    ⊎_elim
    (λ same. rw same (⊎_elim (λ lt. rw (get_or-set_same ends l v no_ends lt) e) (λ ge. rw (set_past ends l v ge) refl)
    (cases_lt l (length ends))))
    (λ other. rw (get_or-set_other ends l m v no_ends other) refl)
    (cases_eq m l)

-- ---- on

pub list_on : (from to : Option ℕ) (links : List Link) (j : ℕ)
    → (link_at (next_links from to links) j).list ≡ (link_at links j).list
list_on None to links j = refl
list_on (Some k) to links j = set_keeps (λ h. h.list) links k (record (link_at links k) { next = to }) j refl

pub prev_on : (from to : Option ℕ) (links : List Link) (j : ℕ)
    → (link_at (next_links from to links) j).prev ≡ (link_at links j).prev
prev_on None to links j = refl
prev_on (Some k) to links j = set_keeps (λ h. h.prev) links k (record (link_at links k) { next = to }) j refl

pub next_on : (to : Option ℕ) (links : List Link) (j : ℕ) → j < length links
    → (link_at (next_links (Some j) to links) j).next ≡ to
next_on to links j lt = ap {A = Link} (λ h. h.next) (get_or-set_same links j (record (link_at links j) { next = to })
    no_link lt)

pub next_on_other : (from to : Option ℕ) (links : List Link) (j : ℕ) → from ≢ Some j
    → (link_at (next_links from to links) j).next ≡ (link_at links j).next
next_on_other None to links j other = refl
next_on_other (Some k) to links j other = ap {A = Link} (λ h. h.next) (get_or-set_other links k j
    (record (link_at links k) { next = to }) no_link (λ e. other (ap Some (sym e))))

pub length_on : (from to : Option ℕ) (links : List Link) → length (next_links from to links) ≡ length links
length_on None to links = refl
length_on (Some k) to links = length-set links k _

pub first_on : (l : ℕ) (to : Option ℕ) (ends : List Ends) → l < length ends
    → (ends_at (next_ends l None to ends) l).first ≡ to
first_on l to ends lt = ap {A = Ends} (λ e. e.first) (get_or-set_same ends l (record (ends_at ends l) { first = to })
    no_ends lt)

pub first_on_other : (l : ℕ) (from to : Option ℕ) (ends : List Ends) (m : ℕ) → m ≢ l
    → (ends_at (next_ends l from to ends) m).first ≡ (ends_at ends m).first
first_on_other l None to ends m other = ap {A = Ends} (λ e. e.first) (get_or-set_other ends l m
    (record (ends_at ends l) { first = to }) no_ends other)
first_on_other l (Some k) to ends m other = refl

pub last_on : (l : ℕ) (from to : Option ℕ) (ends : List Ends) (m : ℕ)
    → (ends_at (next_ends l from to ends) m).last ≡ (ends_at ends m).last
last_on l None to ends m = ends_keep (λ e. e.last) ends l (record (ends_at ends l) { first = to }) m refl
last_on l (Some k) to ends m = refl

pub ends_on : (l : ℕ) (from to : Option ℕ) (ends : List Ends) → length (next_ends l from to ends) ≡ length ends
ends_on l None to ends = length-set ends l _
ends_on l (Some k) to ends = refl

-- ---- back

pub list_back : (to from : Option ℕ) (links : List Link) (j : ℕ)
    → (link_at (prev_links to from links) j).list ≡ (link_at links j).list
list_back None from links j = refl
list_back (Some k) from links j = set_keeps (λ h. h.list) links k (record (link_at links k) { prev = from }) j refl

pub next_back : (to from : Option ℕ) (links : List Link) (j : ℕ)
    → (link_at (prev_links to from links) j).next ≡ (link_at links j).next
next_back None from links j = refl
next_back (Some k) from links j = set_keeps (λ h. h.next) links k (record (link_at links k) { prev = from }) j refl

pub prev_back : (from : Option ℕ) (links : List Link) (j : ℕ) → j < length links
    → (link_at (prev_links (Some j) from links) j).prev ≡ from
prev_back from links j lt = ap {A = Link} (λ h. h.prev) (get_or-set_same links j
    (record (link_at links j) { prev = from }) no_link lt)

pub prev_back_other : (to from : Option ℕ) (links : List Link) (j : ℕ) → to ≢ Some j
    → (link_at (prev_links to from links) j).prev ≡ (link_at links j).prev
prev_back_other None from links j other = refl
prev_back_other (Some k) from links j other = ap {A = Link} (λ h. h.prev)
    (get_or-set_other links k j (record (link_at links k) { prev = from }) no_link (λ e. other (ap Some (sym e))))

pub length_back : (to from : Option ℕ) (links : List Link) → length (prev_links to from links) ≡ length links
length_back None from links = refl
length_back (Some k) from links = length-set links k _

pub last_back : (l : ℕ) (from : Option ℕ) (ends : List Ends) → l < length ends
    → (ends_at (prev_ends l None from ends) l).last ≡ from
last_back l from ends lt = ap {A = Ends} (λ e. e.last) (get_or-set_same ends l
    (record (ends_at ends l) { last = from }) no_ends lt)

pub last_back_other : (l : ℕ) (to from : Option ℕ) (ends : List Ends) (m : ℕ) → m ≢ l
    → (ends_at (prev_ends l to from ends) m).last ≡ (ends_at ends m).last
last_back_other l None from ends m other = ap {A = Ends} (λ e. e.last)
    (get_or-set_other ends l m (record (ends_at ends l) { last = from }) no_ends other)
last_back_other l (Some k) from ends m other = refl

pub first_back : (l : ℕ) (to from : Option ℕ) (ends : List Ends) (m : ℕ)
    → (ends_at (prev_ends l to from ends) m).first ≡ (ends_at ends m).first
first_back l None from ends m = ends_keep (λ e. e.first) ends l (record (ends_at ends l) { last = from }) m refl
first_back l (Some k) from ends m = refl

pub ends_back : (l : ℕ) (to from : Option ℕ) (ends : List Ends) → length (prev_ends l to from ends) ≡ length ends
ends_back l None from ends = length-set ends l _
ends_back l (Some k) from ends = refl

-- ---- the marks

map_set : (links : List Link) (k : ℕ) (v : Link)
    → map (λ h. h.list) (slice_set links k v) ≡ slice_set (map (λ h. h.list) links) k v.list
map_set [] k v = refl
map_set (h ∷ hs) zero v = refl
map_set (h ∷ hs) (suc k) v = ap (λ r. h.list ∷ r) (map_set hs k v)

set_same_mark : (links : List Link) (k : ℕ) (v : Link) → v.list ≡ (link_at links k).list
    → map (λ h. h.list) (slice_set links k v) ≡ map (λ h. h.list) links
set_same_mark [] k v e = refl
set_same_mark (h ∷ hs) zero v e = ap (λ m. m ∷ map (λ h. h.list) hs) e
set_same_mark (h ∷ hs) (suc k) v e = ap (λ r. h.list ∷ r) (set_same_mark hs k v e)

pub marks_on : (from to : Option ℕ) (links : List Link)
    → map (λ h. h.list) (next_links from to links) ≡ map (λ h. h.list) links
marks_on None to links = refl
marks_on (Some k) to links = set_same_mark links k (record (link_at links k) { next = to }) refl

pub marks_back : (to from : Option ℕ) (links : List Link)
    → map (λ h. h.list) (prev_links to from links) ≡ map (λ h. h.list) links
marks_back None from links = refl
marks_back (Some k) from links = set_same_mark links k (record (link_at links k) { prev = from }) refl

pub marks_set : (links : List Link) (k : ℕ)
    → map (λ h. h.list) (slice_set links k no_link) ≡ slice_set (map (λ h. h.list) links) k None
marks_set links k = map_set links k no_link

-- a number's mark, by its link
pub mark_at : (links : List Link) (k : ℕ) → get_or (map (λ h. h.list) links) k None ≡ (link_at links k).list
mark_at [] k = refl
mark_at (h ∷ hs) zero = refl
mark_at (h ∷ hs) (suc k) = mark_at hs k
