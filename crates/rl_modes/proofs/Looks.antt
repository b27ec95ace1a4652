-- What a look at the seats and counts of a loop tells of its holdings.
use Rattle.std.proofs.Common.{◌≡◌, ℕ, zero, suc, ◌+◌, ◌<◌, ◌≤◌, true, false, eqb, List, [], ◌∷◌, ◌++◌, length, take, drop, map, slice_get, Option, Some, None, refl, sym, ap, ◌∙◌, ⊎_elim, arith}
use Rattle.std.specs.List.{filter, list_any, AllPairs, All}
use Rattle.std.proofs.lemmas.Bool.{cases_Bool, cases_eq, eqb-false, ne_eqb}
use Rattle.std.proofs.lemmas.Bool.Decides.{nat_tests}
use Rattle.std.proofs.lemmas.List.{take-append-drop, get_or-take, get_or-drop, length-take, length-drop}
use Rattle.std.proofs.lemmas.List.Elements.{All-tail}
use Rattle.std.proofs.lemmas.Option.{get_or_from_slice_get, slice_get_within, slice_get-get_or, none-some}
use Rattle.rl_base.specs.declared.places.Place.{Place}
use Rattle.rl_base.specs.declared.places.Place.TheVariants.{Common, Mode}
use Rattle.rl_base.specs.Modes.{rank, keeps_open, is_empty}
use Rattle.rl_modes.specs.declared.holdings.Seat.{Seat}
use Rattle.rl_modes.specs.Loops.{Holding, items_at}
use Rattle.rl_modes.specs.Fields.{IsCut, Precedes, opens, sits_before, is_seat, places_held, places_seated, place_if}
use Rattle.rl_modes.proofs.Cuts.{filter_gone, any_none}
use Rattle.rl_modes.proofs.Orders.{is_below, above_first, tells_at, none_at}
use Rattle.rl_modes.proofs.Marks.{marked_append}

-- ---- empty modes

pub count_tells : (m : ℕ) (held : List Holding)
    → eqb (length (filter (opens m) held)) 0 ≡ is_empty (λ i. keeps_open i.kind) (items_at (Mode m) held)
count_tells m [] = refl
count_tells m (h ∷ hs) =
    ⊎_elim
    (λ here. rw here (⊎_elim (λ t. rw t (ne_eqb _ _ (λ e. absurd (omega arith)))) (λ f. rw f (count_tells m hs))
    (cases_Bool (keeps_open h.item.kind))))
    (λ other. rw other (count_tells m hs))
    (cases_Bool (eqb (rank h.place) (rank (Mode m))))

-- ---- the places of an item

none_marked : (i : ℕ) (seats : List Seat) → All (λ s. i < s.item) seats → places_seated i seats ≡ []
none_marked i [] above = refl
none_marked i (s ∷ ss) above =
    let other : eqb s.item i ≡ false = ne_eqb _ _ (λ e. absurd (omega (arith, above 0 s))) in
    rw other (none_marked i ss (All-tail (λ s. i < s.item) s ss above))

none_found : (i : ℕ) (seats : List Seat) → All (λ s. i < s.item) seats → (k : ℕ)
    → place_if i (slice_get seats k) ≡ None
none_found i [] above k = refl
none_found i (s ∷ ss) above zero =
    let other : eqb s.item i ≡ false = ne_eqb _ _ (λ e. absurd (omega (arith, above 0 s))) in rw other refl
none_found i (s ∷ ss) above (suc k) = none_found i ss (All-tail (λ s. i < s.item) s ss above) k

abbrev InOrder : List Seat → Type 0
InOrder = AllPairs (Precedes (λ s. s.item) (λ s. rank s.place))

pairs_tail : (s : Seat) (ss : List Seat) → InOrder (s ∷ ss) → InOrder ss
pairs_tail s ss pairs i j d lt below = pairs (suc i) (suc j) d (omega arith) (omega arith)

seats_from : (i : ℕ) (seats : List Seat) → InOrder seats → All (λ s. i ≤ s.item) seats → (k : ℕ)
    → slice_get (places_seated i seats) k ≡ place_if i (slice_get seats k)
seats_from i [] pairs least k = refl
seats_from i (s ∷ ss) pairs least k =
    ⊎_elim (λ t. here t (λ n. seats_from i ss (pairs_tail s ss pairs) (All-tail (λ s. i ≤ s.item) s ss least) n) k)
    (λ f. let above = all_above f in ap (λ ps. slice_get ps k) (none_marked i (s ∷ ss) above) ∙ sym
    (none_found i (s ∷ ss) above k))
    (cases_Bool (eqb s.item i))
  where
    here : eqb s.item i ≡ true → ((n : ℕ) → slice_get (places_seated i ss) n ≡ place_if i (slice_get ss n)) → (n : ℕ)
        → slice_get (places_seated i (s ∷ ss)) n ≡ place_if i (slice_get (s ∷ ss) n)
    here t later zero = rw t refl
    here t later (suc n) = rw t (later n)

    more : eqb s.item i ≡ false → i < s.item
    more f = ⊎_elim (λ e. absurd (eqb-false _ _ f e)) (λ ne. omega (arith, least 0 s)) (cases_eq s.item i)

    all_above : eqb s.item i ≡ false → All (λ z. i < z.item) (s ∷ ss)
    all_above f zero d lt = more f
    all_above f (suc j) d lt = omega (arith, more f, (pairs 0 (suc j) d (omega arith) lt).firsts)

first_apart : (i m n : ℕ) → is_below i 0 m n ≡ true → eqb m i ≡ false
first_apart i m n h = grind (arith, nat_tests)

pub place_tells : (i k : ℕ) (seats : List Seat) (first : ℕ) → InOrder seats → IsCut (sits_before i Common) seats first
    → slice_get (places_seated i seats) k ≡ place_if i (slice_get (drop first seats) k)
place_tells i k seats first pairs cut =
    ap (λ ps. slice_get ps k) (ap (places_seated i) (sym (take-append-drop first seats))
    ∙ (marked_append (λ s. s.item) (λ s. s.place) i (take first seats) (drop first seats) ∙ ap
    (λ ps. map (λ s. s.place) ps ++ places_seated i (drop first seats)) none_before))
    ∙ seats_from i (drop first seats) rest_pairs rest_least k
  where
    none_before : filter (λ s. eqb s.item i) (take first seats) ≡ []
    none_before = filter_gone (λ s. eqb s.item i) (take first seats) (any_none (λ s. eqb s.item i) (take first seats)
        (λ j d lt.
        let below : j < first = omega (arith, length-take first seats, cut.within) in
        rw (get_or-take first seats j d below) (first_apart i _ _ (cut.front j d below))))

    rest_pairs : InOrder (drop first seats)
    rest_pairs a b d lt below =
        rw (get_or-drop first seats a d, get_or-drop first seats b d) (pairs (first + a) (first + b) d (omega arith)
        (omega (arith, length-drop first seats)))

    rest_least : All (λ s. i ≤ s.item) (drop first seats)
    rest_least j d lt =
        rw (get_or-drop first seats j d) (above_first i 0 _ _ (cut.rest (first + j) d (omega arith)
        (omega (arith, length-drop first seats))))

-- the seat found tells the place of the item among holdings that tell the same
pub place_found : (i k : ℕ) (held : List Holding) (seats rest : List Seat) (first : ℕ) (found : Option Seat)
    → InOrder seats → IsCut (sits_before i Common) seats first → places_seated i seats ≡ places_held i held
    → rest ≡ drop first seats → found ≡ slice_get rest k → place_if i found ≡ slice_get (places_held i held) k
place_found i k held seats rest first found pairs cut seated back is =
    ap (place_if i) (is ∙ ap (λ ss. slice_get ss k) back) ∙ (sym (place_tells i k seats first pairs cut) ∙ ap
    (λ ps. slice_get ps k) seated)

-- ---- whether a place holds an item

module _ (i : ℕ) (p : Place) (seats : List Seat) (k : ℕ) (pairs : InOrder seats) (cut : IsCut (sits_before i p) seats k) where
  pub seat_decides : (s : Seat) → Some s ≡ slice_get seats k → is_seat i p s ≡ list_any (is_seat i p) seats
  seat_decides s found =
      rw (sym (get_or_from_slice_get seats k s s (sym found))) (tells_at (λ s. s.item) (λ s. rank s.place) i (rank p)
      seats k pairs cut s (slice_get_within seats k s (sym found)))

  pub no_seat : None ≡ slice_get seats k → false ≡ list_any (is_seat i p) seats
  no_seat none = sym (none_at (λ s. s.item) (λ s. rank s.place) i (rank p) seats k pairs cut
      (λ d lt. absurd (none-some _ (none ∙ slice_get-get_or seats k d lt))))
