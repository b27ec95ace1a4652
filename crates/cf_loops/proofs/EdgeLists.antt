-- The edges of loops are those of the references of their places.
use Rattle.std.proofs.Common.{◌≡◌, ℕ, zero, suc, ◌+◌, ◌≤◌, Bool, true, false, cond, eqb, List, [], ◌∷◌, ◌++◌, length, map, refl, sym, ap, ◌∙◌, subst, arith, inl, inr}
use Rattle.std.specs.List.{filter}
use Rattle.std.proofs.lemmas.Bool.{cases_lt, eqb-true, eqb-false, ne_eqb}
use Rattle.std.proofs.lemmas.List.{map-append}
use Rattle.std.proofs.lemmas.List.Elements.{All-weaker}
use Rattle.std.proofs.lemmas.List.Folds.{list_any_none}
use Rattle.cf_ids.specs.declared.limits.TheConstants.{MODES}
use Rattle.cf_ids.specs.declared.numbers.Item.{Item}
use Rattle.rl_base.specs.declared.places.Place.{Place}
use Rattle.rl_base.specs.declared.places.Place.TheVariants.{Common, Mode}
use Rattle.rl_base.specs.Modes.{rank}
use Rattle.rl_modes.specs.Loops.{Holding, Loop, is_of, holds_at, items_at}
use Rattle.cf_syntax.specs.declared.script.Script.{Script}
use Rattle.cf_graph.specs.declared.edge.Edge.{Edge}
use Rattle.cf_graph.specs.Edges.{Reference, held_by, weigh, one, counted, edge_of, edges_of}
use Rattle.cf_graph.proofs.Counts.{weigh-append}
use Rattle.cf_graph.proofs.Flows.{other_weigh, holders_apart}
use Rattle.cf_next.specs.Held.{below}
use Rattle.cf_next.proofs.HeldLaws.{below-none, below-suc}
use Rattle.cf_model.specs.State.{State}
use Rattle.cf_model.specs.Deals.{holder_at}
use Rattle.cf_loops.specs.Following.{AreLoops, IsPlaceOfLoop, SamePlaces, loop_at}
use Rattle.cf_loops.specs.Edging.{AddsLoops, edge_from, loop_edges, mode_edges, place_edges, references_of, thread_edges}
use Rattle.cf_loops.proofs.Weights.{same_place, places_apart, threads_apart, held_once}
use Rattle.cf_loops.proofs.Looking.{ids_at, loop_past}
use Rattle.cf_loops.proofs.Leaving.{by_place}
use Rattle.cf_loops.proofs.Telling.{place_of_loop}
use Rattle.cf_loops.proofs.Listing.{weigh_none, weigh_one}

-- ---- references, place by place

abbrev pub place_references : ℕ → List Holding → Place → List Reference
place_references t held q = map (held_by (holder_at t q)) (ids_at q held)

abbrev pub loop_references : ℕ → List Holding → List Reference
loop_references t held = place_references t held Common ++ below (λ m. place_references t held (Mode m)) MODES

abbrev pub thread_references : List Loop → ℕ → List Reference
thread_references loops t = loop_references t (loop_at t loops).held

-- ---- as edges

each_edge : (t : ℕ) (q : Place) (is : List Item)
    → edges_of (map (held_by (holder_at t q)) (map (λ i. i.id) is)) ≡ map (edge_from t q) is
each_edge t q [] = refl
each_edge t q (i ∷ is) = ap (λ (es : List Edge). edge_from t q i ∷ es) (each_edge t q is)

edges_below : (f : ℕ → List Reference) (g : ℕ → List Edge) (n : ℕ) → ((k : ℕ) → edges_of (f k) ≡ g k)
    → edges_of (below f n) ≡ below g n
edges_below f g zero h = ap edges_of (below-none f) ∙ sym (below-none g)
edges_below f g (suc n) h =
    ap edges_of (below-suc f n) ∙ map-append edge_of (below f n) (f n)
    ∙ ap (λ (es : List Edge). es ++ edges_of (f n)) (edges_below f g n h) ∙ ap (λ (es : List Edge). below g n ++ es) (h n) ∙ sym (below-suc g n)

loop_are : (t : ℕ) (held : List Holding) → edges_of (loop_references t held) ≡ loop_edges t held
loop_are t held =
    let common = place_references t held Common in
    let modes = below (λ m. place_references t held (Mode m)) MODES in
    map-append edge_of common modes
    ∙ ap (λ (es : List Edge). es ++ edges_of modes) (each_edge t Common (items_at Common held))
    ∙ ap (λ (es : List Edge). place_edges t held Common ++ es) (edges_below (λ m. place_references t held (Mode m)) (mode_edges t held) MODES (λ m. each_edge t (Mode m) (items_at (Mode m) held)))

-- ---- what they weigh

-- the references of a place are those that its loop has of it
own_place : (t j : ℕ) (q : Place) (hs : List Holding)
    → weigh (one (held_by (holder_at t q) j)) (place_references t hs q) ≡ weigh (one (held_by (holder_at t q) j)) (references_of t hs)
own_place t j q [] = refl
own_place t j q (h ∷ hs) = by (eqb (rank h.place) (rank q)) refl (own_place t j q hs)
  where
    by : (b : Bool) → eqb (rank h.place) (rank q) ≡ b
        → weigh (one (held_by (holder_at t q) j)) (place_references t hs q) ≡ weigh (one (held_by (holder_at t q) j)) (references_of t hs)
        → weigh (one (held_by (holder_at t q) j)) (map (held_by (holder_at t q)) (map (λ i. i.id) (map (λ x. x.item) (cond b (h ∷ filter (λ x. eqb (rank x.place) (rank q)) hs) (filter (λ x. eqb (rank x.place) (rank q)) hs)))))
        ≡ one (held_by (holder_at t q) j) (held_by (holder_at t h.place) h.item.id) + weigh (one (held_by (holder_at t q) j)) (references_of t hs)
    by true e rest =
        let same : one (held_by (holder_at t q) j) (held_by (holder_at t q) h.item.id) ≡ one (held_by (holder_at t q) j) (held_by (holder_at t h.place) h.item.id) =
        ap (λ (p : Place). one (held_by (holder_at t q) j) (held_by (holder_at t p) h.item.id)) (sym (same_place h.place q (eqb-true (rank h.place) (rank q) e))) in
        omega (arith, rest, same)
    by false e rest =
        let none : one (held_by (holder_at t q) j) (held_by (holder_at t h.place) h.item.id) ≡ 0 =
        holders_apart (held_by (holder_at t q) j) (held_by (holder_at t h.place) h.item.id) (λ k. places_apart t t h.place q (eqb-false (rank h.place) (rank q) e) (sym k)) in
        omega (arith, rest, none)

other_place : (r : Reference) (t : ℕ) (p : Place) (hs : List Holding) → (r.holder ≡ holder_at t p → ⊥)
    → weigh (one r) (place_references t hs p) ≡ 0
other_place r t p hs apart = other_weigh r (holder_at t p) (ids_at p hs) apart

no_loop_of : (r : Reference) (t : ℕ) (hs : List Holding) → ((p : Place) → r.holder ≡ holder_at t p → ⊥)
    → weigh (one r) (loop_references t hs) ≡ 0
no_loop_of r t hs apart =
    omega (
      arith,
      weigh-append (one r) (place_references t hs Common) (below (λ m. place_references t hs (Mode m)) MODES),
      other_place r t Common hs (apart Common),
      weigh_none (one r) (λ m. place_references t hs (Mode m)) MODES (λ m lt. other_place r t (Mode m) hs (apart (Mode m))),
    )

module _ (s : Script) (st : State) (loops : List Loop) (h : AreLoops s st.parts st.edges loops) where
  of_place : (t j : ℕ) (q : Place)
      → weigh (one (held_by (holder_at t q) j)) (place_references t (loop_at t loops).held q) ≡ weigh (one (held_by (holder_at t q) j)) st.edges
  of_place t j q =
      own_place t j q (loop_at t loops).held ∙ held_once t j q (loop_at t loops).held (h.loops_are t).ordered.in_order ∙ sym ((h.loops_are t).held q j)

  of_loop : (t j : ℕ) (q : Place)
      → weigh (one (held_by (holder_at t q) j)) (loop_references t (loop_at t loops).held) ≡ weigh (one (held_by (holder_at t q) j)) st.edges
  of_loop t j Common =
      let hs = (loop_at t loops).held in
      let r = held_by (holder_at t Common) j in
      omega (
        arith,
        weigh-append (one r) (place_references t hs Common) (below (λ m. place_references t hs (Mode m)) MODES),
        of_place t j Common,
        weigh_none (one r) (λ m. place_references t hs (Mode m)) MODES (λ m lt. other_place r t (Mode m) hs (places_apart t t Common (Mode m) (λ e. absurd (omega (arith, e))))),
      )
  of_loop t j (Mode n) = elim (cases_lt n MODES) [
    | inl lt ↦
        omega (
          arith,
          weigh-append (one (held_by (holder_at t (Mode n)) j)) (place_references t (loop_at t loops).held Common) (below (λ m. place_references t (loop_at t loops).held (Mode m)) MODES),
          other_place (held_by (holder_at t (Mode n)) j) t Common (loop_at t loops).held (places_apart t t (Mode n) Common (λ e. absurd (omega (arith, e)))),
          weigh_one (one (held_by (holder_at t (Mode n)) j)) (λ m. place_references t (loop_at t loops).held (Mode m)) MODES n lt
              (λ m apart. other_place (held_by (holder_at t (Mode n)) j) t (Mode m) (loop_at t loops).held (places_apart t t (Mode n) (Mode m) (λ e. apart (omega (arith, e))))),
          of_place t j (Mode n),
        )
    | inr le ↦
        let none : holds_at (loop_at t loops).held j (Mode n) ≡ false =
        list_any_none (is_of j (Mode n)) (loop_at t loops).held (All-weaker (λ (x : Holding). rank x.place ≤ MODES) (λ x. is_of j (Mode n) x ≡ false) (λ x low. high x low le) (loop_at t loops).held (h.loops_are t).ordered.below) in
        omega (
          arith,
          weigh-append (one (held_by (holder_at t (Mode n)) j)) (place_references t (loop_at t loops).held Common) (below (λ m. place_references t (loop_at t loops).held (Mode m)) MODES),
          other_place (held_by (holder_at t (Mode n)) j) t Common (loop_at t loops).held (places_apart t t (Mode n) Common (λ e. absurd (omega (arith, e)))),
          weigh_none (one (held_by (holder_at t (Mode n)) j)) (λ m. place_references t (loop_at t loops).held (Mode m)) MODES
              (λ m lt. other_place (held_by (holder_at t (Mode n)) j) t (Mode m) (loop_at t loops).held (places_apart t t (Mode n) (Mode m) (λ e. absurd (omega (arith, e, lt, le))))),
          (h.loops_are t).held (Mode n) j,
          ap counted none,
        )
  ]
    where
      high : (x : Holding) → rank x.place ≤ MODES → MODES ≤ n → is_of j (Mode n) x ≡ false
      high x low le = let f : eqb (rank x.place) (n + 1) ≡ false = ne_eqb (rank x.place) (n + 1) (λ e. absurd (omega (arith, e, low, le))) in rw f refl

  of_threads : (t j : ℕ) (q : Place)
      → weigh (one (held_by (holder_at t q) j)) (below (thread_references loops) (length loops)) ≡ weigh (one (held_by (holder_at t q) j)) st.edges
  of_threads t j q = elim (cases_lt t (length loops)) [
    | inl lt ↦
        weigh_one (one (held_by (holder_at t q) j)) (thread_references loops) (length loops) t lt
        (λ u apart. no_loop_of (held_by (holder_at t q) j) u (loop_at u loops).held (λ p. threads_apart t u q p (λ e. apart (sym e))))
        ∙ of_loop t j q
    | inr le ↦
        weigh_none (one (held_by (holder_at t q) j)) (thread_references loops) (length loops)
        (λ u lt. no_loop_of (held_by (holder_at t q) j) u (loop_at u loops).held (λ p. threads_apart t u q p (λ e. absurd (omega (arith, e, lt, le)))))
        ∙ sym ((h.loops_are t).held q j ∙ ap (λ (l : Loop). counted (holds_at l.held j q)) (loop_past loops t le))
  ]

  same_places : SamePlaces st.edges (below (thread_references loops) (length loops))
  same_places =
      by_place (λ r. IsPlaceOfLoop r.holder → weigh (one r) (below (thread_references loops) (length loops)) ≡ weigh (one r) st.edges)
      (λ t j q is. of_threads t j q) (λ r apart is. absurd (apart is))

  no_others : (r : Reference) → (IsPlaceOfLoop r.holder → ⊥)
      → weigh (one r) (below (thread_references loops) (length loops)) ≡ 0
  no_others r apart =
      weigh_none (one r) (thread_references loops) (length loops)
      (λ u lt. no_loop_of r u (loop_at u loops).held (λ p e. apart (subst IsPlaceOfLoop (sym e) (place_of_loop u p))))

  pub adds_loops : (n : ℕ) (before after : List Edge) → n ≡ length loops
      → after ≡ before ++ below (thread_edges loops) n → AddsLoops st.edges before after
  adds_loops n before after all is = record {
    references = below (thread_references loops) (length loops);
    added = is ∙ ap (λ (es : List Edge). before ++ es) (ap (below (thread_edges loops)) all ∙ sym (edges_below (thread_references loops) (thread_edges loops) (length loops) (λ t. loop_are t (loop_at t loops).held)));
    of_places = same_places;
    of_no_other = no_others;
  }
