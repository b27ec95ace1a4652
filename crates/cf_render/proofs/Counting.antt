-- References, and what entries tell, counted one by one.
use Rattle.std.proofs.Common.{◌≡◌, ℕ, ◌+◌, ◌^◌, ◌<◌, ◌≤◌, Bool, true, false, cond, not, ◌&&◌, List, ◌++◌, [], ◌∷◌, length, take, get_or, refl, sym, ap, ◌∙◌, subst, arith, inl, inr, eqb}
use Rattle.std.specs.Prelude.{count_by, slice_index_or, slice_set, nat_lt}
use Rattle.std.proofs.lemmas.Bool.{eq-eqb}
use Rattle.std.proofs.lemmas.Bool.Decides.{eqb_tells, nat_tests}
use Rattle.std.proofs.lemmas.List.{take_more, get_or-set_same, get_or-set_other, length-take}
use Rattle.std.proofs.lemmas.List.Sums.{sum_by-append, count_by-le-length}
use Rattle.std.proofs.Math.ListN.{length-set}
use Rattle.cf_graph.specs.declared.edge.Edge.{Edge}
use Rattle.cf_graph.specs.Owners.{is_owning}
use Rattle.cf_graph.specs.Degrees.{owns, holds}
use Rattle.cf_render.specs.declared.tally.Tally.{Tally}
use Rattle.cf_graph.specs.Edges.{Reference, edge_of, edges_of, weigh, owning, holding}
use Rattle.cf_render.specs.Ends.{AreOf, nothing, counted_at, with_edge, with_tally, CanTally}

-- the counts of some references
pub record IsTallied (made : ℕ) (es : List Edge) (tallies : List Tally) : Type 0 where
  pub size : length tallies ≡ made
  pub at : (o : ℕ) → o < made → slice_index_or tallies o nothing ≡ counted_at o es

-- of how many references each number is
pub few_counted : (o : ℕ) (es : List Edge)
    → ((counted_at o es).owners ≤ length es) × ((counted_at o es).slots ≤ length es)
few_counted o es = (count_by-le-length (owns o) es, count_by-le-length (holds o) es)

count_push : (p : Edge → Bool) (es : List Edge) (e : Edge)
    → count_by p (es ++ e ∷ []) ≡ count_by p es + cond {A = ℕ} (p e) 1 0
count_push p es e = sum_by-append (λ (x : Edge). cond {A = ℕ} (p x) 1 0) es (e ∷ []) ∙ omega arith

tally_is : (a b m n : ℕ) → a ≡ m → b ≡ n
    → ◌≡◌ {A = Tally} (record { owners = a; slots = b }) (record { owners = m; slots = n })
tally_is a b m n p q = rw (p, q) refl

-- one reference more, to its own object and to another
own_more : (owning : Bool) (o : ℕ) (es : List Edge) (e : Edge) → e.object ≡ o → is_owning e.owner ≡ owning
    → counted_at o (es ++ e ∷ []) ≡ with_edge (counted_at o es) e
own_more true o es e here own =
    let leads : eqb e.object o ≡ true = eq-eqb e.object o here in
    rw own (tally_is _ _ (count_by (owns o) es + 1) (count_by (holds o) es)
    (count_push (owns o) es e ∙ ap (λ (b : Bool). count_by (owns o) es + cond {A = ℕ} (b && is_owning e.owner) 1 0) leads ∙ ap (λ (b : Bool). count_by (owns o) es + cond {A = ℕ} b 1 0) own)
    (count_push (holds o) es e ∙ ap (λ (b : Bool). count_by (holds o) es + cond {A = ℕ} (b && not (is_owning e.owner)) 1 0) leads ∙ ap (λ (b : Bool). count_by (holds o) es + cond {A = ℕ} (not b) 1 0) own ∙ omega arith))
own_more false o es e here own =
    let leads : eqb e.object o ≡ true = eq-eqb e.object o here in
    rw own (tally_is _ _ (count_by (owns o) es) (count_by (holds o) es + 1)
    (count_push (owns o) es e ∙ ap (λ (b : Bool). count_by (owns o) es + cond {A = ℕ} (b && is_owning e.owner) 1 0) leads ∙ ap (λ (b : Bool). count_by (owns o) es + cond {A = ℕ} b 1 0) own ∙ omega arith)
    (count_push (holds o) es e ∙ ap (λ (b : Bool). count_by (holds o) es + cond {A = ℕ} (b && not (is_owning e.owner)) 1 0) leads ∙ ap (λ (b : Bool). count_by (holds o) es + cond {A = ℕ} (not b) 1 0) own))

other_more : (o : ℕ) (es : List Edge) (e : Edge) → eqb e.object o ≡ false
    → counted_at o (es ++ e ∷ []) ≡ counted_at o es
other_more o es e apart =
    tally_is _ _ (count_by (owns o) es) (count_by (holds o) es)
    (count_push (owns o) es e ∙ ap (λ (b : Bool). count_by (owns o) es + cond {A = ℕ} (b && is_owning e.owner) 1 0) apart ∙ omega arith)
    (count_push (holds o) es e ∙ ap (λ (b : Bool). count_by (holds o) es + cond {A = ℕ} (b && not (is_owning e.owner)) 1 0) apart ∙ omega arith)

module _ (made : ℕ) (es : List Edge) (i : ℕ) (e : Edge) (lt : i < length es) (is : e ≡ get_or es i e) where
  more : take (i + 1) es ≡ take i es ++ e ∷ []
  more = take_more es i e lt ∙ ap (λ (x : Edge). take i es ++ x ∷ []) (sym is)

  -- the counts with one reference more, which leads to an object that was made
  tallied_here : (tallies : List Tally) → e.object < made → IsTallied made (take i es) tallies
      → IsTallied made (take (i + 1) es)
      (slice_set tallies e.object (with_edge (slice_index_or tallies e.object nothing) e))
  tallied_here tallies here h = record {
    size = length-set tallies e.object _ ∙ h.size;
    at = λ o below. elim (eqb_tells e.object o) [
      | inl same ↦
          subst (λ (p : ℕ). slice_index_or (slice_set tallies e.object (with_edge (slice_index_or tallies e.object nothing) e)) p nothing ≡ counted_at p (take (i + 1) es)) same.1
          (get_or-set_same tallies e.object _ nothing (omega (arith, h.size, here))
          ∙ ap (λ (t : Tally). with_edge t e) (h.at e.object here)
          ∙ sym (own_more (is_owning e.owner) e.object (take i es) e refl refl)
          ∙ ap (counted_at e.object) (sym more))
      | inr other ↦
          get_or-set_other tallies e.object o _ nothing (λ q. other.1 (sym q))
          ∙ h.at o below ∙ sym (other_more o (take i es) e other.0) ∙ ap (counted_at o) (sym more)
    ];
  }

  -- and which leads elsewhere
  tallied_past : (tallies : List Tally) → made ≤ e.object → IsTallied made (take i es) tallies
      → IsTallied made (take (i + 1) es) tallies
  tallied_past tallies past h = record {
    size = h.size;
    at = λ o below. elim (eqb_tells e.object o) [
      | inl same ↦ absurd (omega (arith, same.1, past, below))
      | inr other ↦ h.at o below ∙ sym (other_more o (take i es) e other.0) ∙ ap (counted_at o) (sym more)
    ];
  }

  -- the counts with it, wherever it leads
  tallied_if : (tallies : List Tally) (b : Bool) → nat_lt e.object (length tallies) ≡ b
      → IsTallied made (take i es) tallies
      → IsTallied made (take (i + 1) es)
      (cond b (slice_set tallies e.object (with_edge (slice_index_or tallies e.object nothing) e)) tallies)
  tallied_if tallies true t h = tallied_here tallies (let lt : e.object < length tallies = grind (arith, nat_tests) in omega (arith, lt, h.size)) h
  tallied_if tallies false t h = tallied_past tallies (let le : length tallies ≤ e.object = grind (arith, nat_tests) in omega (arith, le, h.size)) h

  pub tallied_more : (tallies next : List Tally) → next ≡ with_tally tallies e → IsTallied made (take i es) tallies
      → IsTallied made (take (i + 1) es) next
  tallied_more tallies next q h = rw q (tallied_if tallies (nat_lt e.object (length tallies)) refl h)

  -- there is room for one more
  pub tally_fits : (tallies : List Tally) → length es + 1 < 2 ^ 64 → IsTallied made (take i es) tallies
      → CanTally tallies e
  tally_fits tallies few h here =
      let at = h.at e.object (omega (arith, h.size, here)) in
      let most = few_counted e.object (take i es) in
      let within : length (take i es) ≤ length es = omega (arith, length-take i es) in
      (omega (arith, ap (λ (t : Tally). t.owners) at, most.0, within, few), omega (arith, ap (λ (t : Tally). t.slots) at, most.1, within, few))

-- ---- edges in any order

count_first : (p : Edge → Bool) (e : Edge) (es : List Edge)
    → count_by p (e ∷ es) ≡ cond {A = ℕ} (p e) 1 0 + count_by p es
count_first p e es = sum_by-append (λ (x : Edge). cond {A = ℕ} (p x) 1 0) (e ∷ []) es ∙ omega arith

count_owned : (o : ℕ) (rs : List Reference) → count_by (owns o) (edges_of rs) ≡ weigh (owning o) rs
count_owned o [] = refl
count_owned o (r ∷ rs) = count_first (owns o) (edge_of r) (edges_of rs) ∙ ap (λ (n : ℕ). owning o r + n) (count_owned o rs)

count_held : (o : ℕ) (rs : List Reference) → count_by (holds o) (edges_of rs) ≡ weigh (holding o) rs
count_held o [] = refl
count_held o (r ∷ rs) = count_first (holds o) (edge_of r) (edges_of rs) ∙ ap (λ (n : ℕ). holding o r + n) (count_held o rs)

pub in_any_order : (es : List Edge) (rs : List Reference)
    → ((p : Edge → Bool) → count_by p es ≡ count_by p (edges_of rs)) → AreOf es rs
in_any_order es rs same = record {
  owned = λ o. same (owns o) ∙ count_owned o rs;
  held = λ o. same (holds o) ∙ count_held o rs;
}
