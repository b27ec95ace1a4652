-- The closure law: where owning references lead to marked objects, and slots of marked bodies too, every object to
-- which a path leads is marked. And what a walk keeps.
use Rattle.std.proofs.Common.{◌≡◌, ℕ, ◌+◌, ◌<◌, ◌≢◌, ◌⊎◌, ◌↔◌, inl, inr, Bool, true, false, List, [], ◌∷◌, ◌++◌, length, get_or, refl, sym, ap, ◌∙◌, subst, arith}
use Rattle.std.specs.Prelude.{Contains}
use Rattle.std.proofs.lemmas.Bool.{cases_lt, false≢true}
use Rattle.std.proofs.lemmas.List.{length-map, get_or-map, get_or_past}
use Rattle.std.proofs.lemmas.List.Elements.{Contains-get_or, Contains-append_left, Contains-push, Contains-push_cases}
use Rattle.cf_graph.specs.declared.edge.Edge.{Edge}
use Rattle.cf_graph.specs.declared.edge.Owner.{Owner}
use Rattle.cf_graph.specs.declared.edge.Owner.TheVariants.{Thread, Parcel, Slot, Mode, Common}
use Rattle.cf_graph.specs.Owners.{is_owning}
use Rattle.cf_graph.specs.Paths.{Reaches, owned, inside}
use Rattle.cf_graph.specs.Walks.{source, sources, targets, Marked, Leads, Grows}

pub sources-at : (es : List Edge) (i : ℕ) (d : Edge) → i < length es
    → get_or (sources es) i 0 ≡ source (get_or es i d).owner
sources-at es i d h = get_or-map (λ (e : Edge). source e.owner) es i d 0 h

pub targets-at : (es : List Edge) (i : ℕ) (d : Edge) → i < length es
    → get_or (targets es) i 0 ≡ (get_or es i d).object + 2
targets-at es i d h = get_or-map (λ (e : Edge). e.object + 2) es i d 0 h

source-owning : (w : Owner) → is_owning w ≡ true → source w ≡ 0
source-owning (Thread t) e = refl
source-owning (Parcel t) e = refl
source-owning (Slot b) e = absurd (false≢true e)
source-owning (Mode t m) e = absurd (false≢true e)
source-owning (Common t) e = absurd (false≢true e)

-- each reference from a marked place leads to a marked one
abbrev pub IsClosed : List Edge → List Bool → Type 0
IsClosed es m = (j : ℕ) → j < length (sources es) → Marked m (get_or (sources es) j 0)
    → Marked m (get_or (targets es) j 0)

closed-at : (es : List Edge) (m : List Bool) (e : Edge) (p : ℕ) → IsClosed es m → Contains es e → source e.owner ≡ p
    → Marked m p → Marked m (e.object + 2)
closed-at es m e p closed c from marked =
    let k : ℕ = c.0 in
    let within : k < length es = c.1 in
    let fits : k < length (sources es) =
    subst (λ (n : ℕ). k < n) (sym (length-map es (λ (x : Edge). source x.owner))) within in
    let src : get_or (sources es) k 0 ≡ p = sources-at es k e within ∙ ap (λ (x : Edge). source x.owner) c.2 ∙ from in
    let dst : get_or (targets es) k 0 ≡ e.object + 2 = targets-at es k e within ∙ ap (λ (x : Edge). x.object + 2) c.2 in
    subst (λ (q : ℕ). Marked m q) dst (closed k fits (subst (λ (q : ℕ). Marked m q) (sym src) marked))

pub marked-reached : (es : List Edge) (m : List Bool) (o : ℕ) → Marked m 0 → IsClosed es m → Reaches es o
    → Marked m (o + 2)
marked-reached es m o root closed (owned e c owning) = closed-at es m e 0 closed c (source-owning e.owner owning) root
marked-reached es m o root closed (inside e b c at r) =
    closed-at es m e (b + 2) closed c (ap source at) (marked-reached es m b root closed r)

-- a place that may be marked: it is that of threads and parcels, or that of an object to which a path leads
pub record IsLed (es : List Edge) (p : ℕ) : Type 0 where
  pub some_place : p ≢ 1
  pub led : (o : ℕ) → p ≡ o + 2 → Reaches es o

led-owner : (es : List Edge) (e : Edge) (w : Owner) → e.owner ≡ w → Contains es e → IsLed es (source w)
    → Reaches es e.object
led-owner es e (Thread t) at c l = owned e c (ap is_owning at)
led-owner es e (Parcel t) at c l = owned e c (ap is_owning at)
led-owner es e (Slot b) at c l = inside e b c at (l.led b refl)
led-owner es e (Mode t m) at c l = absurd (l.some_place refl)
led-owner es e (Common t) at c l = absurd (l.some_place refl)

led-edge : (es : List Edge) (e : Edge) (p q : ℕ) → Contains es e → source e.owner ≡ p → e.object + 2 ≡ q → IsLed es p
    → IsLed es q
led-edge es e p q c from to l =
    let reached : Reaches es e.object = led-owner es e e.owner refl c (subst (λ (x : ℕ). IsLed es x) (sym from) l) in
    record {
      some_place = λ h. omega arith;
      led = λ o h. (let same : e.object ≡ o = omega arith in subst (λ (x : ℕ). Reaches es x) same reached);
    }

led-step : (es : List Edge) (p q : ℕ) → Leads (sources es) (targets es) p q → IsLed es p → IsLed es q
led-step [] p q l led = absurd (omega (arith, l.within))
led-step (d ∷ es) p q l led =
    let within : l.at < length (d ∷ es) =
    subst (λ (n : ℕ). l.at < n) (length-map (d ∷ es) (λ (x : Edge). source x.owner)) l.within in
    led-edge (d ∷ es) (get_or (d ∷ es) l.at d) p q (Contains-get_or (d ∷ es) l.at d within)
    (sym (sources-at (d ∷ es) l.at d within) ∙ l.from) (sym (targets-at (d ∷ es) l.at d within) ∙ l.to) led

-- what a walk keeps: each mark is a place to which a path leads, and of each marked place that does not wait on the
-- stack, each reference leads to a marked one
pub record IsWalk (es : List Edge) (m : List Bool) (s : List ℕ) : Type 0 where
  pub size : length m ≡ 66562
  pub root : Marked m 0
  pub led : (q : ℕ) → Marked m q → IsLed es q
  pub waiting : (q : ℕ) → Contains s q → Marked m q
  pub settled : (q : ℕ) → Marked m q → Contains s q
      ⊎ ((j : ℕ) → j < length (sources es) → get_or (sources es) j 0 ≡ q → Marked m (get_or (targets es) j 0))

-- a place on the stack is a place
pub walk-place : (es : List Edge) (m : List Bool) (s : List ℕ) (p : ℕ) → IsWalk es m (s ++ p ∷ []) → p < 66562
walk-place es m s p w = elim (cases_lt p 66562) [
  | inl lt ↦ lt
  | inr ge ↦ absurd (false≢true (sym (get_or_past m p false (omega (arith, w.size))) ∙ w.waiting p (Contains-push s p)))
]

-- the references of one place that waited are followed
pub walk-more : (es : List Edge) (m new : List Bool) (s has : List ℕ) (p : ℕ) → IsWalk es m (s ++ p ∷ [])
    → Grows (sources es) (targets es) p 0 m new s has → IsWalk es new has
walk-more es m new s has p w g = record {
  size = g.size ∙ w.size;
  root = g.kept 0 w.root;
  led = λ q h. elim (g.found q h) [
    | inl before ↦ w.led q before
    | inr found ↦ led-step es p q found.1 (w.led p (w.waiting p (Contains-push s p)))
  ];
  waiting = λ q h. elim (g.waiting q h) [
    | inl before ↦ g.kept q (w.waiting q (Contains-append_left s (p ∷ []) q before))
    | inr marked ↦ marked
  ];
  settled = λ q h. elim (g.found q h) [
    | inl before ↦ elim (w.settled q before) [
      | inl waits ↦ elim (Contains-push_cases s p q waits) [
        | inl still ↦ inl (g.stacked q still)
        | inr same ↦ inr (λ j b e. g.followed j (omega arith) b (e ∙ sym same))
      ]
      | inr followed ↦ inr (λ j b e. g.kept _ (followed j b e))
    ]
    | inr found ↦ inl found.0
  ];
}

-- where nothing waits, the marked objects are those to which a path leads
pub walk-all : (es : List Edge) (m : List Bool) (s : List ℕ) (o : ℕ) → length s ≡ 0 → IsWalk es m s
    → Marked m (o + 2) ↔ Reaches es o
walk-all es m s o empty w = (
  (λ h. (w.led (o + 2) h).led o refl),
  (λ r. marked-reached es m o w.root (λ j b marked. elim (w.settled _ marked) [
    | inl waits ↦ absurd (omega (arith, waits.1, empty))
    | inr followed ↦ followed j b refl
  ]) r),
)
