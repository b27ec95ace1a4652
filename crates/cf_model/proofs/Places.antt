-- Holders that are no threads: places of loops and slots of bodies, and what references of them weigh.
use Rattle.std.proofs.Common.{◌≡◌, ℕ, ◌<◌, Bool, true, false, cond, List, [], ◌∷◌, ◌++◌, map, eqb, ltb, refl, sym, ap, subst, arith, inl, inr}
use Rattle.std.specs.Prelude.{filter, flat_map}
use Rattle.std.proofs.lemmas.Bool.{eq-eqb}
use Rattle.std.proofs.lemmas.Bool.Decides.{eqb_tells}
use Rattle.rl_base.specs.declared.places.Place.{Place}
use Rattle.rl_base.specs.declared.places.Place.TheVariants.{Common, Mode}
use Rattle.cf_syntax.specs.declared.script.Script.{Script}
use Rattle.cf_contents.specs.Contents.{times}
use Rattle.cf_graph.specs.Holders.{Holder, variable, callout, owed, parcel, slot, in_mode, in_common, code_of}
use Rattle.cf_graph.specs.Edges.{Reference, held_by, weigh, one, counted, degree}
use Rattle.cf_graph.specs.Operations.{without}
use Rattle.cf_graph.specs.Flows.{lost_by_moves, won_by_moves}
use Rattle.cf_graph.proofs.Flows.{IsOwn, AllOwn, MovesOwn, holders_apart, one_own}
use Rattle.cf_model.specs.State.{threads_of}
use Rattle.cf_model.specs.Own.{present_of, moves_to}
use Rattle.cf_model.specs.Deals.{holder_at, held_at, loop_places, every_place}

-- ---- holders that are no thread's

abbrev pub IsPlace : Holder → Type 0
IsPlace (variable t d v) = ⊥
IsPlace (callout t d) = ⊥
IsPlace (owed t) = ⊥
IsPlace _ = Unit {0}

abbrev pub AllPlaces : List Reference → Type 0
AllPlaces [] = Unit {0}
AllPlaces (r ∷ rs) = IsPlace r.holder × AllPlaces rs

pub places_weigh : (r : Reference) (rs : List Reference) → (IsPlace r.holder → ⊥) → AllPlaces rs → weigh (one r) rs ≡ 0
places_weigh r [] h all = refl
places_weigh r (q ∷ rs) h all = omega (arith, holders_apart r q (λ e. h (subst IsPlace (sym e) all.0)), places_weigh r rs h all.1)

place_own : (t : ℕ) (h : Holder) → IsPlace h → IsOwn t h
place_own t (variable u d v) h = absurd h
place_own t (callout u d) h = absurd h
place_own t (owed u) h = absurd h
place_own t (parcel u k) h = tt
place_own t (slot b) h = tt
place_own t (in_mode u m) h = tt
place_own t (in_common u) h = tt

pub places_own : (t : ℕ) (rs : List Reference) → AllPlaces rs → AllOwn t rs
places_own t [] h = tt
places_own t (r ∷ rs) h = (place_own t r.holder h.0, places_own t rs h.1)

pub owed_own : (t : ℕ) (rs : List Reference) → AllPlaces rs → MovesOwn t (moves_to (owed t) rs)
owed_own t [] h = tt
owed_own t (r ∷ rs) h = (place_own t r.holder h.0, refl, owed_own t rs h.1)

-- ---- what goes to a holder

pub moves_lost : (k : Holder) (g : Reference → ℕ) (rs : List Reference) → lost_by_moves g (moves_to k rs) ≡ weigh g rs
moves_lost k g [] = refl
moves_lost k g (r ∷ rs) = omega (arith, moves_lost k g rs)

abbrev pub objects_in : List Reference → List ℕ
objects_in rs = map (λ r. r.object) rs

pub moves_won : (k : Holder) (o : ℕ) (rs : List Reference)
    → won_by_moves (one (held_by k o)) (moves_to k rs) ≡ times o (objects_in rs)
moves_won k o [] = refl
moves_won k o (r ∷ rs) = omega (arith, one_own k o r.object, moves_won k o rs)

pub moves_other : (k : Holder) (q : Reference) (rs : List Reference) → (q.holder ≡ k → ⊥)
    → won_by_moves (one q) (moves_to k rs) ≡ 0
moves_other k q [] h = refl
moves_other k q (r ∷ rs) h = omega (arith, holders_apart q (held_by k r.object) h, moves_other k q rs h)

-- holders of different kinds are apart
pub kinds_apart : (a b : Holder) → eqb (code_of a).kind (code_of b).kind ≡ false → a ≡ b → ⊥
kinds_apart a b e q = no_test (code_of a).kind (code_of b).kind e (ap (λ h. (code_of h).kind) q)
  where
    no_test : (m n : ℕ) → eqb m n ≡ false → m ≡ n → ⊥
    no_test m n e q = let t : eqb m n ≡ true = eq-eqb m n q in absurd cc

-- ---- holders of loops

abbrev pub IsLoop : Holder → Type 0
IsLoop (in_mode t m) = Unit {0}
IsLoop (in_common t) = Unit {0}
IsLoop _ = ⊥

abbrev pub AllLoop : List Reference → Type 0
AllLoop [] = Unit {0}
AllLoop (r ∷ rs) = IsLoop r.holder × AllLoop rs

loop_place : (h : Holder) → IsLoop h → IsPlace h
loop_place (variable t d v) h = absurd h
loop_place (callout t d) h = absurd h
loop_place (owed t) h = absurd h
loop_place (parcel t k) h = tt
loop_place (slot b) h = tt
loop_place (in_mode t m) h = tt
loop_place (in_common t) h = tt

pub loops_are_places : (rs : List Reference) → AllLoop rs → AllPlaces rs
loops_are_places [] h = tt
loops_are_places (r ∷ rs) h = (loop_place r.holder h.0, loops_are_places rs h.1)

pub loop_slots : (b o : ℕ) (rs : List Reference) → AllLoop rs → weigh (one (held_by (slot b) o)) rs ≡ 0
loop_slots b o [] h = refl
loop_slots b o (r ∷ rs) h =
    omega (arith, holders_apart (held_by (slot b) o) r (λ e. subst IsLoop (sym e) h.0), loop_slots b o rs h.1)

loop_append : (es fs : List Reference) → AllLoop es → AllLoop fs → AllLoop (es ++ fs)
loop_append [] fs a b = b
loop_append (e ∷ es) fs a b = (a.0, loop_append es fs a.1 b)

holder_loop : (u : ℕ) (p : Place) → IsLoop (holder_at u p)
holder_loop u Common = tt
holder_loop u (Mode m) = tt

pub held_loop : (u i : ℕ) (ps : List Place) → AllLoop (held_at u i ps)
held_loop u i [] = tt
held_loop u i (p ∷ ps) = (holder_loop u p, held_loop u i ps)

pub items_loop : (u m : ℕ) (is : List ℕ) → AllLoop (map (held_by (in_mode u m)) is)
items_loop u m [] = tt
items_loop u m (i ∷ is) = (tt, items_loop u m is)

threads_loop : (s : Script) (i : ℕ) (es : List Reference) (us : List ℕ)
    → AllLoop (flat_map (λ u. held_at u i (loop_places s u i es)) us)
threads_loop s i es [] = tt
threads_loop s i es (u ∷ us) =
    loop_append (held_at u i (loop_places s u i es)) (flat_map (λ w. held_at w i (loop_places s w i es)) us)
    (held_loop u i (loop_places s u i es)) (threads_loop s i es us)

pub every_loop : (s : Script) (i : ℕ) (es : List Reference) → AllLoop (every_place s i es)
every_loop s i es = threads_loop s i es (threads_of s)

pub present_loop : (rs es : List Reference) → AllLoop rs → AllLoop (present_of rs es)
present_loop [] es h = tt
present_loop (q ∷ rs) es h = by (ltb 0 (weigh (one q) es)) (present_loop rs (without q es) h.1) (present_loop rs es h.1)
  where
    by : (b : Bool) → AllLoop (present_of rs (without q es)) → AllLoop (present_of rs es)
        → AllLoop (cond b (q ∷ present_of rs (without q es)) (present_of rs es))
    by true a z = (h.0, a)
    by false a z = z

-- ---- objects that references lead to

pub held_objects : (k : Holder) (o : ℕ) (os : List ℕ) → degree o (map (held_by k) os) ≡ times o os
held_objects k o [] = refl
held_objects k o (x ∷ os) = omega (arith, held_objects k o os)

abbrev pub AllLead : (ℕ → Type 0) → List Reference → Type 0
AllLead P [] = Unit {0}
AllLead P (r ∷ rs) = P r.object × AllLead P rs

pub all_lead : (P : ℕ → Type 0) (o : ℕ) (rs : List Reference) → AllLead P rs → 0 < degree o rs → P o
all_lead P o [] h some = absurd (omega arith)
all_lead P o (r ∷ rs) h some = elim (eqb_tells r.object o) [
  | inl e ↦ subst P e.1 h.0
  | inr e ↦ all_lead P o rs h.1 (let none : counted (eqb r.object o) ≡ 0 = ap counted e.0 in omega arith)
]

pub held_lead : (P : ℕ → Type 0) (u i : ℕ) (ps : List Place) → P i → AllLead P (held_at u i ps)
held_lead P u i [] h = tt
held_lead P u i (p ∷ ps) h = (h, held_lead P u i ps h)

-- of a list of objects, those that pass a test
pub items_lead : (P : ℕ → Type 0) (k : Holder) (test : ℕ → Bool) (is : List ℕ) → ((i : ℕ) → test i ≡ true → P i)
    → AllLead P (map (held_by k) (filter test is))
items_lead P k test [] h = tt
items_lead P k test (i ∷ is) h = by (test i) refl (items_lead P k test is h)
  where
    by : (b : Bool) → test i ≡ b → AllLead P (map (held_by k) (filter test is))
        → AllLead P (map (held_by k) (cond b (i ∷ filter test is) (filter test is)))
    by true e rest = (h i e, rest)
    by false e rest = rest

pub filter_lead : (P : ℕ → Type 0) (k : Holder) (test : ℕ → Bool) (is : List ℕ) → AllLead P (map (held_by k) is)
    → AllLead P (map (held_by k) (filter test is))
filter_lead P k test [] h = tt
filter_lead P k test (i ∷ is) h = by (test i) (filter_lead P k test is h.1)
  where
    by : (b : Bool) → AllLead P (map (held_by k) (filter test is))
        → AllLead P (map (held_by k) (cond b (i ∷ filter test is) (filter test is)))
    by true rest = (h.0, rest)
    by false rest = rest
