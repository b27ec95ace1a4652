-- Flows and parts that loops cannot tell.
use Rattle.std.proofs.Common.{◌≡◌, ℕ, zero, suc, Bool, List, [], ◌∷◌, ◌++◌, map, Option, Some, refl, ap, ◌∙◌, subst, arith}
use Rattle.std.specs.Prelude.{slice_get}
use Rattle.cf_ids.specs.declared.numbers.ItemKind.{ItemKind}
use Rattle.cf_syntax.specs.declared.script.Script.{Script}
use Rattle.cf_syntax.specs.declared.statement.Statement.{Statement}
use Rattle.cf_graph.specs.Holders.{Holder, variable, callout, owed, parcel, slot, in_mode, in_common}
use Rattle.cf_graph.specs.Edges.{Reference, held_by, weigh, one}
use Rattle.cf_graph.specs.Operations.{moved}
use Rattle.cf_graph.specs.Flows.{Flow, Move, grows, shrinks, flowed, flow_won, flow_lost, won_by_moves, lost_by_moves, IsThere}
use Rattle.cf_graph.proofs.Flows.{holders_apart, weigh-flow}
use Rattle.cf_contents.specs.Items.{Item, kind_of}
use Rattle.cf_contents.specs.Contents.{Object, Content, item_content}
use Rattle.cf_contents.specs.Deeds.{Change, unchanged, in_text, in_data, in_places, put_pair, remove_pair, add_member, put_member, remove_member, remove_least, in_item, content_after, deed_at, with_change}
use Rattle.cf_model.specs.State.{Parts}
use Rattle.cf_model.specs.Things.{thing_in, thing_of}
use Rattle.cf_model.specs.Own.{moves_to}
use Rattle.cf_model.proofs.DeedLaws.{deed_keeps}
use Rattle.cf_model.proofs.OwnLaws.{IsOf, AllOf}
use Rattle.rl_modes.specs.Loops.{Loop}
use Rattle.cf_loops.specs.Following.{AreLoops, IsPlaceOfLoop, SamePlaces, AllElsewhere, MovesElsewhere, IsElsewhere, SameItems, KeepsKinds, KeepsKind, kind_in}
use Rattle.cf_loops.proofs.Telling.{kept}

-- ---- flows

elsewhere_one : (r q : Reference) → IsPlaceOfLoop r.holder → (IsPlaceOfLoop q.holder → ⊥) → one r q ≡ 0
elsewhere_one r q is apart = holders_apart r q (λ e. apart (subst IsPlaceOfLoop e is))

elsewhere_all : (r : Reference) (rs : List Reference) → IsPlaceOfLoop r.holder → AllElsewhere rs → weigh (one r) rs ≡ 0
elsewhere_all r [] is all = refl
elsewhere_all r (q ∷ rs) is all = omega (arith, elsewhere_one r q is all.0, elsewhere_all r rs is all.1)

elsewhere_moves : (r : Reference) (ms : List Move) → IsPlaceOfLoop r.holder → MovesElsewhere ms
    → (won_by_moves (one r) ms ≡ 0) × (lost_by_moves (one r) ms ≡ 0)
elsewhere_moves r [] is all = (refl, refl)
elsewhere_moves r (m ∷ ms) is all =
    let rest = elsewhere_moves r ms is all.2 in
    (omega (arith, elsewhere_one r (moved m.from m.to) is all.1, rest.0), omega (arith, elsewhere_one r m.from is all.0, rest.1))

elsewhere_flow : (r : Reference) (flow : Flow) → IsPlaceOfLoop r.holder → IsElsewhere flow
    → (flow_won (one r) flow ≡ 0) × (flow_lost (one r) flow ≡ 0)
elsewhere_flow r (grows enters moves) is all =
    let rest = elsewhere_moves r moves is all.1 in
    (omega (arith, elsewhere_all r enters is all.0, rest.0), rest.1)
elsewhere_flow r (shrinks q) is apart = (refl, elsewhere_one r q is apart)

pub places_stay : (flow : Flow) (es : List Reference) → IsElsewhere flow → IsThere flow es
    → SamePlaces es (flowed flow es)
places_stay flow es apart there r is =
    let none = elsewhere_flow r flow is apart in
    omega (arith, weigh-flow (one r) flow es there, none.0, none.1)

pub kept_by_flow : (s : Script) (p q : Parts) (es : List Reference) (flow : Flow) (loops : List Loop)
    → AreLoops s p es loops → SameItems p q → IsElsewhere flow → IsThere flow es → AreLoops s q (flowed flow es) loops
kept_by_flow s p q es flow loops h same apart there = kept s p q es (flowed flow es) loops h same (places_stay flow es apart there)

-- references of one holder, and those that are a thread's own
pub elsewhere_map : (k : Holder) (xs : List ℕ) → (IsPlaceOfLoop k → ⊥) → AllElsewhere (map (held_by k) xs)
elsewhere_map k [] apart = tt
elsewhere_map k (x ∷ xs) apart = (apart, elsewhere_map k xs apart)

pub elsewhere_to : (k : Holder) (rs : List Reference) → (IsPlaceOfLoop k → ⊥) → AllElsewhere rs
    → MovesElsewhere (moves_to k rs)
elsewhere_to k [] apart all = tt
elsewhere_to k (r ∷ rs) apart all = (all.0, apart, elsewhere_to k rs apart all.1)

pub own_elsewhere : (t : ℕ) (h : Holder) → IsOf t h → IsPlaceOfLoop h → ⊥
own_elsewhere t (variable u d v) of is = is
own_elsewhere t (callout u d) of is = is
own_elsewhere t (owed u) of is = is
own_elsewhere t (parcel u k) of is = is
own_elsewhere t (slot b) of is = is
own_elsewhere t (in_mode u m) of is = absurd cc
own_elsewhere t (in_common u) of is = absurd cc

pub elsewhere_own : (t : ℕ) (rs : List Reference) → AllOf t rs → AllElsewhere rs
elsewhere_own t [] all = tt
elsewhere_own t (r ∷ rs) all = (own_elsewhere t r.holder all.0, elsewhere_own t rs all.1)

-- ---- objects

pub kinds_made : (obs more : List Object) → KeepsKinds obs (obs ++ more)
kinds_made [] more i k e = absurd cc
kinds_made (ob ∷ obs) more zero k e = e
kinds_made (ob ∷ obs) more (suc i) k e = kinds_made obs more i k e

item_kind : (change : Change) (handler : ℕ) (info : Option ℕ) (valid : Bool) (item : Item) (k : ItemKind)
    → kind_of item ≡ k → KeepsKind change k
    → kind_in (thing_in (content_after change (item_content handler info valid item))) ≡ Some k
item_kind unchanged handler info valid item k e fits = ap (λ (j : ItemKind). Some j) e
item_kind (in_text x) handler info valid item k e fits = ap (λ (j : ItemKind). Some j) e
item_kind (in_data x) handler info valid item k e fits = ap (λ (j : ItemKind). Some j) e
item_kind (in_places x) handler info valid item k e fits = ap (λ (j : ItemKind). Some j) e
item_kind (put_pair x y) handler info valid item k e fits = ap (λ (j : ItemKind). Some j) e
item_kind (remove_pair x) handler info valid item k e fits = ap (λ (j : ItemKind). Some j) e
item_kind (add_member x) handler info valid item k e fits = ap (λ (j : ItemKind). Some j) e
item_kind (put_member x) handler info valid item k e fits = ap (λ (j : ItemKind). Some j) e
item_kind (remove_member x) handler info valid item k e fits = ap (λ (j : ItemKind). Some j) e
item_kind remove_least handler info valid item k e fits = ap (λ (j : ItemKind). Some j) e
item_kind (in_item v i) handler info valid item k e fits = ap (λ (j : ItemKind). Some j) fits

content_kind : (change : Change) (c : Content) (k : ItemKind) → kind_in (thing_in c) ≡ Some k → KeepsKind change k
    → kind_in (thing_in (content_after change c)) ≡ Some k
content_kind change (item_content handler info valid item) k e fits = item_kind change handler info valid item k (same (kind_of item) k e) fits
  where
    same : (a b : ItemKind) → ◌≡◌ {A = Option ItemKind} (Some a) (Some b) → a ≡ b
    same a b e = cc
content_kind change _ k e fits = absurd cc

pub kinds_changed : (o : ℕ) (change : Change) (obs : List Object)
    → ((k : ItemKind) → kind_in (thing_of (slice_get obs o)) ≡ Some k → KeepsKind change k)
    → KeepsKinds obs (with_change o change obs)
kinds_changed o change [] fits i k e = e
kinds_changed zero change (ob ∷ obs) fits zero k e = content_kind change ob.content k e (fits k e)
kinds_changed zero change (ob ∷ obs) fits (suc i) k e = e
kinds_changed (suc o) change (ob ∷ obs) fits zero k e = e
kinds_changed (suc o) change (ob ∷ obs) fits (suc i) k e = kinds_changed o change obs fits i k e

-- the deed of a statement leaves each item as it is
pub kinds_of_deeds : (s : Script) (o : ℕ) (obs : List Object) (x : Statement) (used : List (Option ℕ))
    → KeepsKinds obs (with_change o (deed_at s.classes obs x used).change obs)
kinds_of_deeds s o obs x used i k e = ap kind_in (deed_keeps s.classes obs x used o i) ∙ e
