-- What is found among references, and what is left of them.
use Rattle.std.proofs.Common.{◌≡◌, ℕ, ◌+◌, Bool, true, false, cond, not, nat_lt, List, [], ◌∷◌, ◌++◌, map, remove, Option, Some, None, refl, sym, ap, ◌∙◌, arith, zero-add, append_assoc}
use Rattle.std.proofs.lemmas.Bool.{lt-ltb, ne_eqb}
use Rattle.std.specs.Prelude.{position, ◌==◌, ◌||◌}
use Rattle.std.specs.List.{list_any}
use Rattle.std.specs.Option.{option_to_list}
use Rattle.cf_graph.specs.Holders.{Holder}
use Rattle.cf_graph.specs.Edges.{Reference, counted, degree, one, same, weigh}
use Rattle.cf_graph.specs.Operations.{Operation, add, left_by, moved, run, without}
use Rattle.cf_graph.specs.Flows.{grows, flowed, move_by}
use Rattle.cf_model.specs.Own.{own_reference, own_references, present_of, without_if, moves_to}
use Rattle.cf_plain.proofs.Placing.{placed, absent}
use Rattle.cf_basichash.specs.Members.{members_without}

counted-any : (t : Bool) (n : ℕ) (b : Bool) → nat_lt 0 n ≡ b → nat_lt 0 (counted t + n) ≡ (t || b)
counted-any true n b h = lt-ltb 0 (1 + n) (omega arith)
counted-any false n b h = rw zero-add h

-- a reference is there if one of them is the same
pub there-any : (r : Reference) (es : List Reference) → list_any (same r) es ≡ nat_lt 0 (weigh (one r) es)
there-any r [] = refl
there-any r (e ∷ es) = sym (counted-any (same r e) (weigh (one r) es) (list_any (same r) es) (sym (there-any r es)))

counted-none : (t : Bool) (n : ℕ) (b : Bool) → (n == 0) ≡ not b → (counted t + n == 0) ≡ not (t || b)
counted-none true n b h = ne_eqb (1 + n) 0 (λ e. omega arith)
counted-none false n b h = rw zero-add h

-- no reference leads to an object if none of them does
pub none-any : (o : ℕ) (es : List Reference) → (degree o es == 0) ≡ not (list_any (λ (r : Reference). r.object == o) es)
none-any o [] = refl
none-any o (e ∷ es) = counted-none (e.object == o) (degree o es) (list_any (λ (r : Reference). r.object == o) es) (none-any o es)

without-is : (r : Reference) (es : List Reference) → members_without (same r) es ≡ without r es
without-is r [] = refl
without-is r (e ∷ es) = ap (cond (same r e) es) (ap (λ ys. e ∷ ys) (without-is r es))

pub without-there : (r : Reference) (es : List Reference) (i : ℕ) → position (same r) es ≡ Some i
    → remove es i ≡ without r es
without-there r es i h = (placed (same r) es i h).1.removed ∙ without-is r es

pub without-none : (r : Reference) (es : List Reference) → position (same r) es ≡ None → es ≡ without r es
without-none r es h = sym (absent (same r) es h).removed ∙ without-is r es

-- ---- walks over lists

pub run-next : (r : Reference) (rest others es : List Reference) → rest ≡ r ∷ others
    → run (map add rest) es ≡ run (map add others) (r ∷ es)
run-next r rest others es is = ap (λ rs. run (map add rs) es) is

pub move-next : (h : Holder) (r : Reference) (rest others es now : List Reference) → rest ≡ r ∷ others
    → now ≡ moved r h ∷ without r es
    → run (map move_by (moves_to h rest)) es ≡ run (map move_by (moves_to h others)) now
move-next h r rest others es now is left =
    ap (λ rs. run (map move_by (moves_to h rs)) es) is ∙ ap (run (map move_by (moves_to h others))) (sym left)

run-append : (a b : List Operation) (es : List Reference) → run (a ++ b) es ≡ run b (run a es)
run-append [] b es = refl
run-append (op ∷ ops) b es = run-append ops b (left_by op es)

pub grown : (enters : List Reference) (moves : List Reference) (h : Holder) (es mid now : List Reference)
    → mid ≡ run (map add enters) es → now ≡ run (map move_by (moves_to h moves)) mid
    → now ≡ flowed (grows enters (moves_to h moves)) es
grown enters moves h es mid now first second =
    second ∙ ap (run (map move_by (moves_to h moves))) first
    ∙ sym (run-append (map add enters) (map move_by (moves_to h moves)) es)

pub own-next : (t : ℕ) (own rest others : List Reference) (r : Reference) (q : Option Reference)
    (left now all : List Reference) → rest ≡ r ∷ others → q ≡ own_reference t r.holder r.object left
    → now ≡ without_if q left → own ++ own_references t rest left ≡ all
    → (own ++ option_to_list q) ++ own_references t others now ≡ all
own-next t own rest others r q left now all is found gone h =
    append_assoc own (option_to_list q) (own_references t others now)
    ∙ ap (λ es. own ++ (option_to_list q ++ own_references t others es)) gone
    ∙ ap (λ p. own ++ (option_to_list p ++ own_references t others (without_if p left))) found
    ∙ ap (λ rs. own ++ own_references t rs left) (sym is) ∙ h

pub present-next : (present rest others : List Reference) (r : Reference) (left now all : List Reference)
    → rest ≡ r ∷ others → nat_lt 0 (weigh (one r) left) ≡ true → now ≡ without r left
    → present ++ present_of rest left ≡ all → (present ++ r ∷ []) ++ present_of others now ≡ all
present-next present rest others r left now all is there gone h =
    append_assoc present (r ∷ []) (present_of others now)
    ∙ ap (λ es. present ++ r ∷ present_of others es) gone
    ∙ ap (λ t. present ++ cond t (r ∷ present_of others (without r left)) (present_of others left)) (sym there)
    ∙ ap (λ rs. present ++ present_of rs left) (sym is) ∙ h

pub present-past : (present rest others : List Reference) (r : Reference) (left all : List Reference)
    → rest ≡ r ∷ others → nat_lt 0 (weigh (one r) left) ≡ false
    → present ++ present_of rest left ≡ all → present ++ present_of others left ≡ all
present-past present rest others r left all is there h =
    ap (λ t. present ++ cond t (r ∷ present_of others (without r left)) (present_of others left)) (sym there)
    ∙ ap (λ rs. present ++ present_of rs left) (sym is) ∙ h

pub present-step : (there : Bool) (present more rest others : List Reference) (r : Reference)
    (left now all : List Reference)
    → nat_lt 0 (weigh (one r) left) ≡ there → rest ≡ r ∷ others → now ≡ cond there (without r left) left
    → more ≡ cond there (present ++ r ∷ []) present → present ++ present_of rest left ≡ all
    → more ++ present_of others now ≡ all
present-step true present more rest others r left now all there is gone put h =
    ap (λ xs. xs ++ present_of others now) put ∙ present-next present rest others r left now all is there gone h
present-step false present more rest others r left now all there is gone put h =
    ap (λ xs. xs ++ present_of others now) put ∙ ap (λ es. present ++ present_of others es) gone
    ∙ present-past present rest others r left all is there h
