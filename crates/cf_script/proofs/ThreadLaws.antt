-- The names of a text's threads.
use Rattle.std.proofs.Common.{◌≡◌, ℕ, zero, suc, ◌+◌, ◌<◌, ◌≤◌, Bool, true, false, cond, ltb, List, [], ◌∷◌, ◌++◌, length, take, Option, Some, None, refl, ap, sym, ◌∙◌, arith}
use Rattle.std.specs.Prelude.{position}
use Rattle.std.specs.Option.{option_map}
use Rattle.std.specs.List.{position_or_len}
use Rattle.std.specs.Str.{bytes_eq}
use Rattle.std.proofs.lemmas.List.{append_assoc, append-nil, length-append, length-map, take_all, take_at}
use Rattle.cf_syntax.specs.FormStatements.{thread_named}
use Rattle.cf_syntax.specs.Words.{words}
use Rattle.cf_syntax.specs.Text.{thread_name, thread_names}
use Rattle.cf_script.specs.Views.{lent}
use Rattle.cf_script.proofs.NameLaws.{position_name}
use denote.Ref.{Bor}

-- names more go after those that are kept
take_take : (k : ℕ) (xs ys : List (List ℕ)) → take k (take k xs ++ ys) ≡ take k (xs ++ ys)
take_take zero xs ys = refl
take_take (suc k) [] ys = refl
take_take (suc k) (x ∷ xs) ys = ap (λ (l : List (List ℕ)). x ∷ l) (take_take k xs ys)

-- the names so far with those of the lines that are left are those of the text
pub names_on : (k : ℕ) (names after : List (List ℕ)) (all rest next : List (List ℕ)) (line : List ℕ)
    → take k (names ++ thread_names rest) ≡ take k (thread_names all) → rest ≡ line ∷ next
    → after ≡ take k (names ++ thread_name (words line))
    → take k (after ++ thread_names next) ≡ take k (thread_names all)
names_on k names after all rest next line so_far is e =
    ap (λ (l : List (List ℕ)). take k (l ++ thread_names next)) e
    ∙ take_take k (names ++ thread_name (words line)) (thread_names next)
    ∙ ap (take k) (append_assoc names (thread_name (words line)) (thread_names next))
    ∙ sym (ap (λ (l : List (List ℕ)). take k (names ++ thread_names l)) is) ∙ so_far

pub names_whole : (k : ℕ) (names all rest : List (List ℕ)) → take k (names ++ thread_names rest) ≡ take k (thread_names all)
    → rest ≡ [] → length names ≤ k → names ≡ take k (thread_names all)
names_whole k names all rest so_far none few =
    sym (take_all k names few) ∙ sym (ap (take k) (append-nil names))
    ∙ sym (ap (λ (l : List (List ℕ)). take k (names ++ thread_names l)) none) ∙ so_far

-- a line that brings no name, or one for which there is no room
pub names_kept : (k : ℕ) (names more : List (List ℕ)) → length names ≤ k → more ≡ [] → names ≡ take k (names ++ more)
names_kept k names more few none =
    sym (take_all k names few) ∙ sym (ap (take k) (append-nil names)) ∙ sym (ap (λ (l : List (List ℕ)). take k (names ++ l)) none)

pub names_full : (k : ℕ) (names more : List (List ℕ)) → length names ≡ k → names ≡ take k (names ++ more)
names_full k names more e = sym (take_at names more k e)

-- and one that brings a name
pub names_more : (k : ℕ) (names more after : List (List ℕ)) (name : List ℕ) → length names < k → more ≡ name ∷ []
    → after ≡ names ++ name ∷ [] → after ≡ take k (names ++ more)
names_more k names more after name lt is e =
    e ∙ sym (take_all k (names ++ name ∷ []) (omega (arith, lt, length-append names (name ∷ []))))
    ∙ ap (λ (l : List (List ℕ)). take k (names ++ l)) (sym is)

-- the number of a thread by the place of its name
next_of : (t : Bool) (n : ℕ) → option_map (λ i. i + 1) (cond t (Some n) None) ≡ cond t (Some (n + 1)) None
next_of true n = refl
next_of false n = refl

pub thread_is : (names : List (Bor (List ℕ))) (word : List ℕ) (place : Option ℕ)
    → place ≡ position (λ n. bytes_eq word n.now) names → option_map (λ i. i + 1) place ≡ thread_named (lent names) word
thread_is names word place e =
    let n = position_or_len (λ (w : Bor (List ℕ)). bytes_eq word w.now) names in
    rw (e, position_name (λ (w : Bor (List ℕ)). w.now) word names, length-map names (λ (w : Bor (List ℕ)). w.now))
    (next_of (ltb n (length names)) n)

pub no_names : (k : ℕ) (names all : List (List ℕ)) → names ≡ [] → take k (names ++ all) ≡ take k all
no_names k names all e = ap (λ (l : List (List ℕ)). take k (l ++ all)) e
