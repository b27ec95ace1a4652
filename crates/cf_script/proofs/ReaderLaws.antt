-- A line's statement in the open block, and the fault of a line.
use Rattle.std.proofs.Common.{◌≡◌, ℕ, ◌+◌, Bool, true, false, length, refl, arith, List, [], ◌∷◌, Option, Some, Result, Ok, Err, ap, sym, ◌∙◌}
use Rattle.std.specs.Prelude.{codes, ◌==◌}
use Rattle.std.proofs.lemmas.Bool.{eqb-true}
use Rattle.cf_syntax.specs.declared.script.Script.{Script}
use Rattle.cf_syntax.specs.declared.statement.Statement.{Statement}
use Rattle.cf_syntax.specs.declared.refusal.Refusal.{Refusal}
use Rattle.cf_syntax.specs.declared.refusal.Reason.{Reason}
use Rattle.cf_syntax.specs.Lines.{lines}
use Rattle.cf_syntax.specs.FormWords.{◌>>=◌, Names, With}
use Rattle.cf_syntax.specs.Text.{Reading, Opened, start, is_word, is_handler, with_statement, statement_of, statement_line, place_line, after_line, whole, on_line_after, read_from, named_threads, script_by, script_of}
use Rattle.cf_script.specs.declared.fault.LineFault.{LineFault}
use Rattle.cf_script.specs.declared.fault.LineFault.TheVariants.{Faulty, NoRoom}
use Rattle.cf_script.specs.declared.fault.ScriptFault.{ScriptFault}
use Rattle.cf_script.specs.Gives.{Fails, GivesAs, Gives, GivesFault}
use Rattle.cf_script.specs.BlockViews.{with_line}

-- a reading with the open block and the names after a statement
abbrev put_in : Reading → With Opened → Reading
put_in r x = record r { open_block = Some x.value; names = x.names }

abbrev put_in_all : Reading → Result (With Opened) Reason → Result Reading Reason
put_in_all r found = found >>= (λ x. Ok (put_in r x))

abbrev line_of : Reading → Opened → With Statement → With Opened
line_of r b t = record { names = t.names; value = with_statement b t.value (r.count + 1) }

placed_in : (r : Reading) (b : Opened) (s : Result (With Statement) Reason) (result : Result (Unit {0}) LineFault)
    (x : With Opened)
    → GivesAs (λ _. x) result (s >>= (λ t. Ok (line_of r b t)))
    → GivesAs (λ _. put_in r x) result (s >>= (λ t. Ok (put_in r (line_of r b t))))
placed_in r b (Ok t) (Ok u) x h = ap (put_in_all r) h
placed_in r b (Ok t) (Err (Faulty f)) x h = absurd cc
placed_in r b (Ok t) (Err NoRoom) x h = tt
placed_in r b (Err e) (Ok u) x h = absurd cc
placed_in r b (Err e) (Err (Faulty f)) x h = ap (put_in_all r) h
placed_in r b (Err e) (Err NoRoom) x h = tt

-- a statement in the open block
pub line_placed : (threads : List (List ℕ)) (r : Reading) (b : Opened) (ws : List (List ℕ)) (result : Result (Unit {0}) LineFault) (names : Names)
    (after : Opened)
    → GivesAs (λ _. record { names = names; value = after }) result (with_line r.classes threads r.names b (r.count + 1) ws)
    → GivesAs (λ _. record r { open_block = Some after; names = names }) result (statement_line threads r b ws)
unfolding statement_line
line_placed threads r b ws result names after h =
    placed_in r b (statement_of r.classes threads (is_handler b.kind) r.names ws) result (record { names = names; value = after }) h

pub placed : (threads : List (List ℕ)) (r s : Reading) (o : Option Opened) (b : Opened) (ws : List (List ℕ))
    (result : Result (Unit {0}) LineFault)
    → o ≡ Some b → is_word ws 0 (codes "end") ≡ false
    → GivesAs (λ _. s) result (statement_line threads r b ws)
    → GivesAs (λ _. s) result (place_line threads r o ws)
placed threads r s o b ws result e f h = rw (e, f) h

-- reading on to the end of the text
abbrev pub finish : (threads : List (List ℕ)) → Reading → List (List ℕ) → Result Script Refusal
finish threads r ls = read_from threads r ls >>= (λ s. on_line_after s.count (whole s))

pub script_finish : (bs : List ℕ) → finish (named_threads (lines bs)) start (lines bs) ≡ script_of bs
unfolding script_by
script_finish bs = refl

-- the fault of a line is that of the text
pub line_refused : (threads : List (List ℕ)) (r : Reading) (all : List (List ℕ)) (l : List ℕ) (ls : List (List ℕ)) (bs : List ℕ)
    (fault : LineFault) (err : ScriptFault)
    → finish threads r all ≡ script_of bs → all ≡ l ∷ ls → Fails fault (after_line threads r l)
    → GivesFault r.count fault err → Gives (Err err) (script_of bs)
line_refused threads r all l ls bs (Faulty reason) err so_far is e g =
    rw g (sym so_far ∙ ap (finish threads r) is
    ∙ ap (λ (n : Result Reading Reason). (on_line_after r.count n >>= (λ s. read_from threads s ls)) >>= (λ s. on_line_after s.count (whole s))) e)
line_refused threads r all l ls bs NoRoom err so_far is e g = rw g tt

-- no byte is left where a test says so
pub none_left : (bs : List ℕ) (t : Bool) → t ≡ (length bs == 0) → t ≡ true → bs ≡ []
none_left bs t e f = none bs (eqb-true (length bs) 0 (sym e ∙ f))
  where
    none : (bs : List ℕ) → length bs ≡ 0 → bs ≡ []
    none [] e = refl
    none (b ∷ bs) e = absurd (omega (arith, e))

-- what is made at the end of the text is its script
pub read_whole : (threads : List (List ℕ)) (bs : List ℕ) (r : Reading) (rest : List ℕ) (s : Script) → finish threads r (lines rest) ≡ script_of bs
    → rest ≡ [] → whole r ≡ Ok s → script_of bs ≡ Ok s
read_whole threads bs r rest s so_far none e =
    sym so_far ∙ ap (λ (ls : List ℕ). finish threads r (lines ls)) none ∙ ap (λ (n : Result Script Reason). on_line_after r.count n) e
