-- A line with a statement in the open block.
use Rattle.std.proofs.Common.{◌≡◌, ℕ, Bool, List, Result, Ok, Err, refl, ap, ◌∙◌}
use Rattle.cf_syntax.specs.declared.statement.Statement.{Statement}
use Rattle.cf_syntax.specs.declared.script.ClassLine.{ClassLine}
use Rattle.cf_syntax.specs.declared.refusal.Reason.{Reason}
use Rattle.cf_syntax.specs.FormTable.{FormWord}
use Rattle.cf_syntax.specs.FormWords.{◌>>=◌, form_of, Names, With}
use Rattle.cf_syntax.specs.Text.{Opened, is_handler, with_statement, statement_of}
use Rattle.cf_script.specs.declared.fault.LineFault.{LineFault}
use Rattle.cf_script.specs.declared.fault.LineFault.TheVariants.{Faulty, NoRoom}
use Rattle.cf_script.specs.Gives.{Fails, GivesAs}
use Rattle.cf_script.specs.BlockViews.{with_line, statement_in}

-- a statement that is put behind the others
abbrev pub put : Opened → ℕ → Result (With Statement) Reason → Result (With Opened) Reason
put b line found = found >>= (λ s. Ok (record { names = s.names; value = with_statement b s.value line }))

-- a line is a statement of its form, by names that are the same
pub line_by : (classes : List ClassLine) (threads : List (List ℕ)) (names same : Names) (b : Opened) (line : ℕ) (ws : List (List ℕ))
    (r : FormWord)
    (h : Bool)
    → form_of ws ≡ Ok r → same ≡ names → h ≡ is_handler b.kind
    → with_line classes threads names b line ws ≡ put b line (statement_in classes threads h same r ws)
unfolding statement_of
line_by classes threads names same b line ws r h e en eh = rw (e, en, eh) refl

-- one that fails, and one that is there
pub line_fails : (b : Opened) (line : ℕ) (u : Result (With Statement) Reason) (all : Result (With Opened) Reason)
    (fault : LineFault)
    → all ≡ put b line u → Fails fault u → Fails fault all
line_fails b line u all (Faulty reason) e h = e ∙ ap (put b line) h
line_fails b line u all NoRoom e h = tt

abbrev put_names : Names → Result Opened Reason → Result (With Opened) Reason
put_names names (Ok b) = Ok (record { names = names; value = b })
put_names names (Err e) = Err e

pub line_gives : (b : Opened) (line : ℕ) (u : Result (With Statement) Reason) (all : Result (With Opened) Reason)
    (names : Names) (s : Statement) (after : Opened) (result : Result (Unit {0}) LineFault)
    → all ≡ put b line u → u ≡ Ok (record { names = names; value = s })
    → GivesAs {Y = Opened} (λ _. after) result (Ok (with_statement b s line))
    → GivesAs {Y = With Opened} (λ _. record { names = names; value = after }) result all
line_gives b line u all names s after (Ok x) e f h = e ∙ ap (put b line) f ∙ ap (put_names names) h
line_gives b line u all names s after (Err (Faulty reason)) e f h = absurd cc
line_gives b line u all names s after (Err NoRoom) e f h = tt
