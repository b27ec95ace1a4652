-- Answers to the goals of `rows::row_of`.
use Rattle.std.proofs.Common.{◌≡◌, Some, None, sym, ◌∙◌, arith}
use Rattle.std.specs.List.{slice_get}
use Rattle.std.proofs.lemmas.Bool.{eqb-true, eqb-false}
use Rattle.std.proofs.lemmas.Option.{same_Some, none-some, gets}
use Rattle.rl_timers.proofs.Tables.{stands_at, row_at-apart, row_at-here}
use Rattle.rl_timers.proofs.rows.row_of.Goals as goal

pub returns-in_err-row : goal.returns-in_err-row
returns-in_err-row c =
    let rows = c.args.rows.now in
    let none : slice_get rows c.place_of.result ≡ None = grind (arith, gets, c.in_err-row.ensures) in
    let stands = stands_at rows c.args.t c.place_of.result c.place_of.ensures.within c.place_of.ensures.lower
    c.place_of.ensures.higher in
    let is = row_at-apart rows c.args.t c.place_of.result c.requires stands
    (λ r found same. none-some r (sym none ∙ found)) in
    cc

pub returns-then-eq : goal.returns-then-eq
returns-then-eq c =
    let rows = c.args.rows.now in
    let row = c.in_ok-row.row.now in
    let found : slice_get rows c.place_of.result ≡ Some row = grind (arith, gets, c.in_ok-row.ensures) in
    let stands = stands_at rows c.args.t c.place_of.result c.place_of.ensures.within c.place_of.ensures.lower
    c.place_of.ensures.higher in
    sym (row_at-here rows c.args.t c.place_of.result row stands found
    (eqb-true row.number c.args.t (sym c.eq.ensures ∙ c.if-eq.true)))

pub returns-else-eq : goal.returns-else-eq
returns-else-eq c =
    let rows = c.args.rows.now in
    let row = c.in_ok-row.row.now in
    let found : slice_get rows c.place_of.result ≡ Some row = grind (arith, gets, c.in_ok-row.ensures) in
    let stands = stands_at rows c.args.t c.place_of.result c.place_of.ensures.within c.place_of.ensures.lower
    c.place_of.ensures.higher in
    sym (row_at-apart rows c.args.t c.place_of.result c.requires stands (λ r there same.
    let one : r ≡ row = same_Some r row (sym there ∙ found) in
    eqb-false row.number c.args.t (sym c.eq.ensures ∙ c.if-eq.false) (rw one at same)))
