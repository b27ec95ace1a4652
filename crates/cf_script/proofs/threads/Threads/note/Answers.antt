-- Answers to the goals of `threads::Threads::note`.
use Rattle.std.proofs.Common.{ℕ, List, ◌∷◌, [], ◌++◌, length, ap, sym, ◌∙◌, arith}
use Rattle.std.proofs.lemmas.List.{length-map, map_push}
use Rattle.cf_syntax.specs.Words.{words}
use Rattle.cf_syntax.specs.Text.{thread_name}
use Rattle.cf_script.specs.TableViews.{name_list}
use Rattle.cf_script.specs.Views.{lent}
use Rattle.cf_script.proofs.ThreadLaws.{names_full, names_kept, names_more}
use Rattle.cf_script.proofs.threads.Threads.note.Goals as goal
use denote.Ref.{Bor}

pub returns-then-len-eq-NAMED : goal.returns-then-len-eq-NAMED
returns-then-len-eq-NAMED c =
    names_full 63 c.args.self.now (thread_name (words c.args.line.now))
    (omega (arith, ap length c.self.view_is, length-map c.self.inside.names.items (λ (w : Bor (List ℕ)). w.now), c.len.ensures, c.if-len-eq-NAMED.true))

pub returns-in_ok-push : goal.returns-in_ok-push
returns-in_ok-push c =
    names_more 63 c.args.self.now (thread_name (words c.args.line.now)) (lent c.push.new.self.items) c.in-Some.name.now
    (omega (arith, ap length c.self.view_is, length-map c.self.inside.names.items (λ (w : Bor (List ℕ)). w.now), c.len.ensures, c.if-len-eq-NAMED.false, c.self.invariant))
    (sym c.in_ok-name.ensures ∙ ap name_list c.in-Some.is)
    (ap lent c.in_ok-push.ensures.items ∙ map_push (λ (w : Bor (List ℕ)). w.now) c.self.inside.names.items c.in-Some.name
    ∙ ap (λ (l : List (List ℕ)). l ++ c.in-Some.name.now ∷ []) c.self.view_is)

pub returns-in_default : goal.returns-in_default
returns-in_default c =
    names_kept 63 c.args.self.now (thread_name (words c.args.line.now))
    (omega (arith, ap length c.self.view_is, length-map c.self.inside.names.items (λ (w : Bor (List ℕ)). w.now), c.self.invariant))
    (sym c.in_ok-name.ensures ∙ ap name_list c.in_default.is)
