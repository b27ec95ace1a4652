-- Answers to the goals of `flow::add_all`.
use Rattle.std.proofs.Common.{◌≡◌, ◌∷◌, ◌∙◌, map, sym, ap}
use Rattle.cf_graph.specs.Operations.{add, run}
use Rattle.cf_references.proofs.Finding.{run-next}
use Rattle.cf_references.proofs.flow.add_all.Goals as goal

pub loop-reference-preserved : goal.loop-reference-preserved
loop-reference-preserved c =
    let h = c.in-Some.ensures.cases in
    let r = c.in-Some.reference.now in
    let es = c.loop-reference.references.items in
    let put : c.insert.new.self.items ≡ r ∷ es = c.in_ok-insert.ensures.items ∙ ap (λ x. x ∷ es) c.copy.ensures in
    ap (run (map add c.in-Some.others.now)) put
    ∙ sym (run-next r c.loop-reference.rest.now c.in-Some.others.now es h.0) ∙ c.loop-reference.invariant
