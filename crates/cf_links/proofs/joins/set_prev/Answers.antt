-- Answers to the goals of `joins::set_prev`.
use Rattle.std.proofs.Common.{◌≡◌, refl}
use Rattle.std.proofs.lemmas.Option.{slice_get-get_or}
use Rattle.cf_links.proofs.FieldLemmas.{same_nodes, leads_last}
use Rattle.cf_links.proofs.joins.set_prev.Goals as goal

pub returns-in-Some-clause-same : goal.returns-in-Some-clause-same
returns-in-Some-clause-same g c = same_nodes _ _ _ _ c.index_mut-entry.ensures.value refl

pub returns-in-None-clause-leads : goal.returns-in-None-clause-leads
returns-in-None-clause-leads g c =
    let here : c.list.inside.0 ≡ c.args.list = c.list.view_is in
    rw (here, c.in-None.is) (
    leads_last c.args.nodes.now c.args.ends.now c.args.list _ c.args.to c.requires.made
    (slice_get-get_or c.args.ends.now c.args.list c.index-ends-list.result c.requires.made)
    )
