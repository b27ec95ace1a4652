-- Answers to the goals of `reference::take_out`.
use Rattle.std.proofs.Common.{◌≡◌, ◌∙◌, Some, None}
use Rattle.std.specs.Prelude.{position}
use Rattle.cf_graph.specs.Edges.{same}
use Rattle.cf_references.proofs.Finding.{without-there, without-none}
use Rattle.cf_references.proofs.reference.take_out.Goals as goal

pub returns-in-Some : goal.returns-in-Some
returns-in-Some c =
    let at : position (same c.args.reference.now) c.args.references.now.items ≡ Some c.in-Some.place = cc in
    c.remove.ensures.items ∙ without-there c.args.reference.now c.args.references.now.items c.in-Some.place at

pub returns-in_default : goal.returns-in_default
returns-in_default c =
    let at : position (same c.args.reference.now) c.args.references.now.items ≡ None = cc in
    without-none c.args.reference.now c.args.references.now.items at
