-- Answers to the goals of `known::items_held`.
use Rattle.std.proofs.Common.{ℕ, ◌≡◌, ◌<◌, ◌≤◌, length, sym, ap, arith}
use Rattle.std.specs.Prelude.{filter}
use Rattle.cf_graph.specs.Edges.{has}
use Rattle.cf_model.specs.State.{Parts, objects_of}
use Rattle.cf_references.specs.Views.{holder_of}
use Rattle.cf_state.proofs.Listing.{filter-end, filter-step}
use Rattle.cf_state.proofs.known.items_held.Goals as goal

pub loop-number-preserved : goal.loop-number-preserved
loop-number-preserved c =
    let w = c.loop-number.invariant in
    let all : length c.parts.inside.objects.items ≡ length c.args.parts.now.objects = ap (λ (p : Parts). length p.objects) c.parts.view_is in
    let lt : c.loop-number.number < length c.args.parts.now.objects = omega arith in
    record {
      listed = filter-step _ _ _ _ _ _ _ lt (sym c.has.ensures) c.in_ok-put_if.ensures w.listed;
    }

pub returns : goal.returns
returns c =
    let all : length c.parts.inside.objects.items ≡ length c.args.parts.now.objects = ap (λ (p : Parts). length p.objects) c.parts.view_is in
    let past : length c.args.parts.now.objects ≤ c.loop-number.number = omega arith in
    let held = λ (i : ℕ). has (holder_of c.args.holder.now) i c.args.edges.now in
    filter-end held c.loop-number.number (length c.args.parts.now.objects) c.loop-number.items.items (filter held (objects_of c.args.parts.now)) past c.loop-number.invariant.listed
