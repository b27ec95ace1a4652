-- Answers to the goals of `edges::add_body`.
use Rattle.std.proofs.Common.{◌≡◌, ℕ, ◌-◌, ◌<◌, ◌++◌, ◌∷◌, [], Some, None, take, map, length, sym, ap, ◌∙◌, append-nil, arith, length-append}
use Rattle.std.specs.Prelude.{slice_get}
use Rattle.cf_graph.specs.Holders.{slot}
use Rattle.cf_graph.specs.Edges.{edge_of, edges_of, held_by}
use Rattle.cf_contents.specs.Stores.{given_up_in, left_in}
use Rattle.cf_world.proofs.EdgeLists.{found-within, slots-more, slots-end}
use Rattle.cf_world.proofs.edges.add_body.Goals as goal

pub loop-object-init : goal.loop-object-init
loop-object-init c =
    let start = c.args.edges.now.items in
    let given = given_up_in c.args.store.now.bodies c.args.body in
    let none : c.given_up-place.result - given ≡ 0 = omega (arith, c.given_up-place.ensures) in
    record {
      from = omega (arith, c.given_up-place.ensures);
      size = omega arith;
      items = sym (append-nil start) ∙ ap (λ (n : ℕ). start ++ edges_of (map (held_by (slot c.args.body)) (take n (left_in c.args.store.now.bodies c.args.body)))) (sym none);
    }

pub overflow_add-place : goal.overflow_add-place
overflow_add-place c = omega (arith, c.loop-object.edges.ok.0, c.loop-object.edges.small)

pub loop-object-smaller : goal.loop-object-smaller
loop-object-smaller c =
    let left = left_in c.args.store.now.bodies c.args.body in
    let given = given_up_in c.args.store.now.bodies c.args.body in
    let found : slice_get left (c.loop-object.place - given) ≡ Some c.in-Some.object = sym (c.slot.ensures.left c.loop-object.invariant.from) ∙ c.in-Some.is in
    let within : c.loop-object.place - given < length left = found-within left (c.loop-object.place - given) c.in-Some.object found in
    let from = c.loop-object.invariant.from in
    omega arith

pub loop-object-preserved : goal.loop-object-preserved
loop-object-preserved c =
    let left = left_in c.args.store.now.bodies c.args.body in
    let given = given_up_in c.args.store.now.bodies c.args.body in
    let w = c.loop-object.invariant in
    let found : slice_get left (c.loop-object.place - given) ≡ Some c.in-Some.object = sym (c.slot.ensures.left w.from) ∙ c.in-Some.is in
    let pushed = c.in_ok-push.ensures.items in
    record {
      from = omega (arith, w.from);
      size = omega (arith, w.size, ap length pushed, length-append c.loop-object.edges.items (edge_of (held_by (slot c.args.body) c.in-Some.object) ∷ []));
      items = slots-more c.args.body left given c.loop-object.place c.in-Some.object c.args.edges.now.items c.loop-object.edges.items c.push.new.self.items w.from found w.items pushed;
    }

pub returns : goal.returns
returns c =
    let left = left_in c.args.store.now.bodies c.args.body in
    let given = given_up_in c.args.store.now.bodies c.args.body in
    let w = c.loop-object.invariant in
    let none : slice_get left (c.loop-object.place - given) ≡ None = sym (c.slot.ensures.left w.from) ∙ c.in_default.is in
    slots-end c.args.body left (c.loop-object.place - given) c.args.edges.now.items c.loop-object.edges.items none w.items
