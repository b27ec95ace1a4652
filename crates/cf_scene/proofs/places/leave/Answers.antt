-- Answers to the goals of `places::leave`.
use Rattle.std.proofs.Common.{Option, Some, ap, ◌∙◌}
use Rattle.std.specs.Option.{option_map}
use Rattle.cf_contents.specs.Stores.{bodies_changed}
use Rattle.cf_body.specs.Items.{ItemView}
use Rattle.cf_store.specs.Sources.{invalidating}
use Rattle.cf_scene.proofs.Things.{thing_of_view, thing_told, valid_view, item_mirrored}
use Rattle.cf_scene.proofs.Doing.{all_done}
use Rattle.cf_scene.proofs.places.leave.Goals as goal

pub returns : goal.returns
returns c = λ s st mirrors loops by.
    let bodies = c.args.store.now.bodies in
    let there = valid_view _ c.requires.valid in
    let x = thing_of_view there.0 in
    let is = thing_told st.parts bodies mirrors c.args.i ∙ ap (option_map thing_of_view) there.1 in
    let after = c.invalidate.ensures.bodies ∙ ap (λ (o : Option ItemView). bodies_changed (Some c.args.i) (invalidating o) bodies) there.1 in
    all_done s st by c.args.i x c.everywhere-went.result c.invalidate.new.self.bodies c.leave_all.new.self is there.2
    (c.everywhere-went.ensures s st loops) (item_mirrored st.parts bodies c.invalidate.new.self.bodies c.args.i _ x.item mirrors after)
    (c.leave_all.ensures.invalidated s st loops by x is there.2)
