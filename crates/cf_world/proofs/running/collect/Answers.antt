-- Answers to the goals of `running::collect`.
use Rattle.std.proofs.Common.{◌∙◌, ◌++◌, ℕ, List, map, sym, ap}
use Rattle.std.specs.Option.{option_map}
use Rattle.cf_ids.specs.declared.numbers.Item.{Item}
use Rattle.cf_model.specs.Journals.{After}
use Rattle.cf_next.specs.Stands.{Turn}
use Rattle.cf_next.specs.Standing.{Standing, innermost_run}
use Rattle.rl_base.specs.Signals.{ready_sources}
use Rattle.cf_store.specs.Sources.{sources_in}
use Rattle.cf_world.specs.Begun.{standing_at}
use Rattle.cf_world.proofs.Moving.{lent_here}
use Rattle.cf_world.proofs.Collecting.{collected_told, collected_few}
use Rattle.cf_world.proofs.running.collect.Goals as goal

pub push_numbers-requires-clause-room : goal.push_numbers-requires-clause-room
push_numbers-requires-clause-room c =
    let g = c.ground.inside in
    let st = After g.script g.journal.items in
    let fs = c.args.frames.now in
    let t = c.args.t in
    let lent = lent_here fs t c.t.inside.0 c.index-frames-t.result _ c.index-frames-t.is c.t.view_is c.requires.thread in
    let run = innermost_run (standing_at fs t).stand.frames in
    let mode = sym c.in-Some.is ∙ c.mode.ensures ∙ ap (λ (f : Standing). option_map (λ (x : Turn). x.mode) (innermost_run f.stand.frames)) lent in
    let items = c.items.ensures g.script st c.ground.invariant.follows.has_loops.loops_are in
    let out = c.as_slice.ensures.value ∙ c.collect_sources.ensures.collected ∙ ap (λ (xs : List ℕ). xs ++ ready_sources (sources_in g.store.bodies) (map (λ (i : Item). i.id) c.items.result.now)) c.requires.scratch in
    collected_few st t _ _ g.store.bodies run _ _ mode items out (rw (← c.ground.view_is) at c.requires.list_room)

pub returns-clause-list : goal.returns-clause-list
returns-clause-list c =
    let g = c.ground.inside in
    let st = After g.script g.journal.items in
    let fs = c.args.frames.now in
    let t = c.args.t in
    let lent = lent_here fs t c.t.inside.0 c.index-frames-t.result _ c.index-frames-t.is c.t.view_is c.requires.thread in
    let run = innermost_run (standing_at fs t).stand.frames in
    let mode = sym c.in-Some.is ∙ c.mode.ensures ∙ ap (λ (f : Standing). option_map (λ (x : Turn). x.mode) (innermost_run f.stand.frames)) lent in
    let items = c.items.ensures g.script st c.ground.invariant.follows.has_loops.loops_are in
    let out = c.as_slice.ensures.value ∙ c.collect_sources.ensures.collected ∙ ap (λ (xs : List ℕ). xs ++ ready_sources (sources_in g.store.bodies) (map (λ (i : Item). i.id) c.items.result.now)) c.requires.scratch in
    rw (← c.ground.view_is) (c.push_numbers.ensures.items ∙ collected_told st t _ g.store.bodies run _ _ c.ground.invariant.follows.mirrors mode items out)
