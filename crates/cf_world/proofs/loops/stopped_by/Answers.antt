-- Answers to the goals of `loops::stopped_by`.
use Rattle.std.proofs.Common.{◌∙◌, ap, arith, sym}
use Rattle.cf_next.specs.Stands.{Stand, has_run}
use Rattle.cf_world.specs.Grounds.{state_of}
use Rattle.cf_world.proofs.Deals.{named_stays, named_stops, runs_told, stop_there, stop_within}
use Rattle.cf_world.proofs.Moving.{lent_here}
use Rattle.cf_world.proofs.Rounds.{stand_told}
use Rattle.cf_world.proofs.loops.stopped_by.Goals as goal

pub returns-then-is_some : goal.returns-then-is_some
returns-then-is_some c =
    let g = c.args.ground.now in
    let fs = c.args.frames.now in
    let stands = (state_of g).stands in
    let w = c.in_ok-named.named in
    let named = sym c.thread_of.ensures ∙ c.in_ok-named.was in
    let within = stop_within c.args.t g.script.thread_count _ _ c.in-Some-Stop.thread w c.in-Some-Stop.ensures c.in-Some-Stop.field-0-is named c.requires.thread c.requires.named in
    let lent = lent_here fs w c.named.inside.0 c.index-frames-named.result _ c.index-frames-named.is c.named.view_is (omega (arith, within, c.requires.frames.count)) in
    let stand = stand_told g fs w c.index-frames-named.result c.requires.frames lent in
    let run = sym (ap (λ (s : Stand). has_run s.frames) stand) ∙ runs_told c.index-frames-named.result.stand.frames c.mode.result c.mode.ensures ∙ sym c.is_some.ensures ∙ c.if-is_some.true in
    stop_there c.args.t stands _ _ c.in-Some-Stop.thread _ c.in-Some-Stop.ensures c.in-Some-Stop.field-0-is (named_stops stands _ w named run)

pub returns-else-is_some : goal.returns-else-is_some
returns-else-is_some c =
    let g = c.args.ground.now in
    let fs = c.args.frames.now in
    let stands = (state_of g).stands in
    let w = c.in_ok-named.named in
    let named = sym c.thread_of.ensures ∙ c.in_ok-named.was in
    let within = stop_within c.args.t g.script.thread_count _ _ c.in-Some-Stop.thread w c.in-Some-Stop.ensures c.in-Some-Stop.field-0-is named c.requires.thread c.requires.named in
    let lent = lent_here fs w c.named.inside.0 c.index-frames-named.result _ c.index-frames-named.is c.named.view_is (omega (arith, within, c.requires.frames.count)) in
    let stand = stand_told g fs w c.index-frames-named.result c.requires.frames lent in
    let run = sym (ap (λ (s : Stand). has_run s.frames) stand) ∙ runs_told c.index-frames-named.result.stand.frames c.mode.result c.mode.ensures ∙ sym c.is_some.ensures ∙ c.if-is_some.false in
    stop_there c.args.t stands _ _ c.in-Some-Stop.thread _ c.in-Some-Stop.ensures c.in-Some-Stop.field-0-is (named_stays stands _ w named run)
