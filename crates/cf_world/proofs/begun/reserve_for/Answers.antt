-- Answers to the goals of `begun::reserve_for`.
use Rattle.cf_world.specs.Grounds.{state_of}
use Rattle.cf_world.proofs.Rooming.{found_stays, frames_stay, on_ok, room_listed}
use Rattle.cf_world.proofs.begun.reserve_for.Goals as goal

pub returns-in_err-reserve_frames-clause-frames : goal.returns-in_err-reserve_frames-clause-frames
returns-in_err-reserve_frames-clause-frames c =
    let g = c.args.ground.now in
    c.in_err-reserve_frames.ensures.stands g.script (state_of g).stands c.requires.frames

pub returns-in_err-reserve_lists-clause-frames : goal.returns-in_err-reserve_lists-clause-frames
returns-in_err-reserve_lists-clause-frames c =
    let g = c.args.ground.now in
    c.in_ok-reserve_frames.ensures.stands g.script (state_of g).stands c.requires.frames

pub returns-clause-frames : goal.returns-clause-frames
returns-clause-frames c =
    let g = c.args.ground.now in
    frames_stay g c.reserve_ground.new.ground c.reserve_frames.new.frames.items c.reserve_ground.ensures.script c.reserve_ground.ensures.journal
    (c.in_ok-reserve_frames.ensures.stands g.script (state_of g).stands c.requires.frames)

pub returns-clause-reserved : goal.returns-clause-reserved
returns-clause-reserved c =
    let g = c.args.ground.now in
    let r = c.args.reserved.now in
    on_ok c.reserve_ground.result (λ ready. record {
      found = found_stays g c.reserve_ground.new.ground c.reserve_ground.ensures.script c.reserve_ground.ensures.journal c.reserve_ground.ensures.room r c.requires.found;
      room = room_listed r.action c.most_listed-more.result _ c.most_listed-more.ensures.least c.in_ok-reserve_frames.ensures.room;
      ready = ready;
    }) c.reserve_ground.ensures.ready
