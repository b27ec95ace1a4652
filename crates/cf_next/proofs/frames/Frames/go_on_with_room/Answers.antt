-- Answers to the goals of `frames::Frames::go_on_with_room`.
use Rattle.std.proofs.Common.{subst, sym}
use Rattle.cf_next.specs.Advancing.{IsFrameFound}
use Rattle.cf_next.specs.Standing.{Standing}
use Rattle.cf_next.proofs.FormLaws.{frame-found}
use Rattle.cf_next.proofs.frames.Frames.go_on_with_room.Goals as goal

pub frames_after-requires-clause-found : goal.frames_after-requires-clause-found
frames_after-requires-clause-found g c =
    subst (λ (v : Standing). IsFrameFound (g.F.Facts.known c.args.facts.now) v.thread v.stand.frames c.args.step.now) (sym c.self.view_is) (frame-found (g.F.Facts.known c.args.facts.now) c.args.self.now.thread c.args.self.now.stand c.args.step.now c.requires.found)
