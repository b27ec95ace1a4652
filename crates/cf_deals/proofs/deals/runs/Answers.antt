-- Answers to the goals of `deals::runs`.
use Rattle.std.proofs.Common.{sym, ap, ◌∙◌}
use Rattle.std.specs.Option.{is_some}
use Rattle.cf_next.specs.Stands.{Stand, has_run}
use Rattle.cf_deals.proofs.Reading.{runs-here}
use Rattle.cf_deals.proofs.deals.runs.Goals as goal

pub returns-in-Some : goal.returns-in-Some
returns-in-Some c =
    c.is_some.ensures ∙ ap is_some c.mode.ensures ∙ runs-here c.in-Some.frames.now.stand.frames
    ∙ ap (λ (s : Stand). has_run s.frames) c.in-Some.ensures.1

pub returns-in-None : goal.returns-in-None
returns-in-None c = sym (ap (λ (s : Stand). has_run s.frames) c.in-None.ensures)
