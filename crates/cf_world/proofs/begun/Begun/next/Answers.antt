-- Answers to the goals of `begun::Begun::next`.
use Rattle.std.proofs.Common.{◌∙◌, ap, subst, sym}
use Rattle.cf_world.specs.Begun.{IsLooked}
use Rattle.cf_world.specs.Worlds.{WorldView, next_in}
use Rattle.cf_world.proofs.begun.Begun.next.Goals as goal

pub returns-in-Ok : goal.returns-in-Ok
returns-in-Ok c =
    let w = c.self.inside in
    let found = subst (λ found. IsLooked w.ground w.limit c.args.t found c.look.new.kept) c.in-Ok.is c.look.ensures in
    sym found.2 ∙ ap (λ (v : WorldView). next_in v c.args.t) c.self.view_is

pub returns-in-Err : goal.returns-in-Err
returns-in-Err c =
    let w = c.self.inside in
    let found = subst (λ found. IsLooked w.ground w.limit c.args.t found c.look.new.kept) c.in-Err.is c.look.ensures in
    c.next.ensures ∙ found ∙ ap (λ (v : WorldView). next_in v c.args.t) c.self.view_is
