-- Answers to the goals of `parts::flags_at`.
use Rattle.std.proofs.Common.{◌≡◌, false, Some, None, ◌∙◌}
use Rattle.cf_model.specs.State.{flags_of}
use Rattle.cf_state.proofs.Listing.{at-some, at-none}
use Rattle.cf_state.proofs.parts.flags_at.Goals as goal

pub returns-in-Some : goal.returns-in-Some
returns-in-Some c =
    let found : c.get.result ≡ Some c.in-Some.flags = cc in
    c.copy.ensures ∙ at-some (flags_of false) c.args.thread c.args.flags.now c.get.result c.in-Some.flags c.get.ensures.lookup found

pub returns-in-None : goal.returns-in-None
returns-in-None c =
    let none : c.get.result ≡ None = cc in
    c.of.ensures ∙ at-none (flags_of false) c.args.thread c.args.flags.now c.get.result c.get.ensures.lookup none
