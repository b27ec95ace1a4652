-- Answers to the goals of `uses::may_say`.
use Rattle.std.proofs.Common.{true, [], refl, sym, ap, ◌∙◌}
use Rattle.std.specs.Option.{option_copied}
use Rattle.cf_next.specs.Actions.{site_of}
use Rattle.cf_model.specs.Journals.{reaches_all, site_uses}
use Rattle.cf_state.specs.States.{state_of}
use Rattle.cf_machine.proofs.Using.{decide-same, site-none, site-reaches}
use Rattle.cf_machine.proofs.uses.may_say.Goals as goal

pub returns-in-Some : goal.returns-in-Some
returns-in-Some c =
    let used = c.in-Some.used.now in
    let q = site_of c.args.action.now in
    let found = sym (ap option_copied c.in-Some.is) ∙ c.used_of.ensures in
    decide-same (state_of c.args.state.now) c.args.thread c.may_reach_all.result (reaches_all used) (site_uses q) [] [] (site-reaches q used found) refl c.may_reach_all.ensures

pub returns-in-None : goal.returns-in-None
returns-in-None c =
    let q = site_of c.args.action.now in
    let found = sym (ap option_copied c.in-None.is) ∙ c.used_of.ensures in
    decide-same (state_of c.args.state.now) c.args.thread true [] (site_uses q) [] [] (site-none q found) refl (λ h. tt, λ h. refl)
