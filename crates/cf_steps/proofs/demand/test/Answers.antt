-- Answers to the goals of `demand::test`.
use Rattle.std.proofs.Common.{◌≡◌, Some, None, sym, ap, ◌∙◌}
use Rattle.std.specs.Option.{option_map}
use Rattle.rl_turn.specs.Turn.{result_of}
use Rattle.cf_next.specs.Turns.{turn_facts}
use Rattle.cf_model.specs.Known.{facts_of}
use Rattle.cf_state.specs.States.{state_of}
use Rattle.cf_steps.proofs.demand.test.Goals as goal

pub returns-in-Some : goal.returns-in-Some
returns-in-Some c = λ r inner.
    let facts = facts_of (state_of c.args.state.now) in
    let there : Some c.in-Some.facts ≡ Some (turn_facts facts c.args.thread r) =
    sym c.in-Some.is ∙ c.turn.ensures ∙ (λ i. option_map (turn_facts (c.known-known.ensures i) (c.requires i)) (inner i)) in
    let same : c.in-Some.facts ≡ turn_facts facts c.args.thread r = cc in
    c.result.ensures ∙ ap result_of same

pub returns-in-None : goal.returns-in-None
returns-in-None c = λ r inner.
    let facts = facts_of (state_of c.args.state.now) in
    let none : None ≡ Some (turn_facts facts c.args.thread r) =
    sym c.in-None.is ∙ c.turn.ensures ∙ (λ i. option_map (turn_facts (c.known-known.ensures i) (c.requires i)) (inner i)) in
    absurd (cc)
