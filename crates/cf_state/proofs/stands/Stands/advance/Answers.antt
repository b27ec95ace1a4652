-- Answers to the goals of `stands::Stands::advance`.
use Rattle.std.proofs.Common.{◌≡◌, ℕ, ◌<◌, length, get_or, sym, ap, subst, ◌∙◌, arith}
use Rattle.std.proofs.lemmas.Result.{on_ok_weaker}
use Rattle.cf_next.specs.Advance.{advanced}
use Rattle.cf_next.specs.Standing.{finals_in}
use Rattle.cf_next.specs.Stands.{Stand}
use Rattle.cf_next.specs.Steps.{IsStep, demand_of, step_cut}
use Rattle.cf_model.specs.State.{stand_at}
use Rattle.cf_state.specs.Known.{facts_in}
use Rattle.cf_state.specs.Placed.{stands_of}
use Rattle.cf_state.proofs.Placing.{placed-set, stand-there, stands-long, stands-set, thread-there}
use Rattle.cf_state.proofs.stands.Stands.advance.Goals as goal

pub go_on-requires-clause-step : goal.go_on-requires-clause-step
go_on-requires-clause-step c =
    let k = c.args.thread in
    let fs = c.self.inside.stands.items in
    let old = c.index_mut.result.now in
    let facts = facts_in c.args.known.now.parts.now c.args.known.now.edges.now in
    let long : length (stands_of fs) ≡ length c.args.self.now = ap length c.self.view_is in
    let lt : k < length fs = omega (arith, stands-long fs, long, c.requires.there) in
    let who : k ≡ old.thread = sym (thread-there k fs old c.self.invariant lt c.index_mut.ensures.value) in
    let at : stand_at k c.args.self.now ≡ old.stand =
    ap (stand_at k) (sym c.self.view_is) ∙ sym (stand-there k fs old lt c.index_mut.ensures.value) in
    subst (λ (s : Stand). IsStep c.args.script.now facts old.thread s c.args.step.now) at
    (subst (λ (t : ℕ). IsStep c.args.script.now facts t (stand_at k c.args.self.now) c.args.step.now) who c.requires.step)

pub invariant_of-self : goal.invariant_of-self
invariant_of-self c =
    let k = c.args.thread in
    let fs = c.self.inside.stands.items in
    let long : length (stands_of fs) ≡ length c.args.self.now = ap length c.self.view_is in
    let lt : k < length fs = omega (arith, stands-long fs, long, c.requires.there) in
    placed-set k fs c.index_mut.result.now c.go_on.new.frames lt c.index_mut.ensures.value c.go_on.ensures.thread c.self.invariant

pub returns : goal.returns
returns c =
    let k = c.args.thread in
    let fs = c.self.inside.stands.items in
    let old = c.index_mut.result.now in
    let new = c.go_on.new.frames in
    let facts = facts_in c.args.known.now.parts.now c.args.known.now.edges.now in
    let long : length (stands_of fs) ≡ length c.args.self.now = ap length c.self.view_is in
    let lt : k < length fs = omega (arith, stands-long fs, long, c.requires.there) in
    let who : old.thread ≡ k = thread-there k fs old c.self.invariant lt c.index_mut.ensures.value in
    let at : old.stand ≡ stand_at k (stands_of fs) = stand-there k fs old lt c.index_mut.ensures.value in
    let after = λ (t : ℕ) (s : Stand).
    advanced facts t (demand_of c.args.step.now) c.args.answer.now (finals_in (step_cut c.args.step.now) c.args.answer.now) c.args.list.now s in
    on_ok_weaker c.go_on.result
    (λ (moved : new.stand ≡ after old.thread old.stand).
    rw (← c.self.view_is) (stands-set k fs new (after k (stand_at k (stands_of fs))) lt (moved ∙ (λ i. after (who i) (at i)))))
    c.go_on.ensures.stand
