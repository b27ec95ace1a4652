use Rattle.std.proofs.Common.{List, ℕ, ◌++◌, map, sym, ap, ◌∙◌}
use Rattle.std.proofs.lemmas.List.{append-nil}
use Rattle.rl_modes.specs.Loops.{Loop, common_gained}
use Rattle.cf_loops.proofs.Looking.{common_told, found_is, found_within}
use Rattle.cf_loops.proofs.Entering.{all_gained, none_gained}
use Rattle.cf_loops.proofs.loops.Loops.gained.Goals as goal

pub returns-then-not-is_common-clause-gained : goal.returns-then-not-is_common-clause-gained
returns-then-not-is_common-clause-gained c = λ s st h lt mode.
    let loops = c.args.self.now in
    let l = c.in-Some.modes.now in
    let told = common_told s st.parts st.edges loops c.args.t c.args.m l h c.in-Some.ensures mode in
    let is = all_gained s st loops c.args.t l h (found_within loops c.args.t l c.in-Some.ensures) c.args.m (sym told ∙ sym c.is_common.ensures ∙ c.if-not-is_common.true) in
    c.push_gained.ensures.gained
    ∙ ap (λ (xs : List ℕ). c.args.numbers.now.items ++ xs) (ap (λ (x : Loop). map (λ i. i.id) (common_gained c.args.m x.held)) (sym (found_is loops c.args.t l c.in-Some.ensures)) ∙ sym is)

pub returns-else-not-is_common-clause-gained : goal.returns-else-not-is_common-clause-gained
returns-else-not-is_common-clause-gained c = λ s st h lt mode.
    let loops = c.args.self.now in
    let l = c.in-Some.modes.now in
    let told = common_told s st.parts st.edges loops c.args.t c.args.m l h c.in-Some.ensures mode in
    let is = none_gained s st loops c.args.t l h (found_within loops c.args.t l c.in-Some.ensures) c.args.m (sym told ∙ sym c.is_common.ensures ∙ c.if-not-is_common.false) in
    sym (append-nil c.args.numbers.now.items) ∙ ap (λ (xs : List ℕ). c.args.numbers.now.items ++ xs) (sym is)
