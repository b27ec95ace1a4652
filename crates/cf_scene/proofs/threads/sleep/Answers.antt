-- Answers to the goals of `threads::sleep`.
use Rattle.std.proofs.Common.{◌≡◌, true, ◌||◌, refl, sym, ap, ◌∙◌}
use Rattle.rl_base.specs.Dates.{has_come}
use Rattle.cf_model.specs.State as states
use Rattle.cf_model.specs.State.{awake, until}
use Rattle.cf_scene.proofs.Flagging.{flags_read, flags_set, slept, was_woken, is_due, falls_asleep, first_come, second_come, none_come}
use Rattle.cf_scene.proofs.threads.sleep.Goals as goal
use Rattle.cf_scene.proofs.threads.sleep.Goals.{then-has_come-via-then-has_come, then-has_come-via-else-has_come+then-has_come-2}

pub returns-then-index : goal.returns-then-index
returns-then-index c = λ st r same now ends dated.
    let fs = c.args.flags.now.items in
    let old = c.index.result.now in
    let before = c.index-then-index.result.now in
    let kept = ap (λ (f : states.Flags). f.is_woken) (sym (flags_read fs c.args.t c.t.inside.0 old c.t.view_is c.requires c.index.ensures)) ∙ c.if-index.true in
    was_woken st c.args.t r c.args.deadline c.args.date c.args.time fs _ same now ends dated kept
    (flags_set fs c.args.t c.t.inside.0 before c.t.view_is c.requires c.index-then-index.ensures c.sleeping.result (slept awake) c.sleeping.ensures)

pub returns-then-has_come : goal.returns-then-has_come
returns-then-has_come c = λ st r same now ends dated.
    let fs = c.args.flags.now.items in
    let old = c.index.result.now in
    let kept = ap (λ (f : states.Flags). f.is_woken) (sym (flags_read fs c.args.t c.t.inside.0 old c.t.view_is c.requires c.index.ensures)) ∙ c.if-index.false in
    let come : (has_come c.args.deadline c.args.time || has_come c.args.date c.args.time) ≡ true = elim c.then-has_come.branch [
      | then-has_come-via-then-has_come w ↦ first_come (has_come c.args.deadline c.args.time) (has_come c.args.date c.args.time) (sym c.has_come.ensures ∙ w.if-has_come.true)
      | then-has_come-via-else-has_come+then-has_come-2 w ↦
          second_come (has_come c.args.deadline c.args.time) (has_come c.args.date c.args.time) (sym w.has_come-else-has_come.ensures ∙ w.if-has_come-2.true)
    ] in
    is_due st c.args.t r c.args.deadline c.args.date c.args.time fs _ same now ends dated kept come refl

pub returns : goal.returns
returns c = λ st r same now ends dated.
    let fs = c.args.flags.now.items in
    let old = c.index.result.now in
    let before = c.index-2.result.now in
    let kept = ap (λ (f : states.Flags). f.is_woken) (sym (flags_read fs c.args.t c.t.inside.0 old c.t.view_is c.requires c.index.ensures)) ∙ c.if-index.false in
    let come = none_come (has_come c.args.deadline c.args.time) (has_come c.args.date c.args.time) (sym c.has_come.ensures ∙ c.if-has_come.false) (sym c.has_come-else-has_come.ensures ∙ c.if-has_come-2.false) in
    let u = c.earlier-until.result in
    falls_asleep st c.args.t r c.args.deadline c.args.date c.args.time fs _ same now ends dated u c.earlier-until.ensures kept come
    (flags_set fs c.args.t c.t.inside.0 before c.t.view_is c.requires c.index-2.ensures c.sleeping-2.result (slept (until u)) c.sleeping-2.ensures)
