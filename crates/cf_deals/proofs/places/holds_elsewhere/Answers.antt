-- Answers to the goals of `places::holds_elsewhere`.
use Rattle.std.proofs.Common.{◌≡◌, ℕ, Bool, false, length, not, sym, ap, ◌∙◌, arith, vec_len}
use Rattle.std.specs.Prelude.{◌==◌, ◌&&◌}
use Rattle.cf_model.specs.Deals.{loop_places}
use Rattle.cf_deals.proofs.Filling.{alike, apart, held-there}
use Rattle.cf_deals.proofs.places.holds_elsewhere.Goals as goal
use Rattle.cf_deals.proofs.places.holds_elsewhere.Goals.{then-other-thread, else-other-thread}

pub returns : goal.returns
returns c =
    let places = loop_places c.args.script.now c.args.other c.args.item c.args.edges.now in
    let held = c.in_ok-held.held in
    let same : length held.items ≡ length places = held-there c.args.other c.args.item places held.items c.in_ok-held.ensures in
    let long : vec_len held ≡ length places = omega arith in
    let some : Bool = not (length places == 0) in
    elim c.if-other-thread.branch [
      | then-other-thread w ↦
          w.result-is ∙ ap not (w.is_empty.ensures ∙ ap (λ (n : ℕ). n == 0) long)
          ∙ sym (ap (λ (b : Bool). b && some) (apart c.args.other c.args.thread w.if-other-thread.true))
      | else-other-thread w ↦
          w.result-is ∙ alike c.args.other c.args.thread w.if-other-thread.false
          ∙ sym (ap (λ (b : Bool). b && some) (alike c.args.other c.args.thread w.if-other-thread.false))
    ]
