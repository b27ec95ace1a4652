-- Answers to the goals of `known::is_empty_mode`.
use Rattle.std.proofs.Common.{◌≡◌, ℕ, false, ◌<◌, ◌≤◌, length, sym, ap, ◌∙◌, arith}
use Rattle.std.specs.Prelude.{◌&&◌}
use Rattle.cf_graph.specs.Edges.{has}
use Rattle.cf_graph.specs.Holders.{in_mode}
use Rattle.cf_model.specs.State.{Parts}
use Rattle.cf_model.specs.Things.{opens_thing, thing_at}
use Rattle.cf_state.proofs.Listing.{any-past}
use Rattle.cf_state.proofs.known.is_empty_mode.Goals as goal

pub loop-number-preserved : goal.loop-number-preserved
loop-number-preserved c =
    let w = c.loop-number.invariant in
    let all : length c.parts.inside.objects.items ≡ length c.args.parts.now.objects = ap (λ (p : Parts). length p.objects) c.parts.view_is in
    let k = c.loop-number.number in
    let held = λ (i : ℕ). has (in_mode c.args.thread c.args.mode) i c.args.edges.now in
    let opens = λ (i : ℕ). opens_thing (thing_at c.args.parts.now i) in
    let shut : (held k && opens k) ≡ false = sym c.keeps_open.ensures ∙ c.if-keeps_open.false in
    let lt : k < length c.args.parts.now.objects = omega arith in
    record { within = omega arith; chosen = any-past held opens k (length c.args.parts.now.objects) _ lt shut w.chosen }
