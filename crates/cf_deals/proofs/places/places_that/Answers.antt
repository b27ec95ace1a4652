-- Answers to the goals of `places::places_that`.
use Rattle.std.proofs.Common.{◌≡◌, ℕ, Bool, List, [], ◌++◌, ◌<◌, length, not, ap, ◌∙◌, arith}
use Rattle.std.proofs.lemmas.List.{take_all}
use Rattle.std.specs.Prelude.{if◌then◌else◌}
use Rattle.rl_base.specs.Modes.{places}
use Rattle.rl_base.specs.declared.places.Place.{Place}
use Rattle.rl_base.specs.declared.places.Place.TheVariants.{Common}
use Rattle.cf_graph.specs.Edges.{Reference}
use Rattle.cf_model.specs.Deals.{holds_at}
use Rattle.cf_deals.proofs.Filling.{mode-passes, one_at, one-passes, passing}
use Rattle.cf_deals.proofs.places.places_that.Goals as goal

abbrev test : ℕ → ℕ → List Reference → Bool → Place → Bool
test t i es holding p = if holding then holds_at t i es p else not (holds_at t i es p)

pub loop-mode-init : goal.loop-mode-init
loop-mode-init c =
    let t = c.args.thread in
    let i = c.args.item in
    let passes = test t i c.args.edges.now c.args.holding in
    c.in_ok-put_if.ensures ∙ ap (λ rs. rs ++ one_at t i Common (passes Common)) c.new-references.ensures.items
    ∙ one-passes t i passes Common

pub loop-mode-preserved : goal.loop-mode-preserved
loop-mode-preserved c =
    let t = c.args.thread in
    let i = c.args.item in
    let k = c.loop-mode.mode-index in
    let lt : k < length c.args.modes.now = omega arith in
    mode-passes t i (test t i c.args.edges.now c.args.holding) c.args.modes.now k c.loop-mode.references.items
    c.put_if-in-loop-mode.new.references.items lt c.loop-mode.invariant c.in_ok-put_if-2.ensures

pub returns : goal.returns
returns c =
    let t = c.args.thread in
    let i = c.args.item in
    c.loop-mode.invariant
    ∙ ap (λ ms. passing t i (test t i c.args.edges.now c.args.holding) (places ms))
    (take_all c.loop-mode.mode-index c.args.modes.now (omega arith))
