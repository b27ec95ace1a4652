-- Answers to the goals of `modes::gain_each`.
use Rattle.std.proofs.Common.{◌≡◌, ap, ◌∙◌, length, get_or, take, arith}
use Rattle.rl_base.specs.declared.places.Place.TheVariants.{Common, Mode}
use Rattle.std.proofs.lemmas.Bool.{ne_eqb}
use Rattle.rl_modes.specs.Loops.{items_at}
use Rattle.rl_modes.proofs.News.{gains_more, gains_room, items_new}
use Rattle.rl_modes.proofs.modes.gain_each.Goals as goal

pub bounds-items-k : goal.bounds-items-k
bounds-items-k c =
    let same = items_new Common (Mode c.args.mode) (take c.loop-k.k (items_at Common c.args.holdings.now.held))
    c.args.holdings.now.held (ne_eqb _ _ (λ e. absurd (omega (arith, e)))) in
    let now : c.items.result.now ≡ items_at Common c.args.holdings.now.held = c.items.ensures.items
    ∙ (ap (λ h. items_at Common h.held) c.loop-k.invariant ∙ same) in
    omega (arith, ap length now, ap length c.items-k-end.ensures.items)

pub enter-requires : goal.enter-requires
enter-requires c = rw c.loop-k.invariant (omega (
  arith,
  ap length c.items-k-end.ensures.items,
  gains_room
      (Mode c.args.mode) (items_at Common c.args.holdings.now.held) c.loop-k.k c.args.holdings.now.held
      (rw c.items-k-end.ensures.items at c.loop-k-test.true),
))

pub loop-k-preserved : goal.loop-k-preserved
loop-k-preserved c =
    let same = items_new Common (Mode c.args.mode) (take c.loop-k.k (items_at Common c.args.holdings.now.held))
    c.args.holdings.now.held (ne_eqb _ _ (λ e. absurd (omega (arith, e)))) in
    let now : c.items.result.now ≡ items_at Common c.args.holdings.now.held = c.items.ensures.items
    ∙ (ap (λ h. items_at Common h.held) c.loop-k.invariant ∙ same) in
    gains_more (Mode c.args.mode) (items_at Common c.args.holdings.now.held) c.loop-k.k c.index-items-k.result
    c.args.holdings.now c.loop-k.holdings c.enter.new.holdings c.loop-k.invariant c.enter.ensures
    (rw c.items-k-end.ensures.items at c.loop-k-test.true) (c.index-items-k.is ∙ ap
    (λ is. get_or is c.loop-k.k c.index-items-k.result) now)
