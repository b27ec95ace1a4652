-- Answers to the goals of `run::Run::apply`.
use Rattle.std.proofs.Common.{ℕ, ◌+◌, None, sym, subst, ◌∙◌, arith}
use Rattle.cf_serial.specs.Running.{IsStep}
use Rattle.cf_serial.proofs.Growing.{acting_of, clock_stays, entered_is, gain_fits, gain_made, made_is, made_least, made_most, run_gained}
use Rattle.cf_serial.proofs.run.Run.apply.Goals as goal

pub grow-requires-clause-few : goal.grow-requires-clause-few
grow-requires-clause-few c =
    let r = c.args.self.now in
    let run = c.requires.run in
    let pick = c.requires.acts.picked_is in
    let p = acting_of r c.args.t None c.requires.acts in
    let w = c.apply.new.self in
    let is = entered_is r run c.args.t p.action pick p.acts w (λ before gained. gained) c.apply.ensures.entered in
    omega (arith, c.made.ensures ∙ made_is r run c.args.t p.action pick p.acts p.cut_is w _ is, made_most r run c.args.t p.action pick p.acts p.cut_is)

pub grow-requires-clause-more : goal.grow-requires-clause-more
grow-requires-clause-more c =
    let r = c.args.self.now in
    let run = c.requires.run in
    let pick = c.requires.acts.picked_is in
    let p = acting_of r c.args.t None c.requires.acts in
    let w = c.apply.new.self in
    let is = entered_is r run c.args.t p.action pick p.acts w (λ before gained. gained) c.apply.ensures.entered in
    omega (arith, c.made.ensures ∙ made_is r run c.args.t p.action pick p.acts p.cut_is w _ is, made_least r run c.args.t p.action pick p.acts p.cut_is)

pub raise-requires-clause-made : goal.raise-requires-clause-made
raise-requires-clause-made c =
    let r = c.args.self.now in
    let run = c.requires.run in
    let pick = c.requires.acts.picked_is in
    let p = acting_of r c.args.t None c.requires.acts in
    let w = c.apply.new.self in
    let is = entered_is r run c.args.t p.action pick p.acts w (λ before gained. gained) c.apply.ensures.entered in
    let made = c.made.ensures ∙ made_is r run c.args.t p.action pick p.acts p.cut_is w _ is in
    rw (c.gained.ensures, is)
    (gain_made r run c.args.t p.action pick p.acts p.cut_is c.grow.new.self.items (c.grow.ensures.size ∙ made) c.grow.ensures.old
    (λ o least most. c.grow.ensures.new o least (omega (arith, made, most))))

pub raise-requires-clause-fits : goal.raise-requires-clause-fits
raise-requires-clause-fits c =
    let r = c.args.self.now in
    let run = c.requires.run in
    let pick = c.requires.acts.picked_is in
    let p = acting_of r c.args.t None c.requires.acts in
    let w = c.apply.new.self in
    let is = entered_is r run c.args.t p.action pick p.acts w (λ before gained. gained) c.apply.ensures.entered in
    let made = c.made.ensures ∙ made_is r run c.args.t p.action pick p.acts p.cut_is w _ is in
    rw (c.gained.ensures, is)
    (gain_fits r run c.args.t p.action pick p.acts p.cut_is c.grow.new.self.items (c.grow.ensures.size ∙ made) c.grow.ensures.old
    (λ o least most. c.grow.ensures.new o least (omega (arith, made, most))))

pub returns-clause-step : goal.returns-clause-step
returns-clause-step c =
    let r = c.args.self.now in
    let run = c.requires.run in
    let pick = c.requires.acts.picked_is in
    let p = acting_of r c.args.t None c.requires.acts in
    let w = c.apply.new.self in
    let is = entered_is r run c.args.t p.action pick p.acts w (λ before gained. gained) c.apply.ensures.entered in
    let made = c.made.ensures ∙ made_is r run c.args.t p.action pick p.acts p.cut_is w _ is in
    subst (λ (p : ℕ). IsStep r (record { world = w; threads = r.threads; pointer = p + 1; numbers = c.raise.new.self; stalled = r.stalled })) (sym c.t.view_is)
    (run_gained r run c.args.t p.action pick p.acts p.cut_is c.grow.new.self.items (c.grow.ensures.size ∙ made) c.grow.ensures.old
    (λ o least most. c.grow.ensures.new o least (omega (arith, made, most)))
    w c.raise.new.self is c.raise.ensures.size (rw (c.gained.ensures, is) at c.raise.ensures.at))

pub returns-clause-clock : goal.returns-clause-clock
returns-clause-clock c = λ now.
    let r = c.args.self.now in
    let run = c.requires.run in
    let pick = c.requires.acts.picked_is in
    let p = acting_of r c.args.t None c.requires.acts in
    let w = c.apply.new.self in
    let is = entered_is r run c.args.t p.action pick p.acts w (λ before gained. gained) c.apply.ensures.entered in
    clock_stays r run c.args.t p.action pick p.acts w _ c.raise.new.self now is
