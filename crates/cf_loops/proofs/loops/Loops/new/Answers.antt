use Rattle.std.proofs.Common.{ap, ◌∙◌, replicate, ◌++◌, ◌∷◌, [], ℕ, ◌≡◌, arith}
use Rattle.rl_modes.specs.Loops.{Loop}
use Rattle.cf_loops.specs.Following.{first_loop}
use Rattle.cf_next.proofs.HeldLaws.{copies-more}
use Rattle.cf_loops.proofs.Starting.{first_loops}
use Rattle.cf_loops.proofs.loops.Loops.new.Goals as goal

pub loop-preserved : goal.loop-preserved
loop-preserved c =
    copies-more first_loop c.loop.counter [] c.loop.loops.items c.push.new.self.items c.loop.invariant
    (c.in_ok-push.ensures.items ∙ ap (λ (l : Loop). c.loop.loops.items ++ l ∷ []) c.new.ensures)

pub returns : goal.returns
returns c =
    let all : c.loop.counter ≡ c.args.threads = omega (arith, c.loop.auto.counter-end) in
    let are : c.loop.loops.items ≡ replicate c.args.threads first_loop = c.loop.invariant ∙ ap (λ (n : ℕ). replicate n first_loop) all in
    record {
      loops = are;
      start = λ s threads some few. first_loops s c.args.threads c.loop.loops.items are threads some few;
    }
