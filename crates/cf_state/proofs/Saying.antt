-- What a call that succeeds answers, told by an equal value.
use Rattle.std.proofs.Common.{◌≡◌, ◌∙◌}
use Rattle.std.specs.declared.result.Result.TheVariants.{Ok, Err}
use Rattle.std.specs.Prelude.{Result, IfOk}

-- the same, by an equal value
pub as-said : {X V E : Type 0} (view : X → V) (r : Result X E) (a b : V) → a ≡ b → IfOk r (λ x. view x ≡ a)
    → IfOk r (λ x. view x ≡ b)
as-said view (Ok x) a b e h = h ∙ e
as-said view (Err x) a b e h = tt
