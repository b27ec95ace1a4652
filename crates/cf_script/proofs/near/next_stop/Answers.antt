-- Answers to the goals of `near::next_stop`.
use Rattle.std.proofs.Common.{◌≡◌, ℕ, ◌+◌, ◌-◌, ◌/◌, ◌%◌, ◌^◌, sym, ap, ◌∙◌, arith, w64, shr-shr}
use Rattle.std.specs.Int.{bit_at}
use Rattle.std.proofs.Math.Nat.{div-le_self}
use Rattle.std.proofs.lemmas.Nat.Bits.{bit_at-trailing_zeros}
use Rattle.cf_script.proofs.near.next_stop.Goals as goal

pub returns-clause-set : goal.returns-clause-set
returns-clause-set c =
    let left = c.args.stops / 2 ^ c.args.from in
    let h = bit_at-trailing_zeros w64 left (omega (arith, c.if-left-eq0.false)) (omega (arith, div-le_self c.args.stops (2 ^ c.args.from), c.ranges.stops.fits)) in
    sym (ap (λ (x : ℕ). x % 2) (shr-shr c.args.stops c.args.from _)) ∙ h.1

pub returns-clause-first : goal.returns-clause-first
returns-clause-first c = λ k ge lt.
    let left = c.args.stops / 2 ^ c.args.from in
    let h = bit_at-trailing_zeros w64 left (omega (arith, c.if-left-eq0.false)) (omega (arith, div-le_self c.args.stops (2 ^ c.args.from), c.ranges.stops.fits)) in
    let on : k ≡ c.args.from + (k - c.args.from) = omega (arith, ge) in
    ap (bit_at c.args.stops) on ∙ sym (ap (λ (x : ℕ). x % 2) (shr-shr c.args.stops c.args.from (k - c.args.from))) ∙ h.2 (k - c.args.from) (omega (arith, ge, lt))
