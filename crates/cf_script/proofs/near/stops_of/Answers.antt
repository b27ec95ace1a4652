-- Answers to the goals of `near::stops_of`.
use Rattle.std.proofs.Common.{ℕ, ap, sym, ◌∙◌, arith, ltb, w8}
use Rattle.std.specs.Int.{bit_at}
use Rattle.std.proofs.lemmas.Simd.{bitmask_splat}
use Rattle.cf_script.proofs.NearLaws.{stop_within, clear_byte}
use Rattle.cf_script.proofs.near.stops_of.Goals as goal

pub returns-clause-within : goal.returns-clause-within
returns-clause-within c = λ k e.
    let same = bitmask_splat w8 ltb c.args.bytes 32 35 c.fits-bytes.0 (omega arith) in
    stop_within c.args.bytes k c.fits-bytes.0 (sym (ap (λ (m : ℕ). bit_at m k) same) ∙ e)

pub returns-clause-above : goal.returns-clause-above
returns-clause-above c = λ k lt e.
    let same = bitmask_splat w8 ltb c.args.bytes 32 35 c.fits-bytes.0 (omega arith) in
    clear_byte c.args.bytes k c.fits-bytes.0 lt (sym (ap (λ (m : ℕ). bit_at m k) same) ∙ e)
