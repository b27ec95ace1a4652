-- Answers to the goals of `hashing::hash_text`.
use Rattle.std.proofs.Common.{◌≤◌, length, arith}
use Rattle.cf_types.proofs.Lossy.{all_taken}
use Rattle.cf_types.proofs.hashing.hash_text.Goals as goal

pub returns : goal.returns
returns c =
    let past : length c.args.text.now.units ≤ c.loop-at.at = omega arith in
    all_taken c.args.text.now.units c.loop-at.at _ _ past c.loop-at.invariant
