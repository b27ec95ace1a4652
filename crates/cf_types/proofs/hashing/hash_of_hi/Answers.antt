-- Answers to the goals of `hashing::hash_of_hi`.
use Rattle.std.proofs.Common.{refl}
use Rattle.std.specs.Char.Utf16.{utf16_chars}
use lib.Utf8.{encode}
use Rattle.cf_types.proofs.hashing.hash_of_hi.Goals as goal

pub returns : goal.returns
unfolding utf16_chars encode
returns c = refl
