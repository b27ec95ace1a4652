-- What the answers to a retain and a release say of the count. This project's own.
use Rattle.std.specs.Prelude.{◌+◌, ◌-◌}
use Rattle.cf_count.specs.Counts.{Count, unrolled_byte}
use Rattle.cf_count.specs.declared.changes.Retained.{Retained}
use Rattle.cf_count.specs.declared.changes.Retained.TheVariants as retain
use Rattle.cf_count.specs.declared.changes.Released.{Released}
use Rattle.cf_count.specs.declared.changes.Released.TheVariants as release
use Rattle.cf_count.specs.declared.changes.TheConstants.{ROLLED}

-- the count that an answer to a retain leaves: the byte that it gives, or after a roll that byte and one more of the
-- external number
abbrev pub left_by_retain : Count → Retained → Count
left_by_retain c (retain.Inline byte) = record c { byte = byte }
left_by_retain c retain.Roll = record { byte = ROLLED; external = c.external + 1 }

-- the count that an answer to a release leaves: the byte that it gives; after an unroll one less of the external
-- number, and the byte for what is left of it; and after the last release no reference
abbrev pub left_by_release : Count → Released → Count
left_by_release c (release.Inline byte) = record c { byte = byte }
left_by_release c release.Unroll =
    record { byte = unrolled_byte (c.external - 1); external = c.external - 1 }
left_by_release c release.Last = record c { byte = 0 }
