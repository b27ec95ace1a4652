-- What the numbers of a line's names stand for, and the number of a name.
use Rattle.std.specs.Prelude.{ℕ, List, Result, Ok, Err, nat_lt, if◌then◌else◌}
use Rattle.std.specs.List.{position_or_len}
use Rattle.std.specs.Str.{bytes_eq}
use Rattle.cf_syntax.specs.declared.refusal.Reason.{Reason}
use Rattle.cf_syntax.specs.declared.refusal.Reason.TheVariants.{TooMany}
use Rattle.cf_syntax.specs.FormWords.{Names, With}
use Rattle.cf_syntax.specs.FormStatements.{Numbers}
use Rattle.cf_script.specs.declared.names.LineNumbers.{LineNumbers}

-- what the numbers of a line's names stand for
abbrev pub line_numbers_of : LineNumbers → Numbers
line_numbers_of n = record { variables = n.variables.items; handler = n.handler; mode = n.mode; notice = n.notice }

abbrev pub with_line_numbers_of : Names → LineNumbers → With Numbers
with_line_numbers_of names n = record { names = names; value = line_numbers_of n }

-- the place of a name among others, of which there may be so many
abbrev pub number_in : (limit : ℕ) → List ℕ → List (List ℕ) → Result ℕ Reason
number_in limit word names =
    let n = position_or_len (bytes_eq word) names in if nat_lt n limit then Ok n else Err TooMany
