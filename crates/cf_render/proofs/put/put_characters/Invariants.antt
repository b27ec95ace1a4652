-- The loop invariants of `put::put_characters`.
use Rattle.std.proofs.Common.{◌≡◌, ◌++◌, ◌-◌, ◌≤◌, drop, length}
use Rattle.std.specs.Char.Utf16.{utf16_lossy_chars}
use Rattle.std.specs.List.{flat_map}
use Rattle.cf_contents.specs.Descriptions.{shown_char}
use Rattle.cf_render.proofs.put.put_characters.Given as goal

-- what is written and what is left are the whole
abbrev pub invariant-loop-at : goal.invariant-loop-at
invariant-loop-at l = record {
  written : l.text.items ++ flat_map shown_char (utf16_lossy_chars (drop l.at l.characters.units))
      ≡ l.initial.text.items ++ flat_map shown_char (utf16_lossy_chars l.characters.units);
  within : l.at ≤ length l.characters.units;
}

abbrev pub decreases-loop-at : goal.decreases-loop-at
decreases-loop-at l = length l.characters.units - l.at
