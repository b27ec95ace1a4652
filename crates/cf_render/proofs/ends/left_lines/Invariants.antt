-- The loop invariants of `ends::left_lines`.
use Rattle.std.proofs.Common.{◌≡◌, take}
use Rattle.cf_render.specs.Ends.{alive_in, left_from, lines_of, owners_in, slots_in}
use Rattle.cf_render.proofs.ends.left_lines.Given as goal

abbrev pub invariant-loop-number : goal.invariant-loop-number
invariant-loop-number l = lines_of l.lines.items
    ≡ left_from l.script.classes 0 (take l.number l.classes) (alive_in l.alive) (owners_in l.tallies) (slots_in l.tallies)
