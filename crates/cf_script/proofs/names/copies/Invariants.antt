-- The loop invariants of `names::copies`.
use Rattle.std.proofs.Common.{◌≡◌, take}
use Rattle.cf_script.specs.Views.{texts}
use Rattle.cf_script.proofs.names.copies.Given as goal

abbrev pub invariant-loop-name : goal.invariant-loop-name
invariant-loop-name l = l.list.items ≡ texts (take l.name-index l.names)
