-- The loop invariants of `description::push_characters`.
use Rattle.cf_contents.proofs.Showing.{Written}
use Rattle.cf_body.proofs.description.push_characters.Given as goal

abbrev pub invariant-loop : goal.invariant-loop
invariant-loop l = Written l.text.units l.initial.out.items l.out.items l.at l.counter
