-- The loop invariants of `content::Content::slots`.
use Rattle.std.proofs.Common.{◌≡◌, ◌-◌, length, take}
use Rattle.cf_contents.specs.Contents.{slots_in}
use Rattle.cf_plain.specs.Views.{content_of}
use Rattle.cf_plain.proofs.content.Content.slots.Given as goal

-- the first slots are there
abbrev pub invariant-loop-object : goal.invariant-loop-object
invariant-loop-object l = l.slots.items ≡ take (length l.slots.items) (slots_in (content_of l.self))

abbrev pub decreases-loop-object : goal.decreases-loop-object
decreases-loop-object l = length (slots_in (content_of l.self)) - length l.slots.items
