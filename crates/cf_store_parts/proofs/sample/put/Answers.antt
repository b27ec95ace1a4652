-- Answers to the goals of `sample::put`.
use Rattle.std.proofs.Common.{ap, sym, subst, ◌∙◌}
use Rattle.cf_contents.specs.Contents.{size_of}
use Rattle.cf_contents.specs.Stores.{Held, MayGrow}
use Rattle.cf_store_parts.proofs.Growing.{grown}
use Rattle.cf_store_parts.proofs.sample.put.Goals as goal

pub returns-then-count-lt65536 : goal.returns-then-count-lt65536
returns-then-count-lt65536 c =
    let small = ap (λ (h : Held). size_of h.object.content) c.new.ensures ∙ c.requires.small in
    subst MayGrow (sym c.make.ensures.bodies)
    (grown _ _ small (subst MayGrow (sym c.reserve_for.ensures.bodies) c.requires.grows))
