-- Answers to the goals of `index::SourceIndex::make`.
use Rattle.std.proofs.Common.{◌∙◌, sym, rules, w64}
use Rattle.std.proofs.lemmas.Int.{to_z-of_z}
use mir.Val.{SFits}
use Rattle.cf_store.proofs.Sourcing.{absent_above, made_none, made_last}
use Rattle.cf_store.proofs.index.SourceIndex.make.Goals as goal

pub make-requires-clause-is_new : goal.make-requires-clause-is_new
make-requires-clause-is_new c = absent_above _ _ (rw (← c.self.view_is) at c.requires.last)

pub returns-in-Some-clause-sources : goal.returns-in-Some-clause-sources
returns-in-Some-clause-sources c =
    let fits : SFits w64 c.in-Some.order = search rules in
    rw (← c.self.view_is)
    (made_last _ _ _ _ _ (sym c.in-Some.is ∙ c.order_of.ensures) c.requires.new (rw (← c.self.view_is) at c.requires.last) (simp to_z-of_z at c.make.ensures.made))

pub returns-in_default-clause-sources : goal.returns-in_default-clause-sources
returns-in_default-clause-sources c =
    rw (← c.self.view_is) (made_none _ _ _ (sym c.in_default.is ∙ c.order_of.ensures))
