-- Answers to the goals of `texts::Str::find`.
use Rattle.cf_string.proofs.texts.Str.find.Goals as goal

pub returns-clause-none : goal.returns-clause-none
returns-clause-none c = rw (← c.self.view_is, ← c.other.view_is, ← c.deref.ensures.value, ← c.deref-2.ensures.value)
    c.first_place.ensures.none
