-- Answers to the goals of `texts::Str::has_suffix`.
use Rattle.cf_string.proofs.Places.{ends_stand}
use Rattle.cf_string.proofs.texts.Str.has_suffix.Goals as goal

pub returns : goal.returns
returns c =
    rw (← c.self.view_is, ← c.other.view_is, ← c.deref.ensures.value, ← c.deref-2.ensures.value)
    (ends_stand c.deref.result.now c.deref-2.result.now c.ends_with.result c.ends_with.ensures.bound
    c.ends_with.ensures.value)
