-- Answers to the goals of `texts::stands_at`.
use Rattle.cf_string.proofs.Places.{starts_stand}
use Rattle.cf_string.proofs.texts.stands_at.Goals as goal

pub returns : goal.returns
returns c = starts_stand c.args.units.now c.args.other.now c.args.place c.starts_with.result c.requires
    c.starts_with.ensures.value
