use Rattle.cf_loops.proofs.Staying.{kinds_made, kinds_changed, kinds_of_deeds}
use Rattle.cf_loops.proofs.laws.items_stay.Goals as goal

pub returns : goal.returns
returns c = record { made = kinds_made; changed = kinds_changed; deeds = kinds_of_deeds }
