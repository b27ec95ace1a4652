-- Answers to the goals of `statements::item_made`.
use Rattle.std.proofs.Common.{sym, ap}
use Rattle.cf_world.specs.Entering.{item_new}
use Rattle.cf_world.proofs.Items.{staged_itemless}
use Rattle.cf_world.proofs.statements.item_made.Goals as goal

pub returns-in_default : goal.returns-in_default
returns-in_default c = sym (ap (item_new c.args.info) (staged_itemless c.args.statement.now c.requires (λ v order handler info. c.in_default.not-MakeSource v order handler info)))
