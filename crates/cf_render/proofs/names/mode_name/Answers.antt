-- Answers to the goals of `names::mode_name`.
use Rattle.std.proofs.Common.{sym, ap, ◌∙◌}
use Rattle.std.specs.Option.{option_copied}
use Rattle.cf_render.proofs.Spacing.{no_name}
use Rattle.cf_render.proofs.names.mode_name.Goals as goal

pub returns-in-None : goal.returns-in-None
returns-in-None c = no_name c.args.script.now.modes c.args.mode (ap option_copied (sym c.in-None.is) ∙ c.mode.ensures)
