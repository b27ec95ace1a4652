-- The action of a line writes the statement that the line says.
use Rattle.std.proofs.Common.{◌≡◌, Some, refl, ap, ◌∙◌}
use Rattle.std.specs.Prelude.{slice_get}
use Rattle.cf_syntax.specs.declared.script.Script.{Script}
use Rattle.cf_syntax.specs.declared.statement.Statement.{Statement}
use Rattle.cf_syntax.specs.declared.statement.Statement.TheVariants as forms
use Rattle.cf_syntax.specs.BlockLines.{says}
use Rattle.cf_next.specs.Actions.{Site, action_of, site_of}
use Rattle.cf_next.specs.Demands.{frame_lines}
use Rattle.cf_next.specs.Next.{site_in}
use Rattle.cf_next.specs.Stands.{Frame}
use Rattle.cf_next.proofs.StatementLaws.{frame_statement}
use Rattle.cf_history.specs.Written.{statement_if, statement_of}

pub site_action : (x : Statement) (site : Site) → site_of (action_of x site) ≡ Some site
site_action (forms.Release v) site = refl
site_action x site = refl

-- what a frame says is what its action writes
pub line_written : (s : Script) (f : Frame) (x : Statement)
    → slice_get (frame_lines s f.kind f.block) f.number ≡ Some (says x)
    → statement_of s (action_of x (site_in s f (says x))) ≡ Some x
line_written s f x e = ap (statement_if s) (site_action x (site_in s f (says x))) ∙ frame_statement s f.kind f.block f.number x e
