-- The statement that an entry writes. This project's own: an action tells the block and the number of its statement.
use Rattle.std.specs.Prelude.{Option, Some, None, slice_get}
use Rattle.cf_syntax.specs.declared.script.Script.{Script}
use Rattle.cf_syntax.specs.declared.statement.Statement.{Statement}
use Rattle.cf_syntax.specs.BlockLines.{statements_in}
use Rattle.cf_next.specs.declared.action.Action.{Action}
use Rattle.cf_next.specs.Actions.{Site, site_of}

-- the statement at a site of the script
abbrev pub statement_at : Script → Site → Option Statement
statement_at s site = slice_get (statements_in (slice_get s.blocks site.block)) site.number

-- the same, if there is a site
abbrev pub statement_if : Script → Option Site → Option Statement
statement_if s None = None
statement_if s (Some site) = statement_at s site

-- the statement that an action writes, if a statement writes it
abbrev pub statement_of : Script → Action → Option Statement
statement_of s a = statement_if s (site_of a)
