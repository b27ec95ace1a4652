-- How contracts see a line of a block.
use Rattle.cf_syntax.specs.BlockLines.{BlockLine, begins, claims, says, packs}
use Rattle.cf_next.specs.declared.lines.Line.{Line}
use Rattle.cf_next.specs.declared.lines.Line.TheVariants.{Begins, Claims, Says, Packs}

abbrev pub line_of : Line → BlockLine
line_of Begins = begins 0
line_of (Claims k v) = claims k v
line_of (Says x) = says x.now
line_of (Packs t k v) = packs t k v
