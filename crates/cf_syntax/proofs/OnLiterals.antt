-- What an answer unfolds to compute the script of a text that is written out.
use Rattle.std.specs.Prelude.{⊤}
use Rattle.std.specs.Str.{is_utf8, chars}
use lib.Utf8.{encode}
use Rattle.cf_syntax.specs.FormWords.{form_of}
use Rattle.cf_syntax.specs.Text.{class_line, setup_line, thread_line, handler_line, end_line, statement_of, statement_line, header_line, spoken_line, after_line, ended, whole, script_by}

unfoldable pub script_on_literals : ⊤
unfolding form_of class_line setup_line thread_line handler_line end_line statement_of statement_line header_line spoken_line after_line ended whole script_by is_utf8 chars encode
script_on_literals = tt
