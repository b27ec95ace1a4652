-- Answers to the goals of `block::Reader::place_line`.
use Rattle.std.proofs.Common.{ℕ, List, ap, sym, ◌∙◌}
use Rattle.std.specs.Prelude.{codes}
use Rattle.std.specs.Option.{option_map}
use Rattle.std.specs.Str.{bytes_eq}
use Rattle.cf_script.specs.Views.{lent}
use Rattle.cf_script.specs.BlockViews.{open_block_of, reading_of}
use Rattle.cf_script.proofs.ReaderLaws.{line_placed, placed}
use Rattle.cf_script.proofs.block.Reader.place_line.Goals as goal

pub returns-in-Some-2 : goal.returns-in-Some-2
returns-in-Some-2 c =
    let word = ap (λ (w : List ℕ). bytes_eq w (codes "end")) (sym c.word_at.ensures) ∙ sym c.is.ensures ∙ c.if-is.false in
    let line = line_placed c.args.threads.now (reading_of c.args.self.now) (open_block_of c.in-Some.field-0) (lent c.args.words.now) c.statement_line.result c.statement_line.new.names (open_block_of c.statement_line.new.self) c.statement_line.ensures in
    placed c.args.threads.now (reading_of c.args.self.now) _ _ (open_block_of c.in-Some.field-0) (lent c.args.words.now) c.statement_line.result (ap (option_map open_block_of) c.in-Some.is) word line
