-- Answers to the goals of `block::OpenBlock::statement_line`.
use Rattle.std.proofs.Common.{refl, ap, sym, ◌∙◌}
use Rattle.cf_script.specs.Views.{lent}
use Rattle.cf_script.specs.TableViews.{form_word_of, found_row}
use Rattle.cf_script.specs.BlockViews.{open_block_of, with_line, statement_in}
use Rattle.cf_script.proofs.TableLaws.{words_count}
use Rattle.cf_script.proofs.StatementLaws.{line_by, line_fails, line_gives}
use Rattle.cf_script.proofs.block.OpenBlock.statement_line.Goals as goal

pub read_statement-requires : goal.read_statement-requires
read_statement-requires c = words_count c.args.words.now c.form_of.result c.in_ok-form_word.form_word c.form_of.ensures.form c.in_ok-form_word.was

pub returns-in-Some : goal.returns-in-Some
returns-in-Some c =
    let ws = lent c.args.words.now in
    let b = open_block_of c.args.self.now in
    let r = form_word_of c.in_ok-form_word.form_word.now in
    let h = c.is_handler-in_handler.result in
    let form = sym c.form_of.ensures.form ∙ ap found_row c.in_ok-form_word.was in
    let line = line_by c.args.classes.now c.args.threads.now c.args.names.now c.form_of.new.self b c.args.line ws r h form c.form_of.ensures.names c.is_handler-in_handler.ensures in
    line_gives b c.args.line (statement_in c.args.classes.now c.args.threads.now h c.form_of.new.self r ws) (with_line c.args.classes.now c.args.threads.now c.args.names.now b c.args.line ws) c.form_of.new.self c.in-Some.statement (open_block_of c.push.new.self) c.push.result
    line (c.in-Some.ensures c.args.classes.now c.args.threads.now r form refl) c.push.ensures

pub returns-in-Ok : goal.returns-in-Ok
returns-in-Ok c =
    let ws = lent c.args.words.now in
    let b = open_block_of c.args.self.now in
    let r = form_word_of c.in_ok-form_word.form_word.now in
    let h = c.is_handler-in_handler.result in
    let form = sym c.form_of.ensures.form ∙ ap found_row c.in_ok-form_word.was in
    let line = line_by c.args.classes.now c.args.threads.now c.args.names.now c.form_of.new.self b c.args.line ws r h form c.form_of.ensures.names c.is_handler-in_handler.ensures in
    line_gives b c.args.line (statement_in c.args.classes.now c.args.threads.now h c.form_of.new.self r ws) (with_line c.args.classes.now c.args.threads.now c.args.names.now b c.args.line ws) c.read_statement.new.names c.in-Ok.statement (open_block_of c.push-in-Ok.new.self) c.push-in-Ok.result
    line c.in-Ok.ensures c.push-in-Ok.ensures

pub returns-in-Err : goal.returns-in-Err
returns-in-Err c =
    let ws = lent c.args.words.now in
    let b = open_block_of c.args.self.now in
    let r = form_word_of c.in_ok-form_word.form_word.now in
    let h = c.is_handler-in_handler.result in
    let form = sym c.form_of.ensures.form ∙ ap found_row c.in_ok-form_word.was in
    let line = line_by c.args.classes.now c.args.threads.now c.args.names.now c.form_of.new.self b c.args.line ws r h form c.form_of.ensures.names c.is_handler-in_handler.ensures in
    line_fails b c.args.line (statement_in c.args.classes.now c.args.threads.now h c.form_of.new.self r ws) (with_line c.args.classes.now c.args.threads.now c.args.names.now b c.args.line ws) c.in-Err.fault line c.in-Err.ensures
