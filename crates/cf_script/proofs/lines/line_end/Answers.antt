-- Answers to the goals of `lines::line_end`.
use Rattle.std.specs.Prelude.{◌==◌}
use Rattle.cf_script.proofs.FeedLaws.{first_is_position}
use Rattle.cf_script.proofs.lines.line_end.Goals as goal

pub returns : goal.returns
returns c = first_is_position (λ b. b == 10) c.args.bytes.now c.memchr.result c.memchr.ensures
