-- Answers to the goals of `put::put_bytes`.
use Rattle.std.proofs.Common.{arith}
use Rattle.cf_render.proofs.Spacing.{byte_more}
use Rattle.cf_render.proofs.put.put_bytes.Goals as goal

pub loop-byte-preserved : goal.loop-byte-preserved
loop-byte-preserved c =
    byte_more c.args.bytes.now c.loop-byte.byte-index c.args.text.now.items c.loop-byte.text.items c.put_byte.new.text.items (omega arith) c.in_ok-put_byte.ensures c.loop-byte.invariant
