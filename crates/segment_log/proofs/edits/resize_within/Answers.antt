use Rattle.std.proofs.Common.{arith}
use Rattle.segment_log.proofs.edits.Within.{holds_cut_by, holds_longer}
use Rattle.segment_log.proofs.edits.resize_within.Goals as goal

pub returns-then-len-from : goal.returns-then-len-from
returns-then-len-from c =
    λ image is held. holds_cut_by c.args.buffer.now image c.clear.new.bytes c.args.from c.args.len is
    c.if-len-from.true c.requires.in_bounds c.clear.ensures held

pub returns-else-len-from : goal.returns-else-len-from
returns-else-len-from c =
    λ image is held. holds_longer c.args.buffer.now image c.args.len (omega (arith, is)) (omega arith) held
