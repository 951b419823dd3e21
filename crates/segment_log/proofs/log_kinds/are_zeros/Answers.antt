use Rattle.segment_log.proofs.log_kinds.Heads.{zeros_told}
use Rattle.segment_log.proofs.log_kinds.are_zeros.Goals as goal

pub returns : goal.returns
returns c = zeros_told c.args.bytes.now c.has_zeros_alone.result c.has_zeros_alone.ensures
