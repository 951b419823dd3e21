use Rattle.segment_log.proofs.log_kinds.Heads.{start_cut}
use Rattle.segment_log.proofs.log_kinds.record_start.Goals as goal

pub returns : goal.returns
returns c = start_cut c.args.head.now c.min.result c.min.ensures c.requires.in_bounds
