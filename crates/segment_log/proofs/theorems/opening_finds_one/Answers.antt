use Rattle.segment_log.proofs.theorems.Lasting.{opening_finds_one}
use Rattle.segment_log.proofs.theorems.opening_finds_one.Goals as goal

pub returns : goal.returns
returns c = opening_finds_one
