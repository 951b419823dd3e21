use Rattle.segment_file.proofs.writing.PathContents.{tears}
use Rattle.segment_file.proofs.theorems.emptying_tears.Goals as goal

pub returns : goal.returns
returns c = tears
