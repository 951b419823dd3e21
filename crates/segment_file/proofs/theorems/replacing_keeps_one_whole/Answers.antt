use Rattle.segment_file.proofs.writing.PathContents.{replacing_keeps}
use Rattle.segment_file.proofs.theorems.replacing_keeps_one_whole.Goals as goal

pub returns : goal.returns
returns c = replacing_keeps
