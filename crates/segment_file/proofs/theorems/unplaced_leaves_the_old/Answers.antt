use Rattle.segment_file.proofs.writing.PathContents.{unplaced_leaves}
use Rattle.segment_file.proofs.theorems.unplaced_leaves_the_old.Goals as goal

pub returns : goal.returns
returns c = unplaced_leaves
