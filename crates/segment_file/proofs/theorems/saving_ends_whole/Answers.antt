use Rattle.segment_file.proofs.writing.PathContents.{ends_whole}
use Rattle.segment_file.proofs.theorems.saving_ends_whole.Goals as goal

pub returns : goal.returns
returns c = ends_whole
