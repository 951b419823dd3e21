-- The law is the lemmas.
use Rattle.grow_shrink.proofs.resizing.Sizes.{grown-directory, shrunk-directory}
use Rattle.grow_shrink.proofs.theorems.resized_are_directories.Goals as goal

pub returns : goal.returns
returns c = record { growth = grown-directory; shrinking = shrunk-directory }
