use Rattle.block_tags.proofs.changes.UnchangedTags.{prefix_is_a_window as law}
use Rattle.block_tags.proofs.theorems.prefix_is_a_window.Goals as goal

pub returns : goal.returns
returns c = law
