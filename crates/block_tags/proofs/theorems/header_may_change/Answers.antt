use Rattle.block_tags.proofs.changes.UnchangedTags.{header_may_change as law}
use Rattle.block_tags.proofs.theorems.header_may_change.Goals as goal

pub returns : goal.returns
returns c = law
