use Rattle.block_tags.proofs.changes.UnchangedTags.{tags_that_stay_say_the_same as law}
use Rattle.block_tags.proofs.theorems.tags_that_stay_say_the_same.Goals as goal

pub returns : goal.returns
returns c = law
