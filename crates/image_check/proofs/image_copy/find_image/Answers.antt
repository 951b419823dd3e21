use Rattle.image_check.proofs.Common.{ap, ◌∙◌}
use Rattle.raw_region.specs.Memory.{whole}
use Rattle.raw_region.proofs.Laws.{whole-cut_at}
use Rattle.image_check.proofs.image_copy.find_image.Goals as goal

pub returns-in-Ok-clause-not_written : goal.returns-in-Ok-clause-not_written
returns-in-Ok-clause-not_written c =
    ap whole (c.new-in-Ok.ensures ∙ c.new.ensures.cut) ∙ whole-cut_at c.args.region c.args.base c.in-Ok.size
