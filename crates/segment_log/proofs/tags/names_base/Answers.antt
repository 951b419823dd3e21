use Rattle.segment_log.proofs.tags.Owned.{base_true, base_false}
use Rattle.segment_log.proofs.tags.names_base.Goals as goal

pub returns-then-tag-ge16 : goal.returns-then-tag-ge16
returns-then-tag-ge16 c =
    base_true c.args.payload.now c.tag_of-tag.result.now c.number_of.result c.args.id c.tag_of-tag.ensures
    c.if-tag-ge16.true c.number_of.ensures

pub returns-else-tag-ge16 : goal.returns-else-tag-ge16
returns-else-tag-ge16 c =
    base_false c.args.payload.now c.tag_of-tag.result.now c.args.id c.tag_of-tag.ensures c.if-tag-ge16.false
