use Rattle.std.proofs.Common.{ap, ◌∙◌}
use Rattle.std.proofs.lemmas.List.{take_rest}
use Rattle.segment_log.specs.Records.{number_of}
use Rattle.segment_log.proofs.tags.Owned.{image_true, image_false}
use Rattle.segment_log.proofs.tags.names_image.Goals as goal

pub returns-then-tag-ge16 : goal.returns-then-tag-ge16
returns-then-tag-ge16 c =
    image_true c.args.payload.now c.tag_of-tag.result.now c.number_of.result c.args.id
    c.tag_of-tag.ensures c.if-tag-ge16.true (c.number_of.ensures ∙ ap number_of (take_rest c.tag_of-tag.result.now 8))

pub returns-else-tag-ge16 : goal.returns-else-tag-ge16
returns-else-tag-ge16 c =
    image_false c.args.payload.now c.tag_of-tag.result.now c.args.id c.tag_of-tag.ensures c.if-tag-ge16.false
