use Rattle.segment_dump.proofs.reading.Sizes.{measured-by}
use Rattle.segment_dump.proofs.prefix_reading.next_measure.Goals as goal

pub returns-clause-measure : goal.returns-clause-measure
returns-clause-measure c =
    measured-by c.args.text.now c.in_ok-kind.rest.now c.in_ok-behind.field-0.now c.in_ok-count.rest.now
    c.in_ok-behind-2.field-0.now c.in_ok-kind.kind c.in_ok-count.count
    c.in_ok-kind.ensures.named c.in_ok-behind.ensures c.in_ok-count.ensures.spelled c.in_ok-behind-2.ensures
