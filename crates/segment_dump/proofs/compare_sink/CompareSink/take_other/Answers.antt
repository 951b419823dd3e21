use Rattle.segment_dump.proofs.Common.{arith, sym}
use Rattle.segment_dump.proofs.comparing.Comparison.{all-taken, other-compares, other-taken}
use Rattle.segment_dump.proofs.compare_sink.CompareSink.take_other.Goals as goal

pub returns-then-count-bytes-clause-bytes : goal.returns-then-count-bytes-clause-bytes
returns-then-count-bytes-clause-bytes c =
    all-taken c.args.self.now c.self.inside.text.now c.args.bytes.now _ c.self.inside.at c.common-count.result
    c.self.inside.failures c.self.inside.other (sym c.self.view_is) c.requires c.split_at.ensures.back
    c.common-count.ensures.prefix

pub invariant_of-self-2 : goal.invariant_of-self-2
invariant_of-self-2 c =
    other-compares c.args.self.now c.self.inside.text.now c.args.bytes.now _ c.self.inside.at c.common-count.result
    c.self.inside.failures c.self.inside.other (sym c.self.view_is) c.requires c.split_at.ensures.back
    c.common-count.ensures.prefix
    (omega (arith, c.if-count-bytes.false, c.common-count.ensures.second_in_bounds))
    c.common-count.ensures.first_in_bounds c.self.invariant.inside c.common-count.ensures.difference

pub returns-clause-bytes : goal.returns-clause-bytes
returns-clause-bytes c =
    other-taken c.args.self.now c.self.inside.text.now c.args.bytes.now _ c.self.inside.at c.common-count.result
    c.self.inside.failures c.self.inside.other (sym c.self.view_is) c.requires c.split_at.ensures.back
    c.common-count.ensures.prefix (omega (arith, c.if-count-bytes.false, c.common-count.ensures.second_in_bounds))
