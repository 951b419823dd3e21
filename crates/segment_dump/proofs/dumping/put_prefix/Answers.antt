use Rattle.segment_dump.proofs.dumping.put_prefix.Goals as goal
use Rattle.segment_dump.proofs.{Common.prefix_text, dumping.ObjectParts.named-is, dumping.ObjectParts.unique-is}
use Rattle.segment_dump.proofs.{dumping.Output.of-one}

pub returns : goal.returns
returns g c =
    let s = c.args.segment.now in
    of-one c.put_numbers.ensures
    (λ d k. λ i. prefix_text c.args.size (named-is s.mode d c.num_named.result (c.num_named.ensures.answers d k) i)
    (unique-is s.mode d c.num_unique.result (c.num_unique.ensures.answers d k) i))
