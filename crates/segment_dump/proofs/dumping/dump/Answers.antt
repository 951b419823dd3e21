use Rattle.segment_dump.proofs.dumping.dump.Goals as goal
use Rattle.segment_dump.proofs.{Common.ap, Common.portable, Common.dump_text, dumping.ObjectParts.size-is}
use Rattle.segment_dump.proofs.{dumping.Output.of-same}

pub returns : goal.returns
returns g c =
    let s = c.args.segment.now in
    of-same c.dump_as.ensures (λ d k. ap (λ n. dump_text n (portable d))
    (size-is s.mode d c.size.result (c.size.ensures.answers d k)))
