use Rattle.segment_dump.proofs.prefix_reading.next_token.Goals as goal
use Rattle.segment_dump.proofs.{Common.◌<◌, Common.get_or, Common.arith, reading.Prefixes.token-goes}

pub token-preserved : goal.token-preserved
token-preserved c =
    let high : 0x20 < get_or c.token.rest.now 0 0 = omega arith in
    token-goes c.args.text.now c.token.rest.now c.in-len1-up.len_at_least high c.token.invariant
