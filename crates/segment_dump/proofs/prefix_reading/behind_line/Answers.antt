use Rattle.segment_dump.proofs.prefix_reading.behind_line.Goals as goal
use Rattle.segment_dump.proofs.Common.{◌≢◌, get_or, arith}
use Rattle.segment_dump.proofs.reading.Sizes.{first-ends, first-goes, first-starts, skip-ends, skip-goes}

pub bytes-init : goal.bytes-init
bytes-init c = record { skips = record { left = λ line a g e. (line, g, e) }; first = first-starts c.args.text.now }

pub bytes-preserved : goal.bytes-preserved
bytes-preserved c =
    let other : get_or c.bytes.rest.now 0 0 ≢ 0x0A = c.if-first-eq10.false in
    record {
      skips = skip-goes c.args.text.now c.bytes.rest.now c.in-len1-up.len_at_least other c.bytes.invariant.skips;
      first = first-goes c.args.text.now c.bytes.rest.now c.in-len1-up.len_at_least other c.bytes.invariant.first;
    }

pub returns-then-first-eq10-clause-skip_count : goal.returns-then-first-eq10-clause-skip_count
returns-then-first-eq10-clause-skip_count c =
    skip-ends c.args.text.now c.bytes.rest.now c.in-len1-up.len_at_least c.if-first-eq10.true c.bytes.invariant.skips

pub returns-then-first-eq10-clause-line : goal.returns-then-first-eq10-clause-line
returns-then-first-eq10-clause-line c =
    first-ends c.args.text.now c.bytes.rest.now c.in-len1-up.len_at_least c.if-first-eq10.true c.bytes.invariant.first
