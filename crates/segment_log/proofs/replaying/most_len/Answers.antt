use Rattle.std.proofs.Common.{◌≡◌, ℕ, List, ap, arith}
use Rattle.segment_log.specs.Records.{recovered}
use Rattle.segment_log.specs.Edits.{len_after, most_len}
use Rattle.segment_log.proofs.edits.Within.{most_first, most_step, most_none}
use Rattle.segment_log.proofs.records.Reading.{shorter}
use Rattle.segment_log.proofs.replaying.most_len.Goals as goal

pub loop-payload-init : goal.loop-payload-init
loop-payload-init c = (omega arith, omega (arith, most_first (recovered c.args.log.now) c.args.len))

pub loop-payload-smaller : goal.loop-payload-smaller
loop-payload-smaller c =
    shorter 4096 c.loop-payload.rest.now (c.in-Some.payload.now, c.in-Some.behind.now) c.in-Some.ensures

pub loop-payload-preserved : goal.loop-payload-preserved
loop-payload-preserved c =
    let n : ℕ = c.loop-payload.so_far in
    let behind : List ℕ = c.in-Some.behind.now in
    let after : ℕ = len_after c.in-Some.payload.now n in
    let step = most_step c.loop-payload.rest.now c.in-Some.payload.now behind n c.in-Some.ensures in
    let least = most_first (recovered behind) after in
    let is = c.len_after-so_far.ensures in
    let same : most_len (recovered behind) c.len_after-so_far.result ≡ most_len (recovered behind) after =
    ap (most_len (recovered behind)) is in (
      omega (arith, is, c.max-most.ensures),
      omega (arith, step, least, is, same, c.max-most.ensures, c.loop-payload.invariant.0, c.loop-payload.invariant.1),
    )

pub returns : goal.returns
returns c =
    let none = most_none c.loop-payload.rest.now c.loop-payload.so_far c.in_default.ensures in
    omega (arith, none, c.loop-payload.invariant.0, c.loop-payload.invariant.1)
