use Rattle.std.proofs.Common.{◌<◌, ◌≤◌, ◌+◌, drop, arith}
use Rattle.std.proofs.lemmas.List.{length-take}
use Rattle.segment_file.proofs.replay.Again.{replayed-more}
use Rattle.segment_file.proofs.replay.ReplaySource.read.Goals as goal

pub returns-clause-bytes : goal.returns-clause-bytes
returns-clause-bytes g c =
    let h = c.args.self.now in
    let count = c.min-count.result in
    let is = c.min-count.ensures in
    let bounds = h.in_bounds in
    let other = c.if-self-eq-FRONT.false in
    let few : h.given < 24 = omega (arith, bounds, other) in
    let fits : h.given + count ≤ 24 = omega (arith, is, bounds) in
    let len = c.copy_from_slice.ensures.len in
    replayed-more h.front (g.S.Source.history h.inner).bytes c.copy_from_slice.new.self (drop count c.args.into.now)
    h.given count h.len few fits (h.start few).bytes_are c.copy_from_slice.ensures.after
    (omega (arith, len, is, length-take count c.args.into.now))
