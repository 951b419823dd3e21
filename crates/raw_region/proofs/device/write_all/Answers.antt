use Rattle.std.proofs.Common.{◌-◌, length, take, drop, arith}
use Rattle.std.proofs.lemmas.Grind.{common_steps}
use Rattle.raw_region.proofs.words.Pieces.{took_more, took_some}
use Rattle.raw_region.proofs.device.write_all.Goals as goal

pub pieces-preserved : goal.pieces-preserved
pieces-preserved g c =
    let n = c.in_ok-count.count in let b = c.args.bytes.now in let i = c.pieces.written in
    let none_failed = took_some n (length (take (length b - i) (drop i b))) c.if-count-eq0.false in
    record {
      within = grind (arith, common_steps);
      taken = took_more (g.S.Sink.history c.args.sink.now).bytes (g.S.Sink.history c.pieces.sink).bytes
          (g.S.Sink.history c.write.new.self).bytes b i n c.pieces.invariant.taken c.in_ok-count.ensures.bytes;
      failures = omega (arith, none_failed, c.in_ok-count.ensures.failures, c.pieces.invariant.failures);
    }
