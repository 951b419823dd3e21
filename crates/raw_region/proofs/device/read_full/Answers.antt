use Rattle.std.proofs.Common.{◌≡◌, ◌-◌, length, ◌∙◌, arith}
use Rattle.std.proofs.lemmas.Grind.{common_steps}
use Rattle.raw_region.proofs.words.Pieces.{gave_more, gave_some, not_zero}
use Rattle.raw_region.proofs.device.read_full.Goals as goal

pub pieces-preserved : goal.pieces-preserved
pieces-preserved g c =
    let n = c.in_ok-count.count in let i = c.pieces.filled in let xs = c.pieces.into in let ws = c.read.new.into in
    let none_ended = gave_some n (length ws) c.if-count-eq0.false in
    let long : length ws ≡ length xs - i = grind (arith, common_steps, c.read.auto.into) in
    record {
      within = grind (arith, common_steps, c.in_ok-count.ensures.count);
      given = gave_more (g.S.Source.history c.args.source.now).bytes (g.S.Source.history c.pieces.source).bytes
          (g.S.Source.history c.read.new.self).bytes xs ws i n c.pieces.invariant.within c.in_ok-count.ensures.count
          long c.pieces.invariant.given c.in_ok-count.ensures.bytes;
      some_read = λ h. c.in_ok-count.ensures.end (grind (arith, common_steps)) ∙ not_zero n c.if-count-eq0.false;
      none_read = λ h. absurd (omega arith);
      ends = grind (arith, c.in_ok-count.ensures.ends, none_ended);
      failures = grind (arith, c.in_ok-count.ensures.failures);
    }
