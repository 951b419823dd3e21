use Rattle.std.proofs.Common.{arith}
use Rattle.raw_region.proofs.Laws.{writes-element}
use Rattle.segment_commands.specs.Salvaging.{loss_line}
use Rattle.segment_commands.proofs.salvaging.Ends.{texts-more}
use Rattle.segment_commands.proofs.salvaging.put_losses.Goals as goal

pub returns-in_err-put_loss : goal.returns-in_err-put_loss
returns-in_err-put_loss g c =
    writes-element (loss_line c.args.image.now) c.args.losses.now c.losses.loss-index _
    (g.S.Sink.history c.args.err.now) (g.S.Sink.history c.losses.err) (g.S.Sink.history c.put_loss.new.err) _
    c.from_residual.result c.losses-test.true c.losses.invariant.taken c.losses.invariant.failures
    c.from_residual.ensures.0 c.in_err-put_loss.ensures

pub losses-preserved : goal.losses-preserved
losses-preserved g c =
    let counted = c.in_ok-put_loss.ensures.counted in
    let before = c.losses.invariant.failures in
    record {
      taken = texts-more (loss_line c.args.image.now) c.args.losses.now c.losses.loss-index _
          (g.S.Sink.history c.args.err.now).bytes (g.S.Sink.history c.losses.err).bytes
          (g.S.Sink.history c.put_loss.new.err).bytes c.losses-test.true c.losses.invariant.taken
          c.in_ok-put_loss.ensures.ok;
      failures = omega (arith, counted, before);
    }
