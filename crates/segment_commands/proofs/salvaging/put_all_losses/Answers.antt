use Rattle.raw_region.proofs.Laws.{writes-cut, writes-then}
use Rattle.segment_commands.specs.Salvaging.{count_line}
use Rattle.segment_commands.proofs.salvaging.put_all_losses.Goals as goal

pub returns-in_err-put_losses : goal.returns-in_err-put_losses
returns-in_err-put_losses g c =
    writes-cut (g.S.Sink.history c.args.err.now) (g.S.Sink.history c.put_losses.new.err) _ c.from_residual.result _
    (count_line c.args.losses.now) c.from_residual.ensures.0 c.in_err-put_losses.ensures

pub returns : goal.returns
returns g c =
    writes-then (g.S.Sink.history c.args.err.now) (g.S.Sink.history c.put_losses.new.err)
    (g.S.Sink.history c.put_pieces.new.out) _ c.put_pieces.result _ (count_line c.args.losses.now)
    c.in_ok-put_losses.ensures c.put_pieces.ensures
