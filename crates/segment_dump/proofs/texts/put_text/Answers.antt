use Rattle.segment_dump.proofs.Common.{length, writes-cut, writes-then, length_text, pieces_text}
use Rattle.segment_dump.proofs.texts.put_text.Goals as goal

pub returns-in_err-put_length : goal.returns-in_err-put_length
returns-in_err-put_length g c =
    writes-cut (g.W.Sink.history c.args.out.now) (g.W.Sink.history c.put_length.new.out) _ c.from_residual.result
    (length_text (length c.args.text.now)) (pieces_text c.args.text.now) c.from_residual.ensures.0
    c.in_err-put_length.ensures

pub returns : goal.returns
returns g c =
    writes-then (g.W.Sink.history c.args.out.now) (g.W.Sink.history c.put_length.new.out)
    (g.W.Sink.history c.put_all_pieces.new.out) _ c.put_all_pieces.result (length_text (length c.args.text.now))
    (pieces_text c.args.text.now) c.in_ok-put_length.ensures c.put_all_pieces.ensures
