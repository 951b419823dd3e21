use Rattle.segment_dump.proofs.texts.put_all_pieces.Goals as goal
use Rattle.segment_dump.proofs.Common.{◌≡◌, ◌++◌, length, ap, ◌∙◌, refl, arith, parts_until, piece_line, pieces_in}
use Rattle.segment_dump.proofs.{dumping.Output.writes_none, texts.Parts.part-cut, texts.Parts.part-told}

pub pieces-init : goal.pieces-init
pieces-init g c = writes_none (g.W.Sink.history c.args.out.now) 0 (parts_until (piece_line c.args.text.now) 0) refl

pub returns-in_err-put_piece : goal.returns-in_err-put_piece
returns-in_err-put_piece g c =
    part-cut (piece_line c.args.text.now) (g.W.Sink.history c.args.out.now) (g.W.Sink.history c.pieces.out)
    (g.W.Sink.history c.put_piece.new.out) c.pieces.index c.pieces.invariant
    (pieces_in (length c.args.text.now)) (omega (arith, c.pieces-test.true, c.pieces_in-index-end.ensures)) _
    c.in_err-put_piece.ensures c.from_residual.result c.from_residual.ensures.0

pub pieces-preserved : goal.pieces-preserved
pieces-preserved g c =
    part-told (piece_line c.args.text.now) (g.W.Sink.history c.args.out.now) (g.W.Sink.history c.pieces.out)
    (g.W.Sink.history c.put_piece.new.out) c.pieces.index c.pieces.invariant _ c.in_ok-put_piece.ensures

pub returns : goal.returns
returns g c =
    let was = c.pieces.invariant in
    let all : c.pieces.index ≡ pieces_in (length c.args.text.now) =
    omega (arith, c.pieces-test.false, c.pieces.auto.index-end, c.pieces_in-index-end.ensures) in
    record {
      ok = was.ok ∙ ap (λ n. (g.W.Sink.history c.args.out.now).bytes ++ parts_until (piece_line c.args.text.now) n) all;
      err = tt;
      counted = omega (arith, was.counted);
    }
