use Rattle.std.specs.Prelude.{◌++◌, [], codes}
use Rattle.raw_region.proofs.Laws.{writes-cut, writes-then}
use Rattle.segment_cli.specs.Reports.{line, session_message}
use Rattle.segment_commands.specs.Paths.{path_text}
use Rattle.segment_commands.specs.Reports.{trouble_line}
use Rattle.segment_commands.proofs.checking.put_reason.Goals as goal

pub returns-in_err-put_pieces : goal.returns-in_err-put_pieces
returns-in_err-put_pieces g c =
    let value = c.path_piece.ensures in
    writes-cut (g.S.Sink.history c.args.err.now) (g.S.Sink.history c.put_pieces.new.out) _ c.from_residual.result _
    (line (session_message c.args.fault) ++ trouble_line c.args.path.now c.args.trouble)
    c.from_residual.ensures.0 (rw value at c.in_err-put_pieces.ensures)

pub returns-in_err-put_session_line : goal.returns-in_err-put_session_line
returns-in_err-put_session_line g c =
    let value = c.path_piece.ensures in
    let from = c.from_residual-in_err-put_session_line in
    writes-then (g.S.Sink.history c.args.err.now) (g.S.Sink.history c.put_pieces.new.out)
    (g.S.Sink.history c.put_session_line.new.err) _ from.result (path_text c.args.path.now ++ (codes ": " ++ [])) _
    (rw value at c.in_ok-put_pieces.ensures)
    (writes-cut (g.S.Sink.history c.put_pieces.new.out) (g.S.Sink.history c.put_session_line.new.err) _ from.result
    (line (session_message c.args.fault)) (trouble_line c.args.path.now c.args.trouble) from.ensures.0
    c.in_err-put_session_line.ensures)

pub returns : goal.returns
returns g c =
    let value = c.path_piece.ensures in
    writes-then (g.S.Sink.history c.args.err.now) (g.S.Sink.history c.put_pieces.new.out)
    (g.S.Sink.history c.put_trouble.new.err) _ c.put_trouble.result (path_text c.args.path.now ++ (codes ": " ++ [])) _
    (rw value at c.in_ok-put_pieces.ensures)
    (writes-then (g.S.Sink.history c.put_pieces.new.out) (g.S.Sink.history c.put_session_line.new.err)
    (g.S.Sink.history c.put_trouble.new.err) _ c.put_trouble.result (line (session_message c.args.fault))
    (trouble_line c.args.path.now c.args.trouble) c.in_ok-put_session_line.ensures c.put_trouble.ensures)
