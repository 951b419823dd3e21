use Rattle.std.proofs.Common.{◌++◌, refl}
use Rattle.segment_manager.specs.Directory.{Directory}
use Rattle.segment_report.specs.Page.{page_end, rows_text, table_head}
use Rattle.segment_report.proofs.page.Output.{tells-cut, tells-text, tells-then}
use Rattle.segment_report.proofs.page.put_objects.Goals as goal

pub returns-in_err-put_table_head : goal.returns-in_err-put_table_head
returns-in_err-put_table_head g c =
    let s = c.args.segment.now in
    let old = g.W.Sink.history c.args.out.now in
    let mid = g.W.Sink.history c.put_table_head.new.out in
    tells-cut s old mid _ c.from_residual.result (λ (d : Directory). table_head) (λ (d : Directory).
    rows_text d ++ page_end)
    c.from_residual.ensures.0
    (tells-text s old mid _ table_head (λ (d : Directory). table_head) c.in_err-put_table_head.ensures (λ d k. refl))

pub returns-in_err-put_rows : goal.returns-in_err-put_rows
returns-in_err-put_rows g c =
    let s = c.args.segment.now in
    let old = g.W.Sink.history c.args.out.now in
    let mid = g.W.Sink.history c.put_table_head.new.out in
    let ended = g.W.Sink.history c.put_rows.new.out in
    tells-then s old mid ended _ c.from_residual-in_err-put_rows.result (λ (d : Directory). table_head)
    (λ (d : Directory). rows_text d ++ page_end)
    (tells-text s old mid _ table_head (λ (d : Directory). table_head) c.in_ok-put_table_head.ensures (λ d k. refl))
    (tells-cut s mid ended _ c.from_residual-in_err-put_rows.result rows_text (λ (d : Directory). page_end)
    c.from_residual-in_err-put_rows.ensures.0 c.in_err-put_rows.ensures)

pub returns : goal.returns
returns g c =
    let s = c.args.segment.now in
    let old = g.W.Sink.history c.args.out.now in
    let mid = g.W.Sink.history c.put_table_head.new.out in
    let told = g.W.Sink.history c.put_rows.new.out in
    let ended = g.W.Sink.history c.put_page_end.new.out in
    tells-then s old mid ended _ c.put_page_end.result (λ (d : Directory). table_head)
    (λ (d : Directory). rows_text d ++ page_end)
    (tells-text s old mid _ table_head (λ (d : Directory). table_head) c.in_ok-put_table_head.ensures (λ d k. refl))
    (tells-then s mid told ended _ c.put_page_end.result rows_text (λ (d : Directory).
    page_end) c.in_ok-put_rows.ensures
    (tells-text s told ended c.put_page_end.result page_end (λ (d : Directory).
    page_end) c.put_page_end.ensures (λ d k. refl)))
