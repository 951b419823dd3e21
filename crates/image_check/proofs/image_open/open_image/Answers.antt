use Rattle.image_check.proofs.Common.{List, ReadsSource, err_from_is_err_and, format_in, read_delta, subst, sym}
use Rattle.image_check.proofs.Common.{ℕ}
use Rattle.image_check.specs.Opening.{CountsOpening}
use Rattle.image_check.proofs.opening.InMemory.{format_in-few}
use Rattle.image_check.proofs.opening.Refusals.{opens, shown, unread-opens}
use Rattle.image_check.proofs.reading.FrontAlone.{opened-reads, opened-roomy}
use Rattle.image_check.proofs.image_open.open_image.Goals as goal

pub returns-in_err-window-clause-opening : goal.returns-in_err-window-clause-opening
returns-in_err-window-clause-opening g c =
    let p = err_from_is_err_and c.from_residual.result c.from_residual.ensures.1 in
    let given = read_delta (g.S.Source.history c.args.reader.now) (g.S.Source.history c.read_image.new.reader) in
    rw (p.1, p.2)
    (unread-opens (format_in c.args.versions given.bytes) given c.args.region c.args.base c.args.mode
    c.in_err-window.field-0.0 c.in_err-window.ensures.reading)

pub open_window-requires : goal.open_window-requires
open_window-requires g c =
    let given = read_delta (g.S.Source.history c.args.reader.now) (g.S.Source.history c.read_image.new.reader) in (
      format_in c.args.versions given.bytes,
      c.in_ok-window.ensures.reading.front,
      format_in-few c.args.versions given.bytes,
    )

pub returns-clause-opening : goal.returns-clause-opening
returns-clause-opening g c =
    let given = read_delta (g.S.Source.history c.args.reader.now) (g.S.Source.history c.read_image.new.reader) in
    let format = format_in c.args.versions given.bytes in
    opens format given c.args.region c.args.base c.in_ok-window.window c.in_ok-window.ensures.reading c.args.mode
    c.open_window.result (c.open_window.ensures.opening format c.in_ok-window.ensures.reading.front)

pub returns-clause-place : goal.returns-clause-place
returns-clause-place g c =
    let given = read_delta (g.S.Source.history c.args.reader.now) (g.S.Source.history c.read_image.new.reader) in
    let format = format_in c.args.versions given.bytes in
    shown format given c.args.region c.args.base c.in_ok-window.window c.in_ok-window.ensures.reading c.args.mode
    c.open_window.result (c.open_window.ensures.opening format c.in_ok-window.ensures.reading.front)

pub returns-clause-history : goal.returns-clause-history
returns-clause-history g c =
    let given = read_delta (g.S.Source.history c.args.reader.now) (g.S.Source.history c.read_image.new.reader) in
    let format = format_in c.args.versions given.bytes in
    subst (ReadsSource (g.S.Source.history c.args.reader.now) (g.S.Source.history c.read_image.new.reader))
    (sym (opened-reads format c.in_ok-window.window c.args.mode c.open_window.result
    (c.open_window.ensures.opening format c.in_ok-window.ensures.reading.front))) c.in_ok-window.ensures.history

pub returns-clause-exclusive : goal.returns-clause-exclusive
returns-clause-exclusive g c =
    let given = read_delta (g.S.Source.history c.args.reader.now) (g.S.Source.history c.read_image.new.reader) in
    let format = format_in c.args.versions given.bytes in
    opened-roomy format c.in_ok-window.window c.args.mode c.open_window.result (g.S.Source.history c.args.reader.now)
    (g.S.Source.history c.read_image.new.reader)
    (c.open_window.ensures.opening format c.in_ok-window.ensures.reading.front)

pub returns-clause-visits : goal.returns-clause-visits
returns-clause-visits g c =
    subst (λ (b : List ℕ). CountsOpening b c.open_window.result c.args.steps.now c.open_window.new.steps)
    c.in_ok-window.ensures.reading.bytes c.open_window.ensures.visits
