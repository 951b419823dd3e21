use Rattle.image_check.proofs.Common.{List, as_given, err_from_is_err_and, format_in, subst, ℕ}
use Rattle.image_check.specs.Opening.{CountsOpening}
use Rattle.image_check.proofs.opening.InMemory.{format_in-few, not-placed, unwritten}
use Rattle.image_check.proofs.opening.Refusals.{opens, shown}
use Rattle.image_check.proofs.image_open.open_bytes.Goals as goal

pub returns-in_err-window-clause-opening : goal.returns-in_err-window-clause-opening
returns-in_err-window-clause-opening c =
    let p = err_from_is_err_and c.from_residual.result c.from_residual.ensures.1 in
    rw (p.1, p.2)
    (not-placed (format_in c.args.versions c.args.image.now) c.args.image.now c.args.region c.args.base c.args.mode
    c.in_err-window.field-0.0 c.in_err-window.ensures.placement)

pub open_window-requires : goal.open_window-requires
open_window-requires c = (
  format_in c.args.versions c.args.image.now,
  c.in_ok-window.ensures.placement.front,
  format_in-few c.args.versions c.args.image.now,
)

pub returns-clause-opening : goal.returns-clause-opening
returns-clause-opening c =
    let format = format_in c.args.versions c.args.image.now in
    opens format (as_given c.args.image.now) c.args.region c.args.base c.in_ok-window.window
    c.in_ok-window.ensures.placement c.args.mode c.open_window.result
    (c.open_window.ensures.opening format c.in_ok-window.ensures.placement.front)

pub returns-clause-place : goal.returns-clause-place
returns-clause-place c =
    let format = format_in c.args.versions c.args.image.now in
    shown format (as_given c.args.image.now) c.args.region c.args.base c.in_ok-window.window
    c.in_ok-window.ensures.placement c.args.mode c.open_window.result
    (c.open_window.ensures.opening format c.in_ok-window.ensures.placement.front)

pub returns-clause-not_written : goal.returns-clause-not_written
returns-clause-not_written c =
    unwritten (format_in c.args.versions c.args.image.now) c.args.image.now c.args.region c.args.base
    c.in_ok-window.window c.in_ok-window.ensures.placement c.open_window.result

pub returns-clause-visits : goal.returns-clause-visits
returns-clause-visits c =
    subst (λ (b : List ℕ). CountsOpening b c.open_window.result c.args.steps.now c.open_window.new.steps)
    c.in_ok-window.ensures.placement.bytes c.open_window.ensures.visits
