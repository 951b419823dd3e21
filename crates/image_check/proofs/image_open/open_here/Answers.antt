use Rattle.image_check.proofs.Common.{List, arith, as_given, err_from_is_err_and, part, subst, ℕ}
use Rattle.raw_region.specs.Format.{current}
use Rattle.image_check.specs.Opening.{CountsOpening}
use Rattle.image_check.proofs.opening.InMemory.{not-placed, window-kept}
use Rattle.image_check.proofs.opening.Refusals.{opens, shown}
use Rattle.image_check.proofs.image_open.open_here.Goals as goal

pub returns-in_err-window-clause-opening : goal.returns-in_err-window-clause-opening
unfolding current
returns-in_err-window-clause-opening c =
    let p = err_from_is_err_and c.from_residual.result c.from_residual.ensures.1 in
    rw (p.1, p.2)
    (not-placed current (part c.args.region c.args.base c.args.len) c.args.region c.args.base c.args.mode
    c.in_err-window.field-0.0 c.in_err-window.ensures.search)

pub open_window-requires : goal.open_window-requires
unfolding current
open_window-requires c = (current, c.in_ok-window.ensures.search.front, omega arith)

pub returns-clause-opening : goal.returns-clause-opening
unfolding current
returns-clause-opening c =
    opens current (as_given (part c.args.region c.args.base c.args.len)) c.args.region c.args.base
    c.in_ok-window.window c.in_ok-window.ensures.search c.args.mode c.open_window.result
    (c.open_window.ensures.opening current c.in_ok-window.ensures.search.front)

pub returns-clause-place : goal.returns-clause-place
unfolding current
returns-clause-place c =
    shown current (as_given (part c.args.region c.args.base c.args.len)) c.args.region c.args.base
    c.in_ok-window.window c.in_ok-window.ensures.search c.args.mode c.open_window.result
    (c.open_window.ensures.opening current c.in_ok-window.ensures.search.front)

pub returns-clause-not_written : goal.returns-clause-not_written
unfolding current
returns-clause-not_written c =
    window-kept c.in_ok-window.window c.args.mode c.open_window.result c.args.region c.in_ok-window.ensures.not_written
    (c.open_window.ensures.opening current c.in_ok-window.ensures.search.front)

pub returns-clause-visits : goal.returns-clause-visits
returns-clause-visits c =
    subst (λ (b : List ℕ). CountsOpening b c.open_window.result c.args.steps.now c.open_window.new.steps)
    c.in_ok-window.ensures.search.bytes c.open_window.ensures.visits
