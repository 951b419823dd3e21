use Rattle.image_check.proofs.Common.{bytes_of, length, link_at, sym, ◌∙◌}
use Rattle.image_check.proofs.free_tree.Places.{bad-good_target, good-good_target}
use Rattle.image_check.proofs.image_window.targets.target_at.Goals as goal

pub returns-in-Ok : goal.returns-in-Ok
returns-in-Ok c =
    let w = c.args.window.now in
    c.in-Ok.ensures.on_ok ∙ sym (good-good_target (length w.bytes) (link_at (bytes_of w.bytes) c.args.at)
    (sym c.in-Ok.ensures.on_error))

pub returns-in-Err : goal.returns-in-Err
returns-in-Err c =
    let w = c.args.window.now in
    sym (bad-good_target (length w.bytes) (link_at (bytes_of w.bytes) c.args.at) (sym c.in-Err.ensures.on_error))
