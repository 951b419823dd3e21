use Rattle.image_check.proofs.Common.{arith, is_target-PayloadBounds, length, small_size}
use Rattle.image_check.proofs.image_window.targets.has_good_links.Goals as goal

pub load_checked-requires-clause-aligned : goal.load_checked-requires-clause-aligned
load_checked-requires-clause-aligned c = let whole =
    (is_target-PayloadBounds c.args.window.now c.args.node c.requires).whole in omega arith

pub load_checked-requires-clause-in_bounds : goal.load_checked-requires-clause-in_bounds
load_checked-requires-clause-in_bounds c = let high =
    (is_target-PayloadBounds c.args.window.now c.args.node c.requires).high in omega arith

pub overflow_add-node : goal.overflow_add-node
overflow_add-node c =
    let p = is_target-PayloadBounds c.args.window.now c.args.node c.requires in
    let high = p.high in
    let small = small_size (length c.args.window.now.bytes) p.size in
    omega arith

pub load_checked-requires-then-is_ok-clause-aligned : goal.load_checked-requires-then-is_ok-clause-aligned
load_checked-requires-then-is_ok-clause-aligned c = let whole =
    (is_target-PayloadBounds c.args.window.now c.args.node c.requires).whole in omega arith

pub load_checked-requires-then-is_ok-clause-in_bounds : goal.load_checked-requires-then-is_ok-clause-in_bounds
load_checked-requires-then-is_ok-clause-in_bounds c = let high =
    (is_target-PayloadBounds c.args.window.now c.args.node c.requires).high in omega arith
