use Rattle.image_check.proofs.Common.{arith, is_target-PayloadBounds, length, small_size}
use Rattle.image_check.proofs.free_tree.Places.{right-is}
use Rattle.image_check.proofs.image_window.targets.PayloadTreeNodes.right.Goals as goal

pub overflow_add-node : goal.overflow_add-node
overflow_add-node c =
    let p = is_target-PayloadBounds c.args.self.now.window.now c.args.node c.requires in
    let high = p.high in
    let small = small_size (length c.args.self.now.window.now.bytes) p.size in
    omega arith

pub target_at-requires-clause-aligned : goal.target_at-requires-clause-aligned
target_at-requires-clause-aligned c = let whole =
    (is_target-PayloadBounds c.args.self.now.window.now c.args.node c.requires).whole in omega arith

pub target_at-requires-clause-in_bounds : goal.target_at-requires-clause-in_bounds
target_at-requires-clause-in_bounds c = let high =
    (is_target-PayloadBounds c.args.self.now.window.now c.args.node c.requires).high in omega arith

pub returns : goal.returns
returns c = right-is c.args.self.now.window.now c.args.node c.target_at.result c.target_at.ensures
