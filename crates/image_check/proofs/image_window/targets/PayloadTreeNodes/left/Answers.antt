use Rattle.image_check.proofs.Common.{arith, is_target-PayloadBounds}
use Rattle.image_check.proofs.free_tree.Places.{left-is}
use Rattle.image_check.proofs.image_window.targets.PayloadTreeNodes.left.Goals as goal

pub target_at-requires-clause-aligned : goal.target_at-requires-clause-aligned
target_at-requires-clause-aligned c = let whole =
    (is_target-PayloadBounds c.args.self.now.window.now c.args.node c.requires).whole in omega arith

pub target_at-requires-clause-in_bounds : goal.target_at-requires-clause-in_bounds
target_at-requires-clause-in_bounds c = let high =
    (is_target-PayloadBounds c.args.self.now.window.now c.args.node c.requires).high in omega arith

pub returns : goal.returns
returns c = left-is c.args.self.now.window.now c.args.node c.target_at.result c.target_at.ensures
