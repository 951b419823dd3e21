use Rattle.image_check.proofs.Common.{arith, is_target-PayloadBounds}
use Rattle.image_check.proofs.image_window.targets.PayloadTree.len_at.Goals as goal

pub overflow_sub-node : goal.overflow_sub-node
overflow_sub-node c = let low = (is_target-PayloadBounds c.args.self.now.window.now c.args.node c.requires).low
    in omega arith

pub read_u64-requires : goal.read_u64-requires
read_u64-requires c =
    let p = is_target-PayloadBounds c.args.self.now.window.now c.args.node c.requires in
    let low = p.low in
    let high = p.high in
    omega arith
