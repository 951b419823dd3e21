use Rattle.image_check.proofs.Common.{ap, arith, is_target-PayloadBounds, nat_eq, ◌%◌, ◌/◌}
use Rattle.image_check.specs.FreeNodes.{target_cells}
use Rattle.image_check.proofs.image_window.targets.PayloadTreeNodes.red.Goals as goal

pub overflow_sub-node : goal.overflow_sub-node
overflow_sub-node c = let low = (is_target-PayloadBounds c.args.self.now.window.now c.args.node c.requires).low
    in omega arith

pub read_u64-requires : goal.read_u64-requires
read_u64-requires c =
    let p = is_target-PayloadBounds c.args.self.now.window.now c.args.node c.requires in
    let low = p.low in
    let high = p.high in
    omega arith

pub returns : goal.returns
unfolding target_cells
returns c = ap (λ w. nat_eq (w / 2 % 2) 1) c.read_u64.ensures
