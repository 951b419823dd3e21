use Rattle.image_check.proofs.Common.{arith, is_target-PayloadBounds, length, small_size, ◌+◌}
use Rattle.image_check.proofs.free_tree.is_planted.Goals as goal

pub overflow_add-node : goal.overflow_add-node
overflow_add-node c =
    let w = c.args.window.now in
    let p = is_target-PayloadBounds w (c.args.tile.offset + 16) c.requires.place in
    let high = p.high in
    let small = small_size (length w.bytes) p.size in
    omega arith
