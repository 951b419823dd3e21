use Rattle.image_check.proofs.Common.{ap, arith, nat_eq, ◌%◌, ◌/◌}
use Rattle.image_check.specs.MapNodes.{pair_cells}
use Rattle.image_check.proofs.containers.MapPairs.{pair-lies}
use Rattle.image_check.proofs.image_window.pairs.CheckedPairTreeNodes.red.Goals as goal

pub overflow_sub-node : goal.overflow_sub-node
overflow_sub-node c =
    let s = c.args.self.now in
    let low = (pair-lies s.window.now s.blocks.now.entries s.root s.key s.value c.args.node c.requires).low in
    omega arith

pub read_u64-requires : goal.read_u64-requires
read_u64-requires c =
    let s = c.args.self.now in
    let lies = pair-lies s.window.now s.blocks.now.entries s.root s.key s.value c.args.node c.requires in
    let low = lies.low in
    let high = lies.high in
    omega arith

pub returns : goal.returns
unfolding pair_cells
returns c = ap (λ w. nat_eq (w / 2 % 2) 1) c.read_u64.ensures
