use Rattle.image_check.proofs.Common.{arith, is_pair-IsPairNode, is_target-PayloadBounds}
use Rattle.image_check.proofs.containers.MapPairs.{pair-lies, right-kept}
use Rattle.image_check.proofs.image_window.pairs.CheckedPairTreeNodes.right.Goals as goal

pub child-requires-clause-size : goal.child-requires-clause-size
child-requires-clause-size c =
    let s = c.args.self.now in
    (is_target-PayloadBounds s.window.now c.args.node
    (is_pair-IsPairNode s.window.now s.blocks.now.entries s.root s.key s.value c.args.node c.requires).place).size

pub child-requires-clause-aligned : goal.child-requires-clause-aligned
child-requires-clause-aligned c =
    let s = c.args.self.now in
    let whole = (pair-lies s.window.now s.blocks.now.entries s.root s.key s.value c.args.node c.requires).whole in
    omega arith

pub child-requires-clause-in_bounds : goal.child-requires-clause-in_bounds
child-requires-clause-in_bounds c =
    let s = c.args.self.now in
    let high = (pair-lies s.window.now s.blocks.now.entries s.root s.key s.value c.args.node c.requires).high in
    omega arith

pub returns : goal.returns
returns c =
    let s = c.args.self.now in
    right-kept s.window.now s.blocks.now.entries s.root s.key s.value c.args.node c.child.result c.child.ensures

pub overflow_add-node : goal.overflow_add-node
overflow_add-node c =
    let s = c.args.self.now in
    let lies = pair-lies s.window.now s.blocks.now.entries s.root s.key s.value c.args.node c.requires in
    let high = lies.high in
    let small = lies.small in
    omega arith
