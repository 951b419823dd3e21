use Rattle.image_check.proofs.Common.{arith, sym, ◌∙◌}
use Rattle.image_check.proofs.containers.MapPairs.{place-lies}
use Rattle.image_check.proofs.image_window.pairs.CheckedPairTree.is_pair.Goals as goal

pub overflow_add-node : goal.overflow_add-node
overflow_add-node c =
    let s = c.args.self.now in
    let lies = place-lies s.window.now s.key s.value c.args.node (sym c.is_target_in.ensures
    ∙ c.if-not-is_target_in.false) in
    let fields = lies.fields in
    let small = lies.small in
    omega arith

pub is_spelled-requires : goal.is_spelled-requires
is_spelled-requires c =
    let s = c.args.self.now in
    let lies = place-lies s.window.now s.key s.value c.args.node (sym c.is_target_in.ensures
    ∙ c.if-not-is_target_in.false) in
    let fields = lies.fields in
    let small = lies.small in
    omega arith

pub overflow_add-node-then-is_spelled : goal.overflow_add-node-then-is_spelled
overflow_add-node-then-is_spelled c =
    let s = c.args.self.now in
    let lies = place-lies s.window.now s.key s.value c.args.node (sym c.is_target_in.ensures
    ∙ c.if-not-is_target_in.false) in
    let fields = lies.fields in
    let small = lies.small in
    omega arith

pub overflow_add-node-then-is_spelled-2 : goal.overflow_add-node-then-is_spelled-2
overflow_add-node-then-is_spelled-2 c =
    let s = c.args.self.now in
    let lies = place-lies s.window.now s.key s.value c.args.node (sym c.is_target_in.ensures
    ∙ c.if-not-is_target_in.false) in
    let fields = lies.fields in
    let small = lies.small in
    let len = c.size.ensures in
    omega arith

pub is_spelled-requires-then-is_spelled : goal.is_spelled-requires-then-is_spelled
is_spelled-requires-then-is_spelled c =
    let s = c.args.self.now in
    let lies = place-lies s.window.now s.key s.value c.args.node (sym c.is_target_in.ensures
    ∙ c.if-not-is_target_in.false) in
    let fields = lies.fields in
    let small = lies.small in
    let len = c.size.ensures in
    omega arith
