use Rattle.std.proofs.Common.{Some, length, sym, ap, ◌∙◌, arith}
use Rattle.std.proofs.lemmas.Bool.{false≢true}
use Rattle.link_tree.specs.Tree.{nodes_of}
use Rattle.link_tree.proofs.trees.Linked.{one_tree, some_same, none_some}
use Rattle.link_tree.proofs.trees.NodeCount.{count_all}
use Rattle.link_tree.proofs.checking.Soundness.{only, length-only, leads_only, only_closed, sound_whole, whole_sound}
use Rattle.link_tree.proofs.trees.NodeLaws.{low_tree, strict}
use Rattle.link_tree.proofs.checking.check.Goals as goal

pub check_below-requires-clause-no_overflow : goal.check_below-requires-clause-no_overflow
check_below-requires-clause-no_overflow g c =
    rw c.count_steps-nodes.ensures.nodes (let s = c.args.nodes.now in
    let f = g.met.N.Nodes.finite s in
    let good = g.N.Nodes.is_node s in
    let ns = only good f.0 in
    let few = f.1 in
    let fewer = length-only good f.0 in
    let counts = count_all (g.N.Nodes.order s) ns in
    let zero = c.count_steps-nodes.ensures.steps in
    let closed = only_closed (g.N.Nodes.cells s) good f.0 (g.met.N.Nodes.left_closed s) (g.met.N.Nodes.right_closed s)
    f.2 in
    (ns, closed, leads_only good f.0 f.2 c.args.root c.requires, omega arith))

pub returns-in_default-clause-count : goal.returns-in_default-clause-count
returns-in_default-clause-count g c = λ m. (
  λ e. absurd (none_some m e),
  λ w.
      let s = c.args.nodes.now in
      let low = low_tree g.met.N.Nodes s w.1 c.requires in
      let complete = rw c.count_steps-nodes.ensures.nodes at c.check_below.ensures.complete in
      let some = complete w.0 w.1.red_black.black.0
      (sound_whole (strict g.met.N.Nodes s) (g.N.Nodes.cells s) c.args.root w.0 w.1) (omega arith) in
      absurd (false≢true (rw c.in_default.is at some)),
)

pub returns-in_default-clause-steps : goal.returns-in_default-clause-steps
returns-in_default-clause-steps g c = λ ns closed k.
    let s = c.args.nodes.now in
    let steps = rw c.count_steps-nodes.ensures.nodes at c.check_below.ensures.steps in
    let spent = rw c.in_default.is at (steps ns closed k) in
    let counts = count_all (g.N.Nodes.order s) ns in
    let zero = c.count_steps-nodes.ensures.steps in
    omega arith

pub returns-clause-count : goal.returns-clause-count
returns-clause-count g c = λ m.
    let s = c.args.nodes.now in
    let sound = rw c.count_steps-nodes.ensures.nodes at c.in-Some.ensures.sound in
    let whole = whole_sound (strict g.met.N.Nodes s) (g.N.Nodes.cells s) c.args.root sound.0 c.in-Some.part.blacks
    sound.1 in (
      λ e. (sound.0, whole, sound.2 ∙ some_same c.in-Some.part.nodes m e),
      λ w.
          let same = one_tree (g.N.Nodes.cells s) c.args.root sound.0 w.0 whole.tree w.1.tree in
          ap Some (sym sound.2 ∙ ap (λ t. length (nodes_of t)) same ∙ w.2),
    )

pub returns-clause-steps : goal.returns-clause-steps
returns-clause-steps g c = λ ns closed k.
    let s = c.args.nodes.now in
    let steps = rw c.count_steps-nodes.ensures.nodes at c.check_below.ensures.steps in
    let spent = rw c.in-Some.is at (steps ns closed k) in
    let counts = count_all (g.N.Nodes.order s) ns in
    let zero = c.count_steps-nodes.ensures.steps in
    omega arith
