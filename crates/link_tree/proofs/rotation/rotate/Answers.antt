use Rattle.std.proofs.Common.{sym, ◌∙◌}
use Rattle.link_tree.proofs.inserting.Rotations.{lift_step}
use Rattle.link_tree.proofs.trees.NodeLaws.{strict}
use Rattle.link_tree.proofs.rotation.rotate.Goals as goal

pub returns-clause-rotation : goal.returns-clause-rotation
returns-clause-rotation g c = λ t w o.
    let s = c.args.nodes.now in
    lift_step (strict g.met.N.Nodes s) c.args.side (g.N.Nodes.cells s) (g.N.Nodes.cells c.set_child-2.new.nodes)
    c.args.top c.in-Some.child c.child-middle.result t w o (sym c.child.ensures.value ∙ c.in-Some.is)
    (rw (← c.other.ensures) (sym c.child-middle.ensures.value))
    (rw (← c.other-2.ensures, ← c.set_child.ensures.cells) c.set_child-2.ensures.cells)
