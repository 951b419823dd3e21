use Rattle.link_tree.proofs.inserting.Rotations.{paint_turns}
use Rattle.link_tree.proofs.trees.NodeLaws.{strict}
use Rattle.link_tree.proofs.rotation.paint.Goals as goal

pub returns-in-Some-clause-colour : goal.returns-in-Some-clause-colour
returns-in-Some-clause-colour g c = λ t w o.
    let s = c.args.nodes.now in
    rw c.in-Some.is
    (paint_turns (strict g.met.N.Nodes s) (g.N.Nodes.cells s) (g.N.Nodes.cells c.set_red.new.nodes)
    c.in-Some.node c.args.red t (rw c.in-Some.is at w) o c.set_red.ensures.cells)
