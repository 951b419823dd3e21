use Rattle.std.proofs.Common.{◌≡◌, Some}
use Rattle.link_tree.proofs.inserting.Rotations.{flip_turns}
use Rattle.link_tree.proofs.trees.NodeLaws.{strict}
use Rattle.link_tree.proofs.rotation.flip_colours.Goals as goal

pub returns-clause-colour : goal.returns-clause-colour
returns-clause-colour g c = λ side t w o e1 e2.
    let s = c.args.nodes.now in
    let eo : g.N.Nodes.order c.paint.new.nodes ≡ g.N.Nodes.order s = c.paint.ensures.keeper.order in
    let near_black = rw eo at c.paint-2.ensures.colour in
    flip_turns (strict g.met.N.Nodes s) side (g.N.Nodes.cells s) (g.N.Nodes.cells c.paint.new.nodes)
    (g.N.Nodes.cells c.paint-2.new.nodes) (g.N.Nodes.cells c.set_red.new.nodes) c.args.top
    (Some c.args.near) c.args.far t w o e1 e2 c.paint.ensures.colour near_black c.set_red.ensures.cells
