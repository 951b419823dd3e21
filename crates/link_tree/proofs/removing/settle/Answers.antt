use Rattle.std.proofs.Common.{◌≡◌}
use Rattle.link_tree.specs.Sides.{opposite}
use Rattle.link_tree.proofs.removing.RemovalSteps.{settle_done, settle_mended}
use Rattle.link_tree.proofs.trees.NodeLaws.{strict}
use Rattle.link_tree.proofs.removing.settle.Goals as goal

pub returns-then-below-clause-settled : goal.returns-then-below-clause-settled
returns-then-below-clause-settled g c = λ near far wn wf o.
    let s = c.args.nodes.now in
    let eo : g.N.Nodes.order c.set_child.new.nodes ≡ g.N.Nodes.order s = c.set_child.ensures.keeper.order in
    let es : c.other.result ≡ opposite c.args.side = c.other.ensures in
    let mend = rw (eo, es) at c.mend.ensures.repair in
    rw c.if-below.true (settle_mended (strict g.met.N.Nodes s) c.args.side (g.N.Nodes.cells s)
    (g.N.Nodes.cells c.set_child.new.nodes) (g.N.Nodes.cells c.mend.new.nodes)
    c.args.parent near far c.args.below.root c.mend.result.root c.mend.result.fell wn wf o c.set_child.ensures.cells
    mend)

pub returns-clause-settled : goal.returns-clause-settled
returns-clause-settled g c = λ near far wn wf o.
    let s = c.args.nodes.now in
    rw c.if-below.false (settle_done (strict g.met.N.Nodes s) c.args.side (g.N.Nodes.cells s)
    (g.N.Nodes.cells c.set_child.new.nodes) c.args.parent near far c.args.below.root wn wf o
    c.set_child.ensures.cells)
