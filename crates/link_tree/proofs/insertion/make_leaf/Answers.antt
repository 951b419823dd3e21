use Rattle.link_tree.proofs.inserting.Insertion.{lay_step}
use Rattle.link_tree.proofs.insertion.make_leaf.Goals as goal

pub returns-clause-layout : goal.returns-clause-layout
returns-clause-layout g c =
    lay_step (g.N.Nodes.cells c.args.nodes.now) (g.N.Nodes.cells c.set_child.new.nodes)
    (g.N.Nodes.cells c.set_child-2.new.nodes) (g.N.Nodes.cells c.set_red.new.nodes)
    c.args.node c.args.red (cc) (cc) (cc)
