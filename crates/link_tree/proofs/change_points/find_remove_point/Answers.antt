use Rattle.link_tree.proofs.searching.ChangePoints.{way_out}
use Rattle.link_tree.proofs.trees.NodeLaws.{strict}
use Rattle.link_tree.proofs.change_points.find_remove_point.Goals as goal

pub returns-clause-first : goal.returns-clause-first
returns-clause-first g c = λ t k.
    let s = c.args.nodes.now in
    (way_out (strict g.met.N.Nodes s) _ (g.met.N.Nodes.agrees s c.args.probe.now) _ t k.ordered
    (c.descend-way.ensures.mark t k)).0

pub returns-clause-exit : goal.returns-clause-exit
returns-clause-exit g c = λ t k.
    let s = c.args.nodes.now in
    (way_out (strict g.met.N.Nodes s) _ (g.met.N.Nodes.agrees s c.args.probe.now) _ t k.ordered
    (c.descend-way.ensures.mark t k)).1

pub returns-clause-absent : goal.returns-clause-absent
returns-clause-absent g c =
    let s = c.args.nodes.now in let t = c.requires.tree.0 in let k = c.requires.tree.1 in
    (way_out (strict g.met.N.Nodes s) _ (g.met.N.Nodes.agrees s c.args.probe.now) _ t k.ordered
    (c.descend-way.ensures.mark t k)).2
