use Rattle.std.proofs.Common.{◌∙◌}
use Rattle.link_tree.proofs.searching.ChangePoints.{way_in}
use Rattle.link_tree.proofs.change_points.find_insert_point.Goals as goal

pub returns-clause-entry : goal.returns-clause-entry
returns-clause-entry g c = λ t k.
    c.or.ensures ∙ way_in (g.N.Nodes.before c.args.nodes.now c.args.probe.now) _ t (c.descend-way.ensures.mark t k)
