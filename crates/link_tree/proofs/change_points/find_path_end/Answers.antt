use Rattle.std.proofs.Common.{None, ◌∙◌, ap, refl}
use Rattle.link_tree.specs.declared.change_points.Reached.{Reached}
use Rattle.link_tree.proofs.searching.Neighbours.{first_from}
use Rattle.link_tree.proofs.searching.PathEnd.{ends_at, last_noted}
use Rattle.link_tree.proofs.trees.NodeLaws.{node_of}
use Rattle.link_tree.specs.Ways.{reached}
use Rattle.link_tree.proofs.change_points.find_path_end.Goals as goal

pub returns-clause-first : goal.returns-clause-first
returns-clause-first g c = λ t k.
    let start : Reached = record { node = None; last = None } in
    ap (λ (folded : Reached). folded.node) (c.descend-way.ensures.mark t k)
    ∙ first_from (g.met.N.Nodes.agrees c.args.nodes.now c.args.probe.now) reached (λ (folded : Reached). folded.node)
    (λ folded n red b. refl) start t k.ordered refl

pub returns-clause-path_end : goal.returns-clause-path_end
returns-clause-path_end g c = λ t k.
    let start : Reached = record { node = None; last = None } in
    ap (λ (folded : Reached). folded.last) (c.descend-way.ensures.mark t k)
    ∙ last_noted (g.N.Nodes.before c.args.nodes.now c.args.probe.now) start t

pub returns-clause-last : goal.returns-clause-last
returns-clause-last g c = λ t k.
    let s = c.args.nodes.now in
    ends_at (g.N.Nodes.is_node s) (g.N.Nodes.cells s) (g.N.Nodes.before s c.args.probe.now) t k.tree.holds
    (node_of g.met.N.Nodes s k.tree c.requires.root) _ (c.descend-way.ensures.mark t k)
