use Rattle.std.proofs.Common.{◌∙◌, ap, refl}
use Rattle.link_tree.specs.declared.searching.Last.{Last}
use Rattle.link_tree.proofs.searching.Neighbours.{last_noted, or_none}
use Rattle.link_tree.proofs.searching.find_last_before.Goals as goal

pub returns-clause-last : goal.returns-clause-last
returns-clause-last g c = λ t k.
    ap (λ (folded : Last). folded.node) (c.descend-way.ensures.mark t k)
    ∙ last_noted (g.met.N.Nodes.agrees c.args.nodes.now c.args.probe.now) _ (λ (folded : Last). folded.node)
    (λ folded n red b. refl) _ t k.ordered ∙ or_none _
