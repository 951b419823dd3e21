use Rattle.std.proofs.Common.{◌∙◌, ap, refl}
use Rattle.link_tree.specs.declared.searching.First.{First}
use Rattle.link_tree.proofs.searching.Neighbours.{first_from}
use Rattle.link_tree.proofs.searching.find_first_not_before.Goals as goal

pub returns-clause-first : goal.returns-clause-first
returns-clause-first g c = λ t k.
    ap (λ (folded : First). folded.node) (c.descend-way.ensures.mark t k)
    ∙ first_from (g.met.N.Nodes.agrees c.args.nodes.now c.args.probe.now) _ (λ (folded : First). folded.node)
    (λ folded n red b. refl) _ t k.ordered refl
