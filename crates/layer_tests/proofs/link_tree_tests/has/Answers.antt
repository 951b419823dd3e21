use Rattle.std.proofs.Common.{◌≡◌, nat_lt, true, Some, sym, ◌∙◌, rules, refl}
use Rattle.std.proofs.lemmas.Bool.{eq-eqb}
use Rattle.link_tree.specs.Tree.{nodes_of, is_sorted}
use Rattle.link_tree.specs.Nodes.{first_not_before}
use Rattle.layer_tests.proofs.calls.NodeTable.{in_if_found, place_unless_found}
use Rattle.layer_tests.proofs.link_tree_tests.has.Goals as goal

pub find_first_not_before-found-requires-clause-tree : goal.find_first_not_before-found-requires-clause-tree
find_first_not_before-found-requires-clause-tree g c =
    let w = (c.check.ensures.count _).0 c.in-Some.is in
    (w.0, w.1)

pub returns : goal.returns
returns g c =
    let s = c.args.nodes.now in
    let w = (c.check.ensures.count _).0 c.in-Some.is in
    let order = g.met.N.Numbered.in_order s in
    let first : c.find_first_not_before-found.result.node
    ≡ first_not_before (λ m. nat_lt m c.args.node) (nodes_of w.0) =
    rw (g.met.N.Numbered.probed s c.args.node) at c.find_first_not_before-found.ensures.first w.0 w.1 in
    let rising : is_sorted nat_lt (nodes_of w.0) ≡ true = rw order at w.1.ordered in (
      w.0,
      w.1,
      λ e. in_if_found c.args.node (nodes_of w.0) (let found : c.find_first_not_before-found.result.node
          ≡ Some c.args.node = search rules in sym first ∙ found),
      λ e. rw order (place_unless_found c.args.node (nodes_of w.0) rising (λ k.
          let found : c.find_first_not_before-found.result.node ≡ Some c.args.node = first ∙ k in
          let test = rw found at c.eq.ensures in let same = eq-eqb c.args.node c.args.node refl in cc)),
    )
