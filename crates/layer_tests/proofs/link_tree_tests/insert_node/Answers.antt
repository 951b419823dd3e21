use Rattle.std.proofs.lemmas.Bool.{lt-ltb}
use Rattle.layer_tests.proofs.link_tree_tests.insert_node.Goals as goal

pub insert-requires-clause-node : goal.insert-requires-clause-node
insert-requires-clause-node g c = rw (g.met.N.Numbered.numbers c.args.nodes.now) (lt-ltb c.args.node 64 c.requires.node)

pub insert-requires-clause-tree : goal.insert-requires-clause-tree
insert-requires-clause-tree g c =
    let w = c.has.ensures in
    (w.0, w.1, w.3 c.if-has.false)
