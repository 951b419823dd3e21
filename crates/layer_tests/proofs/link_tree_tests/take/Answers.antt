use Rattle.layer_tests.proofs.link_tree_tests.take.Goals as goal

pub remove-requires-clause-tree : goal.remove-requires-clause-tree
remove-requires-clause-tree g c =
    let w = c.has.ensures in
    (w.0, w.1, w.2 c.if-not-has.false)
