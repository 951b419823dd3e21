use Rattle.layer_tests.proofs.link_tree_tests.meets_all.Goals as goal

pub walk-steps-requires-clause-tree : goal.walk-steps-requires-clause-tree
walk-steps-requires-clause-tree g c =
    let w = (c.check.ensures.count _).0 c.in-Some.is in
    (w.0, w.1)
