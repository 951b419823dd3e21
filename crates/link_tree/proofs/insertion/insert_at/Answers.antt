use Rattle.std.proofs.Common.{◌≡◌, rules}
use Rattle.link_tree.proofs.insertion.insert_at.Goals as goal

pub returns-clause-tree : goal.returns-clause-tree
returns-clause-tree g c =
    let e : c.insert_from-root.new.nodes.now ≡ c.nodes-1.given.0 = search rules in
    rw (c.count_steps-counted.ensures.nodes, e) at c.insert_from-root.ensures.tree
