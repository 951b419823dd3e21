-- The links, the key and the value are written one after another.
use Rattle.seg_map.proofs.{current, Node, AllocatesOk, node_len, laws, made, putting.allocate_node.Goals.In_ok-node}
use Rattle.seg_map.proofs.putting.allocate_node.Given.{Over}
use Rattle.seg_map.proofs.putting.allocate_node.Goals as goal

-- the block is as long as a node
new : (g : Over) (c : In_ok-node g) → AllocatesOk current c.args.heap.now c.allocate.new.self
    (node_len g.K.Plain.SIZE g.V.Plain.SIZE) Node c.in_ok-node.node
new g c = rw (c.SIZE.ensures, c.SIZE-2.ensures) at c.in_ok-node.ensures.answer

pub returns-clause-creation : goal.returns-clause-creation
returns-clause-creation g c =
    let left = c.set_link.ensures in let right = c.set_link-2.ensures in let key = c.write_value.ensures in
    let value = c.write_value-2.ensures in
    made (laws g.met.K.Plain) g.V.Plain (new g (goal.at.returns-clause-creation g c).In_ok-node) left.changes
    left.link_target right.changes right.link_target key.value key.changes key.content c.args.value value.value
    (rw c.SIZE-3.ensures at value.changes) (rw c.SIZE-3.ensures at value.content)
