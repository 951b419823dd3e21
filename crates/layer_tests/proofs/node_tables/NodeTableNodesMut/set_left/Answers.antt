use Rattle.std.proofs.Common.{◌<◌, length, rules}
use Rattle.std.proofs.lemmas.Bool.{ltb-true}
use Rattle.layer_tests.proofs.calls.NodeTable.{table_set_left}
use Rattle.layer_tests.proofs.node_tables.NodeTableNodesMut.set_left.Goals as goal

pub returns-clause-cells : goal.returns-clause-cells
returns-clause-cells c =
    let s = c.args.self.now in
    let below = ltb-true c.args.node 64 c.requires.node in
    let fits : c.args.node < length s.left = search rules in
    table_set_left s.left s.right s.red c.args.node c.value.result c.args.to fits c.value.ensures
