use Rattle.std.proofs.Common.{◌<◌, length, rules}
use Rattle.std.proofs.lemmas.Bool.{ltb-true}
use Rattle.layer_tests.proofs.calls.NodeTable.{table_set_red}
use Rattle.layer_tests.proofs.node_tables.NodeTableNodesMut.set_red.Goals as goal

pub returns-clause-cells : goal.returns-clause-cells
returns-clause-cells c =
    let s = c.args.self.now in
    let below = ltb-true c.args.node 64 c.requires in
    let fits : c.args.node < length s.red = search rules in
    table_set_red s.left s.right s.red c.args.node c.colour.result c.args.red fits c.colour.ensures
