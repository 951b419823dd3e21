use Rattle.layer_tests.proofs.calls.HeapCalls.{recoloured-is_node}
use Rattle.layer_tests.proofs.best_fit_tests.changes_colour.Goals as goal

pub set_node_red-requires-2 : goal.set_node_red-requires-2
set_node_red-requires-2 g c = recoloured-is_node _ _ _ _ _ _ c.set_node_red.ensures c.requires
