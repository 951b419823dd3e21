use Rattle.layer_tests.proofs.calls.HeapCalls.{allocated-is_node}
use Rattle.layer_tests.proofs.best_fit_tests.takes_node.Goals as goal

pub returns : goal.returns
returns g c = allocated-is_node _ _ _ 32 _ c.in-Ok.ensures.answer
