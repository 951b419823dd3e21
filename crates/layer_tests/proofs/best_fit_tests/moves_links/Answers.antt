use Rattle.std.proofs.Common.{refl, arith}
use Rattle.layer_tests.proofs.calls.HeapCalls.{two_links}
use Rattle.layer_tests.proofs.best_fit_tests.moves_links.Goals as goal

pub shift_links-requires-clause-links : goal.shift_links-requires-clause-links
shift_links-requires-clause-links g c =
    two_links _ _ _ _ 144 (omega arith) refl c.set_link-2.ensures.changes.rest c.set_link.ensures.link_target
    c.set_link-2.ensures.link_target
