use Rattle.std.proofs.Common.{refl, ap, length, ℕ, List, arith}
use Rattle.raw_region.proofs.Laws.{length-zeros}
use Rattle.layer_tests.proofs.calls.Windows.{legal_fresh, laid_fresh}
use Rattle.layer_tests.proofs.block_tags_tests.laid.Goals as goal

pub new-window-requires-clause-in_bounds : goal.new-window-requires-clause-in_bounds
new-window-requires-clause-in_bounds g c = let l = ap (λ (b : List ℕ). length b) c.in-Ok.ensures.zeros
    in omega (arith, length-zeros 1024, l)

pub lay-requires : goal.lay-requires
lay-requires g c = legal_fresh 1024 _ _ c.in-Ok.ensures.zeros c.new-window.ensures.cut refl

pub returns : goal.returns
returns g c = laid_fresh 1024 _ _ _ c.in-Ok.ensures.zeros c.new-window.ensures.cut c.lay.ensures.tags
