use Rattle.std.proofs.Common.{length, arith}
use Rattle.grow_shrink.proofs.resizing.Sizes.{segment-most}
use Rattle.grow_shrink.proofs.larger_region.size_of.Goals as goal

pub returns-clause-most : goal.returns-clause-most
returns-clause-most c = let most = segment-most c.as_bytes.result.now c.as_bytes.ensures.denotation
    in omega (arith, most)
