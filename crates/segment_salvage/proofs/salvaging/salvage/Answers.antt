-- One more object is salvaged.
use Rattle.std.proofs.Common.{arith}
use Rattle.segment_salvage.proofs.Steps.{then_salvages}
use Rattle.segment_salvage.proofs.salvaging.salvage.Goals as goal

pub objects-init : goal.objects-init
objects-init c = record { effect = c.reserve.ensures; taken = omega arith }

pub objects-preserved : goal.objects-preserved
objects-preserved c =
    let taken = c.objects.invariant.taken in
    let reads = c.salvage_at.ensures.steps_upper in
    record {
      effect = then_salvages _ _ _ _ c.objects.invariant.effect c.salvage_at.ensures.effect;
      taken = omega (arith, taken, reads);
    }
