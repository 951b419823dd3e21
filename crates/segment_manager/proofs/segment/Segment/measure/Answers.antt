-- What is read of the object that is found holds of the key.
use Rattle.segment_manager.proofs.Common.{Err, None, NotFound, Refusal, Result, Some, sizes_of, ℕ}
use Rattle.segment_manager.proofs.objects.Locating.{told-by_key}
use Rattle.segment_manager.proofs.segment.Segment.measure.Goals as goal

pub returns : goal.returns
returns g c = told-by_key _ _ _ c.in_ok-object.ensures (λ d q. elim q as (λ _. Result (ℕ × ℕ) Refusal)
    [ None ↦ Err NotFound | Some o ↦ sizes_of o.value ]) _ c.measure_object.ensures
