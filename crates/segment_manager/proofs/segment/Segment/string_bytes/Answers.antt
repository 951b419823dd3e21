-- The string that is found has these bytes.
use Rattle.segment_manager.proofs.segment.Segment.string_bytes.Goals as goal
use Rattle.segment_manager.proofs.Common.{Err, List, None, NotFound, Refusal, Result, Some, ℕ}
use Rattle.segment_manager.{proofs.bound.ByKey.says, specs.containers.Contents.text_bytes}

pub returns : goal.returns
returns g c = says c.in_ok-of.ensures.segment c.in_ok-of.ensures.location
    (λ d r. elim r as (λ _. Result (List ℕ) Refusal) [ None ↦ Err NotFound | Some o ↦ text_bytes o.value ])
    c.as_bytes.ensures
