-- The string has these bytes.
use Rattle.segment_manager.proofs.bound.texts.Bound+StringBytes.as_bytes.Goals as goal
use Rattle.segment_manager.proofs.{bound.ByKey.container-here, bound.ByKey.text-here, containers.ToChange.seen-found}
use Rattle.segment_manager.proofs.Common.{AnswersWith, Ok, SegmentState, String, bytes_at, subst}
use Rattle.segment_manager.proofs.containers.TextAnswers.{reads-bytes}
use Rattle.segment_manager.specs.objects.BoundObjects.{key_of}

pub as_bytes-requires : goal.as_bytes-requires
as_bytes-requires c =
    text-here c.segment.view_is c.segment.invariant c.own_container-place.ensures c.args.self.now.live

pub returns : goal.returns
returns c =
    let key = key_of c.args.self.now.object in
    subst (λ (t : SegmentState). AnswersWith t (λ d. bytes_at d key) (Ok c.as_bytes.result.now)) c.segment.view_is
    (reads-bytes _ key _ _ (seen-found _ _ c.segment.view_is key String _
    (container-here c.args.self.now.live c.own_container-place.ensures)) c.as_bytes.ensures)
