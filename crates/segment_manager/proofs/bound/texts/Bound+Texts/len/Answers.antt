-- The vector of strings counts its texts.
use Rattle.segment_manager.proofs.bound.texts.Bound+Texts.len.Goals as goal
use Rattle.segment_manager.proofs.bound.ByKey.{container-here, texts-here}
use Rattle.segment_manager.{proofs.containers.TextListCalls.texts-counted, specs.objects.BoundObjects.key_of}

pub len-requires : goal.len-requires
len-requires c = texts-here c.segment.view_is c.segment.invariant c.own_container-place.ensures c.args.self.now.live

pub returns : goal.returns
returns c = texts-counted c.segment.view_is (key_of c.args.self.now.object) _ c.segment.invariant
    (container-here c.args.self.now.live c.own_container-place.ensures) _ c.len.ensures
