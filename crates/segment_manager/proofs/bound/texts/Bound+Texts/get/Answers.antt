-- The text is an element of the vector of strings.
use Rattle.segment_manager.proofs.bound.texts.Bound+Texts.get.Goals as goal
use Rattle.segment_manager.proofs.containers.{ItemSteps.seen-reply, Safely.of-error, TextListCalls.text-got}
use Rattle.segment_manager.proofs.{Common.Get, Common.StringsKind, bound.ByKey.container-here, bound.ByKey.texts-here}
use Rattle.segment_manager.specs.objects.BoundObjects.{key_of}

pub get-requires : goal.get-requires
get-requires c = texts-here c.segment.view_is c.segment.invariant c.own_container-place.ensures c.args.self.now.live

pub returns : goal.returns
returns c =
    let key = key_of c.args.self.now.object in
    let there = texts-here c.segment.view_is c.segment.invariant c.own_container-place.ensures c.args.self.now.live in
    record {
      reply = seen-reply _ _ c.segment.view_is key StringsKind (Get key c.args.index) _ (text-got c.segment.view_is key
          _ c.segment.invariant (container-here c.args.self.now.live c.own_container-place.ensures) c.args.index
          c.get.result c.get.ensures);
      error = of-error _ c.get.result (c.get.ensures there.0 there.1.0 there.1.1) (λ e m. m.refusal);
    }
