-- There are no more pairs than the map has.
use Rattle.std.proofs.Common.{refl}
use Rattle.std.specs.Range.Bound.{bound_map}
use Rattle.segment_manager.specs.objects.BoundObjects.{key_of}
use Rattle.segment_views.proofs.maps.RangeReads.{all-few}
use Rattle.segment_views.proofs.maps.MapMapRanges.range.Goals as goal

pub invariant_of-result-2 : goal.invariant_of-result-2
invariant_of-result-2 g c = record {
  few = all-few c.args.self.now.segment.now (key_of c.args.self.now.object) g.K.Scalar.kind g.V.Scalar.kind
      (bound_map g.K.Scalar.whole c.map.result) (bound_map g.K.Scalar.whole c.map-2.result) c.len.result
      c.len.ensures;
  nodes = record { answers = λ d l. refl };
}
