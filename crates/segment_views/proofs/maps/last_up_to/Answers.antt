-- What the search up to the bound finds.
use Rattle.std.specs.declared.ops.Bound.TheVariants.{Included, Excluded, Unbounded}
use Rattle.segment_manager.specs.containers.Maps.{pair_at_end, pair_below, pair_up_to}
use Rattle.segment_manager.specs.objects.BoundObjects.{key_of}
use Rattle.segment_views.specs.Ranged.{last_between}
use Rattle.segment_views.proofs.maps.Bounds.{below-ranged, end-ranged, up_to-ranged}
use Rattle.segment_views.proofs.maps.RangeReads.{reads-told}
use Rattle.segment_views.proofs.maps.last_up_to.Goals as goal

pub returns-in-Included : goal.returns-in-Included
returns-in-Included g c =
    let to = g.K.Scalar.whole c.in-Included.to in
    rw c.in-Included.is (reads-told c.args.map.now.segment.now (key_of c.args.map.now.object) g.K.Scalar.kind
    g.V.Scalar.kind (pair_up_to to) (last_between Unbounded (Included to)) (up_to-ranged to) _ c.last_up_to.ensures)

pub returns-in-Excluded : goal.returns-in-Excluded
returns-in-Excluded g c =
    let before = g.K.Scalar.whole c.in-Excluded.before in
    rw c.in-Excluded.is (reads-told c.args.map.now.segment.now (key_of c.args.map.now.object) g.K.Scalar.kind
    g.V.Scalar.kind (pair_below before) (last_between Unbounded (Excluded before)) (below-ranged before) _
    c.previous_before.ensures)

pub returns-in-Unbounded : goal.returns-in-Unbounded
returns-in-Unbounded g c =
    rw c.in-Unbounded.is (reads-told c.args.map.now.segment.now (key_of c.args.map.now.object) g.K.Scalar.kind
    g.V.Scalar.kind pair_at_end (last_between Unbounded Unbounded) end-ranged _ c.last.ensures)
