use Rattle.raw_region.proofs.Laws.{SameSurroundings-trans}
use Rattle.segment_dump.proofs.Common.{length}
use Rattle.segment_dump.proofs.building.Objects.{object-built, object-unstarted}
use Rattle.segment_dump.proofs.building.build_object.Goals as goal

pub returns-in_err-handle-clause-object : goal.returns-in_err-handle-clause-object
returns-in_err-handle-clause-object c = object-unstarted c.args.segment.now c.start_next.new.segment c.args.tokens.now
    c.start_next.new.segment c.args.lines.now c.args.lines.now (length c.args.room.now) _ c.from_residual.result
    c.in_err-handle.ensures.start

pub object_here-object-requires : goal.object_here-object-requires
object_here-object-requires c = c.in_ok-handle.ensures.in_place.object

pub fill-requires : goal.fill-requires
fill-requires c = record {
  segment = c.in_ok-handle.ensures.in_place.segment;
  object = c.object_here-object.ensures.location.here;
  writing = c.in_ok-handle.ensures.in_place.writing;
}

pub returns-clause-object : goal.returns-clause-object
returns-clause-object c =
    let old = c.args.segment.now in
    let begun = c.start_next.new.segment in
    let new = c.fill.new.segment in
    let shape = c.in_ok-handle.shape in
    let room = length c.args.room.now in
    object-built old begun c.args.tokens.now new c.args.lines.now c.fill.new.lines room c.in_ok-handle.handle shape
    c.fill.result c.in_ok-handle.ensures.start c.object_here-object.result c.object_here-object.ensures.handle
    c.object_here-object.ensures.location.here c.fill.ensures.filling

pub returns-in_err-handle-clause-place : goal.returns-in_err-handle-clause-place
returns-in_err-handle-clause-place c = c.in_err-handle.ensures.place

pub returns-clause-place : goal.returns-clause-place
returns-clause-place c = SameSurroundings-trans _ _ _ c.in_ok-handle.ensures.place c.fill.ensures.place
