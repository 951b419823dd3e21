use Rattle.raw_region.proofs.Laws.{SameSurroundings-trans}
use Rattle.segment_dump.proofs.filling.fill_reserved.Goals as goal
use Rattle.segment_dump.proofs.{Common.length, Common.refl, building.Presence.still-here}
use Rattle.segment_dump.proofs.filling.EmptyObjects.{fills-refused, fills-reserved}

pub returns-in-Ok-clause-filling : goal.returns-in-Ok-clause-filling
returns-in-Ok-clause-filling c = λ v.
    fills-reserved c.args.segment.now c.reserve_object.new.segment c.args.object.handle c.args.object.kind
    c.args.shape.count c.args.lines.now (length c.args.room.now) c.reserve_object.result v c.reserve_object.ensures.step
    c.fill_elements.new.segment c.fill_elements.new.lines c.fill_elements.result c.fill_elements.ensures.filling

pub returns-in-Err-clause-filling : goal.returns-in-Err-clause-filling
returns-in-Err-clause-filling c = λ v.
    fills-refused c.args.segment.now c.reserve_object.new.segment c.args.object.handle c.args.object.kind
    c.args.shape.count c.args.lines.now (length c.args.room.now) c.reserve_object.result v c.reserve_object.ensures.step
    c.reserve_object.new.segment c.args.lines.now c.in-Err.why _ c.in-Err.is

pub reserve_object-requires : goal.reserve_object-requires
reserve_object-requires c = c.requires.object

pub fill_elements-requires : goal.fill_elements-requires
fill_elements-requires c = still-here c.requires _ _ c.reserve_object.ensures.step refl

pub returns-in-Ok-clause-place : goal.returns-in-Ok-clause-place
returns-in-Ok-clause-place c =
    SameSurroundings-trans _ _ _ c.reserve_object.ensures.step.stays.place c.fill_elements.ensures.place

pub returns-in-Err-clause-place : goal.returns-in-Err-clause-place
returns-in-Err-clause-place c = c.reserve_object.ensures.step.stays.place
