use Rattle.raw_region.proofs.Laws.{SameSurroundings-trans}
use Rattle.segment_dump.proofs.loading.make_objects.Goals as goal
use Rattle.segment_dump.proofs.{Common.length, loading.Success.all-made, loading.Success.named-refused}
use Rattle.segment_dump.proofs.{loading.Success.unique-refused}

pub returns-in-Err-clause-objects : goal.returns-in-Err-clause-objects
returns-in-Err-clause-objects c =
    named-refused c.args.segment.now c.reserve_named.new.self c.args.prefix c.args.lines.now c.args.most
    (length c.args.room.now) c.reserve_named.result c.reserve_named.ensures.step c.reserve_named.new.self
    c.in-Err.why _ c.in-Err.is

pub returns-in-Err-reserve_unique-clause-objects : goal.returns-in-Err-reserve_unique-clause-objects
returns-in-Err-reserve_unique-clause-objects c =
    unique-refused c.args.segment.now c.reserve_named.new.self c.args.prefix c.args.lines.now c.args.most
    (length c.args.room.now) c.reserve_named.result c.reserve_named.ensures.step c.reserve_unique.new.self
    c.reserve_unique.result c.reserve_unique.ensures.step
    c.reserve_unique.new.self c.in-Err-reserve_unique.why _ c.in-Err-reserve_unique.is

pub returns-clause-objects : goal.returns-clause-objects
returns-clause-objects c =
    all-made c.args.segment.now c.reserve_named.new.self c.args.prefix c.args.lines.now c.args.most
    (length c.args.room.now) c.reserve_named.result c.reserve_named.ensures.step c.reserve_unique.new.self
    c.reserve_unique.result c.reserve_unique.ensures.step c.build.new.segment c.build.result c.build.ensures.objects

pub returns-in-Err-reserve_unique-clause-place : goal.returns-in-Err-reserve_unique-clause-place
returns-in-Err-reserve_unique-clause-place c = SameSurroundings-trans _ _ _ c.reserve_named.ensures.step.stays.place
    c.reserve_unique.ensures.step.stays.place

pub returns-clause-place : goal.returns-clause-place
returns-clause-place c = SameSurroundings-trans _ _ _ c.reserve_named.ensures.step.stays.place
    (SameSurroundings-trans _ _ _ c.reserve_unique.ensures.step.stays.place c.build.ensures.place)
