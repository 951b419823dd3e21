use Rattle.seg_types.specs.Names.{ByHandle}
use Rattle.segment_scripts.proofs.listing.Output.{writes_owed}
use Rattle.segment_values.proofs.Located.{of-handle}
use Rattle.segment_scripts.proofs.listing.Objects.{object-here, told-map, told-numbers, told-said}
use Rattle.segment_scripts.proofs.telling.put_object.Goals as goal

pub instance_here-said-requires : goal.instance_here-said-requires
instance_here-said-requires g c = object-here c.args.segment.now _ c.args.object (of-handle c.requires.object)

pub returns-in-Map : goal.returns-in-Map
returns-in-Map g c =
    writes_owed c.put_instance.ensures
    (told-map c.args.segment.now (ByHandle c.args.object.handle) c.instance_here-said.result
    c.instance_here-said.ensures c.in-Map.field-0 c.in-Map.field-1 c.in-Ok.len c.in-Ok.capacity c.in-Map.is
    c.in-Ok.ensures)

pub returns-in_default : goal.returns-in_default
returns-in_default g c =
    writes_owed c.put_instance-in_default.ensures
    (told-said c.args.segment.now (ByHandle c.args.object.handle) c.instance_here-said.result
    c.instance_here-said.ensures c.in-Ok.len c.in-Ok.capacity c.in_default.not-Map c.in-Ok.ensures)

pub returns-in-Err : goal.returns-in-Err
returns-in-Err g c =
    writes_owed c.put_instance-in-Err.ensures
    (told-numbers c.args.segment.now (ByHandle c.args.object.handle) c.instance_here-said.result
    c.instance_here-said.ensures c.in-Err.field-0 c.in-Err.ensures)
