-- The kinds of the key's map, if it has one.
use Rattle.seg_types.specs.Keys.{key_seen}
use Rattle.segment_c.proofs.maps.map_of.Goals as goal
use Rattle.segment_c.proofs.views.Neighbours.{kinds-map, kinds-missing, kinds-no_map}

pub returns-in-Err-clause-kinds : goal.returns-in-Err-clause-kinds
returns-in-Err-clause-kinds c = kinds-missing c.args.segment.now (key_seen c.args.key.now) _ c.in-Err.ensures

pub returns-in-Map-clause-kinds : goal.returns-in-Map-clause-kinds
returns-in-Map-clause-kinds c = kinds-map c.args.segment.now (key_seen c.args.key.now) c.in-Ok.object c.in-Ok.ensures
    c.in-Map.keys c.in-Map.values c.in-Map.is

pub returns-in_default-clause-kinds : goal.returns-in_default-clause-kinds
returns-in_default-clause-kinds c = kinds-no_map c.args.segment.now (key_seen c.args.key.now) c.in-Ok.object
    c.in-Ok.ensures c.in_default.not-Map
