-- The map has no pair.
use Rattle.seg_map.proofs.{is_new}
use Rattle.seg_map.proofs.maps.SegMap.new.Goals as goal

pub returns-clause-map : goal.returns-clause-map
returns-clause-map g c = is_new g.K.Plain g.V.Plain c.args.place.handle c.args.place.at c.requires.aligned
    c.requires.room c.write_map_header.ensures
