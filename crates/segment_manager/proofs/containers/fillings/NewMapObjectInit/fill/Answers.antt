-- The map has no pair.
use Rattle.segment_manager.proofs.containers.fillings.NewMapObjectInit.fill.Goals as goal
use Rattle.segment_manager.proofs.objects.ArrayItems.{map-made}

pub returns : goal.returns
returns c = map-made c.args.self.now.keys c.args.self.now.values _ _ c.new.ensures.map
