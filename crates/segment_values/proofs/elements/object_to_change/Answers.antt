use Rattle.std.proofs.Common.{rules}
use Rattle.seg_types.specs.Keys.{key_seen}
use Rattle.segment_manager.proofs.CommandLaws.{changeable, reading-unchangeable}
use Rattle.segment_values.proofs.elements.object_to_change.Goals as goal

pub returns-then-eq : goal.returns-then-eq
returns-then-eq c = reading-unchangeable c.args.segment.now (key_seen c.args.key.now) (search rules)

pub returns : goal.returns
returns c = changeable c.args.segment.now (key_seen c.args.key.now) c.locate.result (search rules) c.locate.ensures
