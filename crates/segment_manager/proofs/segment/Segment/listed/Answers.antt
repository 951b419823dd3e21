-- The head has the class, which determines the key.
use Rattle.seg_index.specs.declared.keys.Entry.TheVariants as entry
use Rattle.segment_manager.proofs.segment.Segment.listed.Goals as goal
use Rattle.segment_manager.proofs.{Common.current, directory.AnyDirectory.denotes-heap}
use Rattle.segment_manager.proofs.objects.Locating.{has-own_object, listed-kind, listed-name, listed-none}

pub read_head-head-requires : goal.read_head-head-requires
read_head-head-requires c = has-own_object c.self.view_is c.args.handle c.self.invariant c.requires

pub read_name-requires-clause-heap : goal.read_name-requires-clause-heap
read_name-requires-clause-heap c =
    denotes-heap current c.self.inside.heap.bytes c.self.invariant.0 c.self.invariant.1.denotes

pub read_name-requires-clause-object : goal.read_name-requires-clause-object
read_name-requires-clause-object c = has-own_object c.self.view_is c.args.handle c.self.invariant c.requires

pub returns-in-Anonymous : goal.returns-in-Anonymous
returns-in-Anonymous c = listed-none c.self.view_is c.requires c.read_head-head.ensures c.in-Anonymous.is

pub returns-in-Named : goal.returns-in-Named
returns-in-Named c = c.listed_under.ensures c.args.handle (listed-name c.self.view_is c.requires
    c.read_head-head.ensures (entry.Name c.read_name.result) c.in-Named.is c.read_name.ensures)

pub returns-in-Unique : goal.returns-in-Unique
returns-in-Unique c = c.listed_under-in-Unique.ensures c.args.handle
    (listed-kind c.self.view_is c.requires c.read_head-head.ensures c.in-Unique.is c.code.ensures)
