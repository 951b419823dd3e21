-- The order in which the items of a directory stand in its dump.
use Rattle.std.specs.Prelude.{List, ◌++◌}
use Rattle.segment_dump.specs.Items.{DumpItem, Items}

abbrev pub all_items : Items → List DumpItem
all_items items = items.named ++ (items.unique ++ items.anonymous)
