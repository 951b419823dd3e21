-- This many pairs are read, and the nodes of the next pairs are listed. A pass reads a pair, or lists nodes.
use Rattle.segment_c.proofs.pair_series.read_typed.Given as goal
use Rattle.std.proofs.Common.{◌≡◌, ◌≤◌, ◌<◌, ◌+◌, ◌-◌, drop, int_lt, length, take}
use Rattle.seg_map.specs.Listing.{pairs_past}
use Rattle.seg_types.specs.Names.{ByHandle}
use Rattle.segment_manager.specs.{containers.Walks.pairs_at_kinds, Directory.Directory, State.DenotesCurrent}
use Rattle.segment_c.proofs.pair_series.Walk.{IsAt}

abbrev pub invariant-pairs : goal.invariant-pairs
invariant-pairs g l = record {
  within : l.read ≤ l.capacity;
  listed : l.at ≤ l.count;
  few : l.count ≤ 32;
  long : length l.nodes ≡ 32;
  walk : (d : Directory) → DenotesCurrent l.segment.cut.bytes d
      → (let its = pairs_at_kinds d (ByHandle l.fn.object.handle) g.K.Scalar.kind g.V.Scalar.kind in
      IsAt its (pairs_past int_lt l.fn.past (g.K.Scalar.whole l.fn.from) its) l.fn.keys l.fn.values l.read l.above
      (g.K.Scalar.whole l.after) (drop l.at (take l.count l.nodes)) (l.count < l.room) l.keys l.values);
}

-- nodes are listed where none is left, and the last ones were as many as were wanted
abbrev pub decreases-pairs : goal.decreases-pairs
decreases-pairs g l = (l.capacity - l.read) + (l.capacity - l.read) + (1 - ((l.count - l.at) + (l.room - l.count)))
