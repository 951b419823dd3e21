-- The map has the remaining pairs, one fewer each time.
use Rattle.seg_map.proofs.{◌+◌, List, bytes_of, word_at, Pair, HoldsMap, IsGoing}
use Rattle.seg_map.proofs.maps.SegMap.release.Given as goal

abbrev pub invariant-pairs : goal.invariant-pairs
invariant-pairs g l = (ps : List (Pair g.row.K.Denot g.row.V.Denot))
    → HoldsMap g.K.Plain g.V.Plain l.fn.heap.bytes l.fn.self.place.handle l.fn.self.place.at ps
    → IsGoing g.K.Plain g.V.Plain l.fn.heap l.heap l.self.place.handle l.self.place.at ps

abbrev pub decreases-pairs : goal.decreases-pairs
decreases-pairs g l = word_at (bytes_of l.heap.bytes) (l.self.place.handle + l.self.place.at + 8)
