use Rattle.std.proofs.Common.{◌-◌, ◌≤◌, false, length}
use Rattle.raw_region.specs.Device.{AppendsBytes}
use Rattle.segment_file.specs.ReadingOn.{IsReadUpTo}
use Rattle.segment_file.proofs.reading_on.read_up_to.Given as goal

abbrev pub invariant-pieces : goal.invariant-pieces
invariant-pieces g l = record {
  begun : IsReadUpTo (g.S.Source.history l.reader) l.text.items false;
  few : length l.text.items ≤ l.said;
  grows : AppendsBytes (g.S.Source.history l.initial.reader).bytes (g.S.Source.history l.reader).bytes;
}

abbrev pub decreases-pieces : goal.decreases-pieces
decreases-pieces g l = l.said - length l.text.items
