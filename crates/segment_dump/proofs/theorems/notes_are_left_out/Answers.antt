use Rattle.segment_dump.proofs.reading.Notes.{capacities-are-left-out, dumps-have-no-notes, notes-are-cut}
use Rattle.segment_dump.proofs.reading.Notes.{notes-are-left-out}
use Rattle.segment_dump.proofs.theorems.notes_are_left_out.Goals as goal

pub returns : goal.returns
returns c = record {
  after = notes-are-left-out;
  capacities = capacities-are-left-out;
  absent = dumps-have-no-notes;
  uniqueness = notes-are-cut;
}
