use Rattle.segment_dump.proofs.space.Objects.{segments-have-room}
use Rattle.segment_dump.proofs.theorems.segments_have_room.Goals as goal

pub returns : goal.returns
returns c = segments-have-room
