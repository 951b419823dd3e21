-- The room is that of the block.
use Rattle.seg_vector.proofs.{sym, ◌∙◌, storage-live, texts-stand}
use Rattle.seg_vector.proofs.text_arrays.array_room.Goals as goal

pub room-requires : goal.room-requires
room-requires c = storage-live (texts-stand c.requires.1.1) (sym c.link_of.ensures ∙ c.in-Some.is)
