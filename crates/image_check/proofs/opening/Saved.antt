-- What is saved of a segment is accepted again.
use Rattle.image_check.proofs.Common.{Directory, List, arith, slice_index, ℕ, ◌<◌}
use Rattle.raw_region.specs.Format.{current}
use Rattle.segment_manager.specs.State.{DenotesCurrent}
use Rattle.image_check.specs.Saving.{IsSaved}
use Rattle.raw_region.proofs.Bytes.{fits-are_bytes}
use Rattle.image_check.proofs.Facts.{one_directory}

-- bytes that denote a directory are an image that is accepted
pub accepted_image : (b : List ℕ) → ((k : ℕ) → slice_index b k < 256) → (d : Directory) → DenotesCurrent b d
    → IsSaved b d
unfolding current
accepted_image b fits d s = record {
  denotes = s;
  accepted = (one_directory current b (omega arith) (fits-are_bytes b fits)).none d s.denotes;
}
