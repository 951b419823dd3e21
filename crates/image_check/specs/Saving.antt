-- An image that is written, and is accepted again.
use Rattle.std.specs.Prelude.{◌≡◌, ℕ, List, None}
use Rattle.raw_region.specs.Format.{current}
use Rattle.segment_manager.specs.Directory.{Directory}
use Rattle.segment_manager.specs.State.{DenotesCurrent}
use Rattle.image_check.specs.Classes.{class_of}

-- the image denotes the directory, and shows no class
pub record IsSaved (saved : List ℕ) (d : Directory) : Type 0 where
  pub denotes : DenotesCurrent saved d
  pub accepted : class_of current saved ≡ None
