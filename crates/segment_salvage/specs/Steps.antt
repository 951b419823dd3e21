-- What is read of an image before an object is made.
use Rattle.std.specs.Prelude.{◌≡◌, ◌+◌, ◌*◌, ◌%◌, ◌^◌, ℕ, List, length}
use Rattle.raw_region.specs.Memory.{bytes_of, word_at}
use Rattle.seg_types.specs.declared.kinds.Kind.{Kind}
use Rattle.seg_types.specs.Kinds.{class_code, code_of}
use Rattle.seg_types.specs.Names.{Key}
use Rattle.segment_manager.specs.{Directory.padded, Plan.class_of, Plan.name_of}
use Rattle.segment_salvage.specs.Standing.{HasPart}

-- the head of an object stands in the image at an offset, and its value follows at another
pub record IsHead (image : List ℕ) (at : ℕ) (kind : Kind) (key : Key) (value : ℕ) : Type 0 where
  pub kind_is : word_at (bytes_of image) at % 2 ^ 32 ≡ code_of kind
  pub class : word_at (bytes_of image) (at + 8) ≡ length (name_of key) + 2 ^ 32 * class_code (class_of key)
  pub name : HasPart image (at + 16) (name_of key)
  pub value_at : value ≡ at + 16 + padded (length (name_of key))

-- the key of an object, by the word of the length of its name and its class, and by the bytes of its name
pub record IsKeyIn (image : List ℕ) (name_at second : ℕ) (key : Key) : Type 0 where
  pub class : second ≡ length (name_of key) + 2 ^ 32 * class_code (class_of key)
  pub name : HasPart image name_at (name_of key)
  pub short : second % 2 ^ 32 ≡ length (name_of key)
