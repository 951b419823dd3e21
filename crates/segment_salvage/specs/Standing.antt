-- The objects that stand in an image, whatever the rest of the image is.
use Rattle.std.specs.Prelude.{◌≡◌, ◌+◌, ◌*◌, ◌%◌, ◌^◌, ℕ, ℤ, Option, Some, None, List, [], length}
use Rattle.std.specs.List.{AllByRecursion}
use Rattle.raw_region.specs.Memory.{bytes_of, part, word_at}
use Rattle.offset_link.specs.Link.{link_at}
use Rattle.seg_types.specs.declared.kinds.{ScalarKind.ScalarKind}
use Rattle.seg_types.specs.Kinds.{class_code, code_of, size_of, spelling}
use Rattle.seg_vector.specs.Vector.{spelled}
use Rattle.segment_manager.specs.{Directory.Directory, Directory.Object, Directory.kind_of, Directory.padded}
use Rattle.segment_manager.specs.State.{DenotesCurrent, SegmentState}
use Rattle.segment_values.specs.Contents.{ValueContent, Scalars, Vector, String, Map, Strings, content_of}

-- the image has these bytes at an offset
abbrev pub HasPart : List ℕ → ℕ → List ℕ → Type 0
HasPart image at bytes = part image at (length bytes) ≡ bytes

-- the image has these bytes at some offset
pub record Stands (image bytes : List ℕ) : Type 0 where
  pub at : ℕ
  pub is : HasPart image at bytes

-- the bytes that a link leads to begin with these; a null link leads to none
abbrev pub IsTarget : List ℕ → Option ℕ → List ℕ → Type 0
IsTarget image None bytes = bytes ≡ []
IsTarget image (Some to) bytes = HasPart image to bytes

-- the container at an offset: the link to its elements, and its length
pub record HasContainer (image : List ℕ) (at len : ℕ) (bytes : List ℕ) : Type 0 where
  pub target : IsTarget image (link_at (bytes_of image) at) bytes
  pub len_word : word_at (bytes_of image) (at + 8) ≡ len

-- a node at some offset has the pair: its key, and after that its value
pub record HasPair (image : List ℕ) (k v : ScalarKind) (p : ℤ × ℤ) : Type 0 where
  pub at : ℕ
  pub key : HasPart image (at + 16) (spelling k p.0)
  pub value : HasPart image (at + 16 + size_of k) (spelling v p.1)

-- the contents stand in the image, from the offset of a value on: scalars there, the elements of a container where its
-- link leads, and each pair and each text somewhere
abbrev pub HasContent : List ℕ → ℕ → ValueContent → Type 0
HasContent image at (Scalars k zs) = HasPart image at (spelled k zs)
HasContent image at (Vector k zs) = HasContainer image at (length zs) (spelled k zs)
HasContent image at (String bs) = HasContainer image at (length bs) bs
HasContent image at (Map k v ps) = AllByRecursion (HasPair image k v) ps
HasContent image at (Strings ts) = AllByRecursion (Stands image) ts

-- an object's head and contents stand in the image: its kind, class, name and value
pub record StandsIn (image : List ℕ) (o : Object) : Type 0 where
  pub at : ℕ
  pub kind : word_at (bytes_of image) at % 2 ^ 32 ≡ code_of (kind_of o.value)
  pub class : word_at (bytes_of image) (at + 8) ≡ length o.name + 2 ^ 32 * class_code o.class
  pub name : HasPart image (at + 16) o.name
  pub content : HasContent image (at + 16 + padded (length o.name)) (content_of o.value)

-- each object of a directory stands in the image
abbrev pub AllStand : List ℕ → Directory → Type 0
AllStand image d = AllByRecursion (StandsIn image) d.objects

-- the segment denotes a directory, each object of which stands in the image
pub record IsSalvaged (image : List ℕ) (s : SegmentState) : Type 0 where
  pub directory : Directory
  pub denotes : DenotesCurrent s.cut.bytes directory
  pub all : AllStand image directory

-- a call adds no object that does not stand in the image
pub record Salvages (image : List ℕ) (old new : SegmentState) : Type 0 where
  pub keeps : IsSalvaged image old → IsSalvaged image new
