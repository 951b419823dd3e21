-- The contents of an object's value, without the places and capacities of its blocks.
use Rattle.std.specs.Prelude.{ℕ, ℤ, List, map, length}
use Rattle.seg_types.specs.declared.kinds.ScalarKind.{ScalarKind}
use Rattle.seg_map.specs.Places.{item_of}
use Rattle.seg_vector.specs.Vector.{OwnedText}
use Rattle.segment_manager.specs.Directory as directory

-- scalars of one kind; a vector of scalars; a string; a map, by rising keys; or a vector of strings
pub data ValueContent : Type 0 where
  Scalars : ScalarKind → List ℤ → ValueContent
  Vector : ScalarKind → List ℤ → ValueContent
  String : List ℕ → ValueContent
  Map : ScalarKind → ScalarKind → List (ℤ × ℤ) → ValueContent
  Strings : List (List ℕ) → ValueContent

abbrev pub bytes_in : OwnedText → List ℕ
bytes_in p = p.bytes

-- the contents of a value of a directory
abbrev pub content_of : directory.Value → ValueContent
content_of (directory.Numbers k zs) = Scalars k zs
content_of (directory.Elements k zs t) = Vector k zs
content_of (directory.Bytes bs t) = String bs
content_of (directory.Pairs k v ps) = Map k v (map item_of ps)
content_of (directory.Texts ps t) = Strings (map bytes_in ps)

-- the number of scalars, texts or pairs; a string is one text
abbrev pub count_of_content : ValueContent → ℕ
count_of_content (Scalars k zs) = length zs
count_of_content (Vector k zs) = length zs
count_of_content (String bs) = 1
count_of_content (Map k v ps) = length ps
count_of_content (Strings ts) = length ts
