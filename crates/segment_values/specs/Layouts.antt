-- The layout of an object's elements in a text.
use Rattle.std.specs.Prelude.{ℕ, suc, ℤ, List, [], ◌∷◌, ◌++◌, Some, None, slice_get}
use Rattle.seg_types.specs.{declared.kinds.ScalarKind.ScalarKind, Names.Key}
use Rattle.segment_manager.specs.{Directory.Directory, Directory.Object, Directory.object_at, Parts.part_of}
use Rattle.segment_values.specs.Contents.{ValueContent, Scalars, Vector, String, Map, Strings, content_of}
use Rattle.segment_values.specs.Contents.{count_of_content}

-- the text of each element, by its index from 0 on and its value
pub record Spelling : Type 0 where
  pub scalar : ℕ → ScalarKind → ℤ → List ℕ
  pub text : ℕ → List ℕ → List ℕ
  pub pair : ℕ → ScalarKind → ScalarKind → ℤ × ℤ → List ℕ

-- the texts of elements, one after another; the first has this index
abbrev pub laid_from : {X : Type 0} → (ℕ → X → List ℕ) → ℕ → List X → List ℕ
laid_from f n [] = []
laid_from f n (x ∷ xs) = f n x ++ laid_from f (suc n) xs

-- the texts of all elements of an object; a string is one text
abbrev pub laid_out : Spelling → ValueContent → List ℕ
laid_out s (Scalars k zs) = laid_from (λ i z. s.scalar i k z) 0 zs
laid_out s (Vector k zs) = laid_from (λ i z. s.scalar i k z) 0 zs
laid_out s (String bs) = s.text 0 bs
laid_out s (Map k v ps) = laid_from (λ i p. s.pair i k v p) 0 ps
laid_out s (Strings ts) = laid_from s.text 0 ts

-- the texts of all elements of an object, by a spelling
abbrev pub laid_object : Spelling → Object → List ℕ
laid_object s o = laid_out s (content_of o.value)

-- the texts of all elements of a key's object, by a spelling
abbrev pub laid_at : Spelling → Directory → Key → List ℕ
laid_at s d key = part_of (laid_object s) (object_at d key)

-- the number of elements of an object; a string is one text
abbrev pub object_count : Object → ℕ
object_count o = count_of_content (content_of o.value)

-- the number of elements of a key's object
abbrev pub count_at : Directory → Key → ℕ
count_at d key = elim (object_at d key) [ None ↦ 0 | Some o ↦ object_count o ]

-- ---- one element

-- the text of the element at an index, or nothing if there is none
abbrev pub content_part : Spelling → ValueContent → ℕ → List ℕ
content_part s (Scalars k zs) i = part_of (s.scalar i k) (slice_get zs i)
content_part s (Vector k zs) i = part_of (s.scalar i k) (slice_get zs i)
content_part s (String bs) i = s.text i bs
content_part s (Map k v ps) i = part_of (s.pair i k v) (slice_get ps i)
content_part s (Strings ts) i = part_of (s.text i) (slice_get ts i)

-- the text of an object
abbrev pub object_part : Spelling → ℕ → Object → List ℕ
object_part s i o = content_part s (content_of o.value) i

-- the text of one element of a key's object, by a spelling
abbrev pub part_at : Spelling → Directory → Key → ℕ → List ℕ
part_at s d key i = part_of (object_part s i) (object_at d key)
