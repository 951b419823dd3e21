-- The directory that bytes denote.
use Rattle.std.specs.Prelude.{◌≡◌, ℕ, ◌+◌, ◌-◌, ◌*◌, List, ◌++◌, length, map, replicate}
use Rattle.std.specs.List.{AllByRecursion}
use Rattle.raw_region.specs.Memory.{Memory, bytes_of, HasBytesAt, word_at, AreZero}
use Rattle.best_fit.specs.{Extents.handle, Heap.EncodesLiveSet}
use Rattle.seg_types.specs.Kinds.{class_code, code_of}
use Rattle.seg_vector.specs.Vector.{IsVectorAt, IsTextAt, IsTextsAt, spelled}
use Rattle.seg_map.specs.Numbers.{IsNumberMapAt}
use Rattle.seg_index.specs.Index.{IsIndexAt}
use Rattle.segment_manager.specs.Layout.{magic_at, format_at, size_at, named_at, unique_at, reserved_at, header_len}
use Rattle.segment_manager.specs.Layout.{name_class_at, head_len}
use Rattle.segment_manager.specs.Directory.{Value, Numbers, Elements, Bytes, Pairs, Texts, Object, Directory}
use Rattle.segment_manager.specs.Directory.{IsDirectory, live, kind_of, count_of, padded, named_objects, unique_objects}

-- `MSEGFILE`
abbrev pub magic_number : ℕ
magic_number = 0x454C49464745534D

-- the value at an offset
abbrev pub IsValueAt : Memory → ℕ → Value → Type 0
IsValueAt m at (Numbers k zs) = HasBytesAt m at (spelled k zs)
IsValueAt m at (Elements k zs t) = IsVectorAt m at k zs t
IsValueAt m at (Bytes bs t) = IsTextAt m at bs t
IsValueAt m at (Pairs k v ps) = IsNumberMapAt m at k v ps
IsValueAt m at (Texts ps t) = IsTextsAt m at ps t

-- the name, with zeros up to a multiple of 8
abbrev pub padded_name : List ℕ → List ℕ
padded_name name = name ++ replicate (padded (length name) - length name) 0

-- the word with two numbers below 2 ^ 32 as its halves
abbrev pub two_halves : ℕ → ℕ → ℕ
two_halves low high = low + 4294967296 * high

-- the head, the name and the value of an object are in its block
pub record IsObjectAt (m : Memory) (o : Object) : Type 0 where
  pub kind_count : word_at m (handle o.extent) ≡ two_halves (code_of (kind_of o.value)) (count_of o.value)
  pub name_class : word_at m (handle o.extent + name_class_at) ≡ two_halves (length o.name) (class_code o.class)
  pub name : HasBytesAt m (handle o.extent + head_len) (padded_name o.name)
  pub value : IsValueAt m (handle o.extent + head_len + padded (length o.name)) o.value

-- the handles of the objects
abbrev pub handles : List Object → List ℕ
handles = map (λ (o : Object). handle o.extent)

-- the fields of the header before the indexes
pub record IsHeader (format : ℕ) (m : Memory) (size : ℕ) : Type 0 where
  pub magic : word_at m magic_at ≡ magic_number
  pub version : word_at m format_at ≡ format
  pub size_word : word_at m size_at ≡ size
  pub zeros : AreZero m reserved_at header_len

-- The bytes denote the directory, in a format: header, live set, both indexes, each object in its block. All other
-- bytes are arbitrary.
pub record Denotes (format : ℕ) (b : List ℕ) (d : Directory) : Type 0 where
  pub directory : IsDirectory format d
  pub header : IsHeader format (bytes_of b) d.size
  pub heap : EncodesLiveSet format b (live d)
  pub named : IsIndexAt (bytes_of b) named_at d.named (handles (named_objects d))
  pub unique : IsIndexAt (bytes_of b) unique_at d.unique (handles (unique_objects d))
  pub objects : AllByRecursion (IsObjectAt (bytes_of b)) d.objects
