-- An object in its block, as calls on a heap see it: its head and its elements.
use Rattle.std.specs.Prelude.{◌≡◌, ℕ, ◌+◌, ◌*◌, List, length, replicate, flat_map, IsTrue, Some, None, Result, Ok, Err}
use Rattle.std.specs.Prelude.{if◌then◌else◌, nat_lt}
use Rattle.raw_region.specs.{Format.current, Memory.Memory, Memory.bytes_of, Memory.word_at, Memory.HasBytesAt}
use Rattle.best_fit.specs.{Extents.handle, Heap.live_of, Heap.has_room, declared.places.Place.Place}
use Rattle.seg_types.specs.{declared.kinds.ScalarKind.ScalarKind, declared.kinds.Kind.Kind, declared.kinds.Class.Class}
use Rattle.seg_types.specs.{declared.refusals.Refusal.Refusal, Names.Key}
use Rattle.seg_types.specs.declared.kinds.Kind.TheVariants.{Scalar}
use Rattle.seg_types.specs.declared.refusals.Refusal.TheVariants.{NotFound, WrongKind, OutOfRange}
use Rattle.seg_types.specs.Kinds.{class_code, code_of, same_kind, size_of}
use Rattle.segment_manager.specs.declared.objects.head.Head.{Head}
use Rattle.segment_manager.specs.{Layout.name_class_at, Layout.head_len, Directory.padded}
use Rattle.segment_manager.specs.Directory.{Object, Directory, object_at, count_of, is_object, kind_of, object_len}
use Rattle.segment_manager.specs.Denotes.{IsObjectAt, padded_name, two_halves}

-- the object is in the block of a handle, which has room for it
pub record IsObjectInBlock (b : List ℕ) (h : ℕ) (o : Object) : Type 0 where
  pub at : h ≡ handle o.extent
  pub good : IsTrue (is_object current o)
  pub room : IsTrue (has_room (live_of b) h (object_len o.name o.value))
  pub said : IsObjectAt (bytes_of b) o

-- an object is in the block of a handle
abbrev pub HasObject : List ℕ → ℕ → Type 0
HasObject b h = (o : Object) × IsObjectInBlock b h o

-- the head that was read has the object's properties
pub record IsHeadOf (o : Object) (head : Head) : Type 0 where
  pub kind : head.kind ≡ kind_of o.value
  pub count : head.count ≡ count_of o.value
  pub name_len : head.name_len ≡ length o.name
  pub class : head.class ≡ o.class

-- the two words of a head, and the name with its zeros
pub record IsHeadAt (m : Memory) (h : ℕ) (kind : Kind) (count : ℕ) (class : Class) (bytes : List ℕ) : Type 0 where
  pub kind_count : word_at m h ≡ two_halves (code_of kind) count
  pub name_class : word_at m (h + name_class_at) ≡ two_halves (length bytes) (class_code class)
  pub name : HasBytesAt m (h + head_len) (padded_name bytes)

-- n copies of the same bytes, one after another
abbrev pub repeated : ℕ → List ℕ → List ℕ
repeated n bytes = flat_map (λ each. each) (replicate n bytes)

-- the length of an object's payload with a name and a value of this many bytes
abbrev pub room_for : List ℕ → ℕ → ℕ
room_for name body = head_len + padded (length name) + body

-- the offset of an element from the handle
abbrev pub element_at : ScalarKind → List ℕ → ℕ → ℕ
element_at k name i = head_len + padded (length name) + size_of k * i

-- the offset of an element of an object, or an error if it has no such element
abbrev pub offset_in : Object → ScalarKind → ℕ → Result ℕ Refusal
offset_in o k i =
    if same_kind (Scalar k) (kind_of o.value) then
    (if nat_lt i (count_of o.value) then Ok (element_at k o.name i) else Err OutOfRange) else Err WrongKind

-- the handle of an object of a kind, and its number of elements
abbrev pub pair_of_kind : Object → Kind → Result (ℕ × ℕ) Refusal
pair_of_kind o kind = if same_kind kind (kind_of o.value) then Ok (handle o.extent, count_of o.value) else Err WrongKind

-- the place of an element of a key's object, or an error if there is none
abbrev pub place_at : Directory → Key → ScalarKind → ℕ → Result Place Refusal
place_at d key k i = elim (object_at d key) [
  | None ↦ Err NotFound
  | Some o ↦ elim (offset_in o k i) [ Ok at ↦ Ok (record { handle = handle o.extent; at = at }) | Err r ↦ Err r ]
]
