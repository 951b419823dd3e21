-- The contents of vectors of numbers and of texts as values of objects, and their places.
use Rattle.std.specs.Prelude.{ℕ, ◌+◌, Bool, true, false, Option, Some, None, Result, Ok, Err, List, length}
use Rattle.std.specs.{Prelude.option_to_list, Prelude.if◌then◌else◌, List.list_all}
use Rattle.raw_region.specs.{Format.current, Memory.WindowState, Memory.are_bytes}
use Rattle.best_fit.specs.{Exchange.ExchangesBlocks, Extents.handle, Table.BackingArray, declared.places.Place.Place}
use Rattle.seg_types.specs.{declared.kinds.Kind.Kind, declared.refusals.Refusal.Refusal, Names.Key}
use Rattle.seg_types.specs.declared.kinds.Kind.TheVariants.{Map, Scalar}
use Rattle.seg_types.specs.declared.refusals.Refusal.TheVariants.{NotFound, WrongKind}
use Rattle.seg_types.specs.Kinds.{is_value, same_kind, size_of}
use Rattle.seg_vector.specs.{Containers.IsContainer, Containers.place_at, Vector.spelled}
use Rattle.segment_manager.specs.Directory.{Value, Numbers, Elements, Bytes, Pairs, Texts, Object, Directory, kind_of}
use Rattle.segment_manager.specs.{Directory.object_at, Directory.padded, Layout.head_len}

-- the length of an element, the number of elements, their storage, and their encoded bytes
pub record Contents : Type 0 where
  pub each : ℕ
  pub len : ℕ
  pub table : BackingArray
  pub bytes : List ℕ

-- the contents of a value that is a vector of numbers or a text
abbrev pub contents_of : Value → Option Contents
contents_of (Numbers k zs) = None
contents_of (Elements k zs t) = Some (record { each = size_of k; len = length zs; table = t; bytes = spelled k zs })
contents_of (Bytes bs t) = Some (record { each = 1; len = length bs; table = t; bytes = bs })
contents_of (Pairs k v ps) = None
contents_of (Texts ps t) = None

-- whether each element is a value of its kind
abbrev pub has_values : Value → Bool
has_values (Numbers k zs) = true
has_values (Elements k zs t) = list_all (is_value k) zs
has_values (Bytes bs t) = are_bytes bs
has_values (Pairs k v ps) = true
has_values (Texts ps t) = true

-- the place of the three words of a container's object
abbrev pub container_place : Object → Place
container_place o = record { handle = handle o.extent; at = head_len + padded (length o.name) }

-- the place of the container of a key's object
abbrev pub container_at : Directory → Key → Kind → Result Place Refusal
container_at d key kind = elim (object_at d key) [
  | None ↦ Err NotFound
  | Some o ↦ if same_kind kind (kind_of o.value) then Ok (container_place o) else Err WrongKind
]

-- the bytes of a text
abbrev pub text_bytes : Value → Result (List ℕ) Refusal
text_bytes (Numbers k zs) = Err WrongKind
text_bytes (Elements k zs t) = Err WrongKind
text_bytes (Bytes bs t) = Ok bs
text_bytes (Pairs k v ps) = Err WrongKind
text_bytes (Texts ps t) = Err WrongKind

-- the bytes of the text of a key's object
abbrev pub bytes_at : Directory → Key → Result (List ℕ) Refusal
bytes_at d key = elim (object_at d key) [ None ↦ Err NotFound | Some o ↦ text_bytes o.value ]

-- the length and the capacity of a container
abbrev pub sizes_of : Value → Result (ℕ × ℕ) Refusal
sizes_of (Numbers k zs) = Err WrongKind
sizes_of (Elements k zs t) = Ok (length zs, t.capacity)
sizes_of (Bytes bs t) = Ok (length bs, t.capacity)
sizes_of (Pairs k v ps) = Ok (length ps, 0)
sizes_of (Texts ps t) = Ok (length ps, t.capacity)

-- the length and the capacity of the container of a key
abbrev pub sizes_at : Directory → Key → Result (ℕ × ℕ) Refusal
sizes_at d key = elim (object_at d key) [ None ↦ Err NotFound | Some o ↦ sizes_of o.value ]

abbrev pub sizes_of_kind : Object → Kind → Result (ℕ × ℕ) Refusal
sizes_of_kind o kind = if same_kind kind (kind_of o.value) then sizes_of o.value else Err WrongKind

-- the length and the capacity of a key's object of a kind
abbrev pub sizes_at_kind : Directory → Key → Kind → Result (ℕ × ℕ) Refusal
sizes_at_kind d key kind = elim (object_at d key) [ None ↦ Err NotFound | Some o ↦ sizes_of_kind o kind ]

-- whether objects of a kind are containers
abbrev pub has_sizes : Kind → Bool
has_sizes (Scalar k) = false
has_sizes kind = true

-- whether objects of the kind have storage of their own
abbrev pub has_storage : Kind → Bool
has_storage (Scalar k) = false
has_storage (Map k v) = false
has_storage kind = true

-- The contents of a container change. Of all blocks that stay, only its own 24 bytes change.
pub record RefillsContainer (old new : WindowState) (p : Place) (was is : Contents) : Type 0 where
  pub change : ExchangesBlocks current old new (place_at p) 24 (option_to_list was.table.extent)
      (option_to_list is.table.extent)
  pub stands : IsContainer new.bytes p is.each is.len is.table is.bytes
