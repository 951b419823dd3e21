-- The tests of the pass over the objects, part by part, and its visits.
use Rattle.std.specs.Prelude.{◌≡◌, ℕ, ◌+◌, ◌*◌, ◌<◌, ◌≤◌, Bool, true, false, ◌&&◌, Option, Some, None, List, ◌==◌}
use Rattle.std.specs.Prelude.{nat_le, if◌then◌else◌}
use Rattle.std.specs.List.{list_all}
use Rattle.raw_region.specs.Memory.{Memory}
use Rattle.block_tags.specs.declared.tile.Role.TheVariants.{Object}
use Rattle.block_tags.specs.declared.tile.Tile.{Tile}
use Rattle.seg_types.specs.declared.kinds.Kind.{Kind}
use Rattle.seg_types.specs.declared.kinds.Kind.TheVariants.{Scalar}
use Rattle.seg_types.specs.Kinds.{size_of}
use Rattle.seg_index.specs.Keys.{class_at, code_before, count_at, name_before, name_len_at}
use Rattle.offset_link.specs.Link.{link_at}
use Rattle.image_check.specs.EarlyTests.{is_among}
use Rattle.image_check.specs.ObjectTests.{are_spellings, has_name, has_padding, is_indexed, is_object_tile, is_use}
use Rattle.image_check.specs.ObjectTests.{is_value_in, kind_at, rise_by, targets, value_offset}
use Rattle.image_check.specs.Visits.{Rates}

-- ---- one object

-- whether the value of an object is valid, in a payload with this end
abbrev pub has_value : ℕ → Memory → ℕ → ℕ → Bool
has_value format m at end = elim (kind_at format m at) [
  | None ↦ false
  | Some k ↦ is_value_in m k (count_at m at) (value_offset m at) end
]

-- whether the object at an offset is valid, in a payload with this end
abbrev pub is_object_at : ℕ → Memory → ℕ → ℕ → Bool
is_object_at format m at end =
    if has_name format m at then has_value format m at end && has_padding m at && is_indexed m at else false

-- whether the count of a value is legal, and the value ends by the end
abbrev pub is_value_room : Kind → ℕ → ℕ → ℕ → Bool
is_value_room (Scalar k) count at end = nat_le 1 count && nat_le count 1048576 && nat_le (at + size_of k * count) end
is_value_room k count at end = (count == 1) && nat_le (at + 24) end

-- whether the elements are valid, if they are scalars
abbrev pub is_spelled : Memory → Kind → ℕ → ℕ → Bool
is_spelled m (Scalar k) count at = are_spellings m k at count
is_spelled m k count at = true

-- whether the tile holds no wrong object
abbrev pub is_right_tile : ℕ → Memory → Tile → Bool
is_right_tile format m t = if is_use Object t then is_object_tile format m t else true

-- ---- the entries of an index

-- whether the key of an object of a class precedes the key of another: in class 1 by the names, in class 2 by the kinds
abbrev pub key_before : ℕ → Memory → ℕ → ℕ → Bool
key_before class m g h = if class == 1 then name_before m g h else code_before m g h

-- whether the objects all have a class, and their keys rise
abbrev pub are_ranked : ℕ → Memory → List ℕ → Bool
are_ranked class m xs = list_all (λ at. class_at m at == class) xs && rise_by (key_before class m) xs

-- whether the object has the class, and its key follows the key of the last object, if there is one
abbrev pub follows : ℕ → Memory → Option ℕ → ℕ → Bool
follows class m last here = (class_at m here == class) && elim last [ None ↦ true | Some g ↦ key_before class m g here ]

-- the object of an index has a head and a name that can be read
abbrev pub HaveHeads : Memory → ℕ → ℕ → Type 0
HaveHeads m at size = (n : ℕ) → is_among (targets m at) n ≡ true → n + 16 + name_len_at m n ≤ size

-- the first links of a block lead to heads of objects
abbrev pub LeadToHeads : Memory → ℕ → ℕ → ℕ → Type 0
LeadToHeads m block count size = (i n : ℕ) → i < count → link_at m (block + 8 * i) ≡ Some n
    → n + 16 + name_len_at m n ≤ size

-- ---- visits

-- the rates of the walk over the objects
abbrev pub object_walk_rates : Rates
object_walk_rates = record { free = 1; object = 22; index = 1; storage = 1; node = 1 }

-- the rates of both indexes
abbrev pub entry_rates : Rates
entry_rates = record { free = 0; object = 0; index = 12; storage = 0; node = 0 }
