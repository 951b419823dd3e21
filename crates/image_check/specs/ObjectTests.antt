-- Links to tiles, and the tests of the indexes and of the objects.
use Rattle.std.specs.Prelude.{ℕ, ◌+◌, ◌-◌, ◌*◌, Bool, true, false, not, ◌&&◌, Option, Some, None, List, [], ◌∷◌, ◌++◌}
use Rattle.std.specs.Prelude.{map, filter, find, flat_map, is_some, is_none, option_to_list, ◌==◌, nat_le}
use Rattle.std.specs.Prelude.{if◌then◌else◌}
use Rattle.std.specs.List.{list_all, range_with_len}
use Rattle.raw_region.specs.Memory.{Memory, read, word_at}
use Rattle.offset_link.specs.Link.{link_at}
use Rattle.block_tags.specs.declared.tile.Role.{Role}
use Rattle.block_tags.specs.declared.tile.Role.TheVariants.{Object, Index}
use Rattle.block_tags.specs.declared.tile.Tile.{Tile}
use Rattle.best_fit.specs.Table.{same_role}
use Rattle.seg_types.specs.declared.kinds.ScalarKind.{ScalarKind}
use Rattle.seg_types.specs.declared.kinds.Kind.{Kind}
use Rattle.seg_types.specs.declared.kinds.Kind.TheVariants.{Scalar}
use Rattle.seg_types.specs.Kinds.{size_of, kind_of_code, is_kind_of, is_spelling}
use Rattle.seg_types.specs.Names.{is_name}
use Rattle.seg_index.specs.Keys.{code_at, count_at, name_len_at, class_at, name_at, name_before, code_before}
use Rattle.segment_manager.specs.Directory.{padded}
use Rattle.image_check.specs.EarlyTests.{is_zero, is_among}

-- ---- links to tiles

-- whether the tile has this role
abbrev pub is_use : Role → Tile → Bool
is_use role t = elim t.use_of [ None ↦ false | Some r ↦ same_role role r ]

-- the tile of a role whose payload begins at this offset
abbrev pub tile_of : List Tile → Role → ℕ → Option Tile
tile_of ts role target = find (λ (t : Tile). is_use role t && (t.offset + 16 == target)) ts

-- the tile of a role that a link leads to
abbrev pub good_for : List Tile → Role → Option ℕ → Option Tile
good_for ts role None = None
good_for ts role (Some target) = tile_of ts role target

-- whether a link leads to a tile of the role with room for this many bytes of payload
abbrev pub leads_to : List Tile → Role → Option ℕ → ℕ → Bool
leads_to ts role link n = elim (good_for ts role link) [ None ↦ false | Some t ↦ nat_le (n + 16) t.len ]

-- whether a link leads to a block with room for this capacity; with capacity 0 it must be null
abbrev pub is_table_link : List Tile → Role → Option ℕ → ℕ → ℕ → Bool
is_table_link ts role link each capacity =
    if capacity == 0 then is_none link else leads_to ts role link (each * capacity)

-- the offset of a tile's payload
abbrev pub payload : Tile → ℕ
payload t = t.offset + 16

-- ---- the indexes

abbrev pub index_capacity : Memory → ℕ → ℕ
index_capacity m at = word_at m (at + 16)

-- the first `count` links of the index whose words are at an offset
abbrev pub entries : Memory → ℕ → List (Option ℕ)
entries m at = elim (link_at m at) [
  | None ↦ []
  | Some block ↦ map (λ i. link_at m (block + 8 * i)) (range_with_len 0 (word_at m (at + 8)))
]

-- the targets of the links of an index
abbrev pub targets : Memory → ℕ → List ℕ
targets m at = flat_map option_to_list (entries m at)

-- whether the words and the entries of an index are valid
abbrev pub has_index : Memory → List Tile → ℕ → Bool
has_index m ts at =
    if nat_le (word_at m (at + 8)) (index_capacity m at)
    && is_table_link ts Index (link_at m at) 8 (index_capacity m at)
    then list_all (λ link. is_some (good_for ts Object link)) (entries m at) else false

-- whether no number is in the list twice
abbrev pub are_distinct : List ℕ → Bool
are_distinct [] = true
are_distinct (x ∷ xs) = not (is_among xs x) && are_distinct xs

-- whether both indexes are valid, and no object has two entries
abbrev pub has_indexes : Memory → List Tile → Bool
has_indexes m ts = has_index m ts 32 && has_index m ts 56 && are_distinct (targets m 32 ++ targets m 56)

-- ---- objects: the contents of their payloads

abbrev pub object_tiles : List Tile → List Tile
object_tiles = filter (is_use Object)

-- the offset of an object's value
abbrev pub value_offset : Memory → ℕ → ℕ
value_offset m at = at + 16 + padded (name_len_at m at)

-- the kind of an object
abbrev pub kind_at : ℕ → Memory → ℕ → Option Kind
kind_at format m at = elim (kind_of_code (code_at m at)) [
  | None ↦ None
  | Some k ↦ if is_kind_of format k then Some k else None
]

-- whether the n elements of a kind from an offset on are valid
abbrev pub are_spellings : Memory → ScalarKind → ℕ → ℕ → Bool
are_spellings m k at n = list_all (λ i. is_spelling k (read m (at + size_of k * i) (size_of k))) (range_with_len 0 n)

-- whether the count is legal, the value ends by the end of the payload, and the scalars are valid
abbrev pub is_value_in : Memory → Kind → ℕ → ℕ → ℕ → Bool
is_value_in m (Scalar k) count at end =
    if nat_le 1 count && nat_le count 1048576
    && nat_le (at + size_of k * count) end then are_spellings m k at count else false
is_value_in m k count at end = (count == 1) && nat_le (at + 24) end

-- whether the class and the name of an object are valid: a name of class 1, and no name of class 0 or 2
abbrev pub has_name : ℕ → Memory → ℕ → Bool
has_name format m at =
    if class_at m at == 1 then (if nat_le (name_len_at m at) 255 then is_name format (name_at m at) else false)
    else nat_le (class_at m at) 2 && (name_len_at m at == 0)

-- the bytes between the name and the value
abbrev pub padding_at : Memory → ℕ → List ℕ
padding_at m at = let n = name_len_at m at in read m (at + 16 + n) (padded n - n)

-- whether the bytes between the name and the value are 0
abbrev pub has_padding : Memory → ℕ → Bool
has_padding m at = is_zero (padding_at m at)

-- whether an object of class 1 is in the named index, and an object of class 2 in the unique one
abbrev pub is_indexed : Memory → ℕ → Bool
is_indexed m at =
    if class_at m at == 1 then is_among (targets m 32) at
    else if class_at m at == 2 then is_among (targets m 56) at else true

abbrev pub is_object_tile : ℕ → Memory → Tile → Bool
is_object_tile format m t =
    let at = payload t in
    if has_name format m at then
    elim (kind_at format m at) [
      | None ↦ false
      | Some k ↦ is_value_in m k (count_at m at) (value_offset m at) (t.offset + t.len)
    ]
    && has_padding m at && is_indexed m at
    else false

abbrev pub rise_by : {A : Type 0} → (A → A → Bool) → List A → Bool
rise_by lt [] = true
rise_by lt (x ∷ []) = true
rise_by lt (x ∷ y ∷ xs) = lt x y && rise_by lt (y ∷ xs)

-- whether each object is valid, and the keys of the entries rise
abbrev pub has_objects : ℕ → Memory → List Tile → Bool
has_objects format m ts =
    list_all (is_object_tile format m) (object_tiles ts)
    && list_all (λ at. class_at m at == 1) (targets m 32)
    && list_all (λ at. class_at m at == 2) (targets m 56)
    && rise_by (name_before m) (targets m 32)
    && rise_by (code_before m) (targets m 56)
