-- The fields with links to blocks, and the tests of their blocks: shared blocks, containers and orphans.
use Rattle.std.specs.Prelude.{ℕ, zero, suc, ◌+◌, ◌-◌, ◌*◌, ◌/◌, min, ℤ, Bool, true, false, not, ◌&&◌, ◌||◌, Option}
use Rattle.std.specs.Prelude.{Some, None, List, [], ◌∷◌, ◌++◌, length, map, filter_map, flat_map, is_some, option_map}
use Rattle.std.specs.Prelude.{◌==◌, nat_lt, nat_le, if◌then◌else◌, int_lt}
use Rattle.std.specs.List.{list_all, list_any, range_with_len}
use Rattle.byteorder.specs.Endian.{little_number}
use Rattle.raw_region.specs.Memory.{Memory, read, word_at}
use Rattle.offset_link.specs.Link.{link_at}
use Rattle.link_tree.specs.Tree.{nodes_of, tree_from, is_red_black}
use Rattle.block_tags.specs.declared.tile.Role.{Role}
use Rattle.block_tags.specs.declared.tile.Role.TheVariants.{Index, Storage, Node}
use Rattle.block_tags.specs.declared.tile.Tile.{Tile}
use Rattle.best_fit.specs.FreeTree.{cells_of}
use Rattle.seg_types.specs.declared.kinds.ScalarKind.{ScalarKind}
use Rattle.seg_types.specs.declared.kinds.Kind.{Kind}
use Rattle.seg_types.specs.declared.kinds.ScalarKind.TheVariants.{U8}
use Rattle.seg_types.specs.declared.kinds.Kind.TheVariants.{Scalar, String, Vector, Map, Strings}
use Rattle.seg_types.specs.Kinds.{size_of, value_of}
use Rattle.image_check.specs.EarlyTests.{is_among}
use Rattle.image_check.specs.ObjectTests.{is_use, tile_of, good_for, leads_to, is_table_link, payload, index_capacity}
use Rattle.image_check.specs.ObjectTests.{object_tiles, value_offset, kind_at, are_spellings, rise_by}

-- ---- the fields with links to blocks

-- a link to a block of the right role: its offset, and the payload that it leads to
pub record Field : Type 0 where
  pub at : ℕ
  pub target : ℕ

abbrev pub field_at : Memory → List Tile → Role → ℕ → List Field
field_at m ts role at = elim (good_for ts role (link_at m at)) [
  | None ↦ []
  | Some t ↦ record { at = at; target = payload t } ∷ []
]

-- the link of an index whose capacity is above 0
abbrev pub index_field : Memory → List Tile → ℕ → List Field
index_field m ts at = if index_capacity m at == 0 then [] else field_at m ts Index at

-- the kinds and the offsets of the objects' values
abbrev pub values : ℕ → Memory → List Tile → List (Kind × ℕ)
values format m ts = filter_map (λ t.
    option_map (λ k. (k, value_offset m (payload t))) (kind_at format m (payload t))) (object_tiles ts)

abbrev pub has_storage : Kind → Bool
has_storage (Scalar k) = false
has_storage String = true
has_storage (Vector k) = true
has_storage (Map k v) = false
has_storage Strings = true

-- the storage link of a vector or text whose capacity is above 0
abbrev pub storage_field : Memory → List Tile → Kind × ℕ → List Field
storage_field m ts (k, at) = if has_storage k && nat_lt 0 (word_at m (at + 16)) then field_at m ts Storage at else []

-- the offsets of the first n elements of 16 bytes, from an offset on
abbrev pub element_offsets : ℕ → ℕ → List ℕ
element_offsets at n = map (λ i. at + 16 * i) (range_with_len 0 n)

-- the links of the elements of an array that a link leads to: the first `length` elements, but at most as many as its
-- payload holds
abbrev pub element_fields : Memory → List Tile → Kind × ℕ → List Field
element_fields m ts (Strings, at) = elim (storage_array m ts at) [
  | None ↦ []
  | Some t ↦ flat_map (field_at m ts Storage)
      (element_offsets (payload t) (min (word_at m (at + 8)) ((t.len - 16) / 16)))
]
  where
    storage_array : Memory → List Tile → ℕ → Option Tile
    storage_array m ts at = if word_at m (at + 16) == 0 then None else good_for ts Storage (link_at m at)
element_fields m ts (k, at) = []

-- the offset of the root link of a map
abbrev pub root_link : Kind × ℕ → List ℕ
root_link (Map k v, at) = at ∷ []
root_link (k, at) = []

-- The links of the second list that lead to nodes, and the links of the nodes behind them that lead to nodes. The links
-- of a node are visited when the node is first met; the first list contains the nodes met so far. At most this many
-- links are visited.
abbrev pub node_fields : ℕ → Memory → List Tile → List ℕ → List ℕ → List Field
node_fields zero m ts met links = []
node_fields (suc more) m ts met [] = []
node_fields (suc more) m ts met (at ∷ links) = elim (good_for ts Node (link_at m at)) [
  | None ↦ node_fields more m ts met links
  | Some t ↦
      let n = payload t in
      record { at = at; target = n }
      ∷ (if is_among met n then node_fields more m ts met links else node_fields more m ts (n ∷ met)
      (n ∷ (n + 8) ∷ links))
]

-- The fields that count. There is at most one root link for each object, and each node has two links.
abbrev pub counted_fields : ℕ → Memory → List Tile → List Field
counted_fields format m ts =
    index_field m ts 32 ++ index_field m ts 56 ++ flat_map (storage_field m ts) (values format m ts)
    ++ flat_map (element_fields m ts) (values format m ts)
    ++ node_fields (2 * length ts) m ts [] (flat_map root_link (values format m ts))

-- whether two different fields have one target
abbrev pub share_target : Field → Field → Bool
share_target f g = not (f.at == g.at) && (f.target == g.target)

abbrev pub share_some : List Field → Bool
share_some [] = false
share_some (f ∷ fs) = list_any (share_target f) fs || share_some fs

-- whether two fields that count lead to one block
abbrev pub is_shared : ℕ → Memory → List Tile → Bool
is_shared format m ts = share_some (counted_fields format m ts)

abbrev pub needs_owner : Tile → Bool
needs_owner t = is_use Index t || is_use Storage t || is_use Node t

abbrev pub leads_there : Tile → Field → Bool
leads_there t f = f.target == payload t

-- whether the tile needs an owner, and is the target of no field
abbrev pub is_left : List Field → Tile → Bool
is_left fields t = needs_owner t && not (list_any (leads_there t) fields)

abbrev pub leave_some : List Tile → List Field → Bool
leave_some ts fields = list_any (is_left fields) ts

-- whether there is a block that needs an owner, and no field that counts leads to it
abbrev pub is_orphaned : ℕ → Memory → List Tile → Bool
is_orphaned format m ts = leave_some ts (counted_fields format m ts)

-- ---- containers

-- whether a vector or string is valid
abbrev pub is_storage_at : Memory → List Tile → ScalarKind → ℕ → Bool
is_storage_at m ts k at =
    if nat_le (word_at m (at + 8)) (word_at m (at + 16))
    && is_table_link ts Storage (link_at m at) (size_of k) (word_at m (at + 16))
    then elim (link_at m at) [ None ↦ true | Some block ↦ are_spellings m k block (word_at m (at + 8)) ] else false

-- whether a node has room for its key and value, and both are valid
abbrev pub is_node_of : Memory → List Tile → ScalarKind → ScalarKind → ℕ → Bool
is_node_of m ts k v n = leads_to ts Node (Some n) (16 + size_of k + size_of v) && are_spellings m k (n + 16) 1
    && are_spellings m v (n + 16 + size_of k) 1

abbrev pub key_at : Memory → ScalarKind → ℕ → ℤ
key_at m k n = value_of k (little_number (size_of k) (read m (n + 16) (size_of k)))

-- whether the nodes behind the root link, in order, are the pairs of the map at an offset
abbrev pub are_pairs : Memory → List Tile → ScalarKind → ScalarKind → ℕ → List ℕ → Bool
are_pairs m ts k v at nodes =
    list_all (is_node_of m ts k v) nodes && rise_by (λ a b. int_lt (key_at m k a) (key_at m k b)) nodes
    && (word_at m (at + 8) == length nodes) && (word_at m (at + 16) == 0)

-- whether a map is valid
abbrev pub is_map_at : Memory → List Tile → ScalarKind → ScalarKind → ℕ → Bool
is_map_at m ts k v at = elim (tree_from (length ts) (λ n. is_some (tile_of ts Node n)) (cells_of m) (link_at m at)) [
  | None ↦ false
  | Some t ↦ is_red_black t && are_pairs m ts k v at (nodes_of t)
]

-- whether an element of a vector of texts links to a block with room for its bytes; null if it has no bytes
abbrev pub is_element_at : Memory → List Tile → ℕ → Bool
is_element_at m ts at = is_table_link ts Storage (link_at m at) 1 (word_at m (at + 8))

-- whether an array of texts is valid
abbrev pub is_array_at : Memory → List Tile → ℕ → Bool
is_array_at m ts at =
    if nat_le (word_at m (at + 8)) (word_at m (at + 16))
    && is_table_link ts Storage (link_at m at) 16 (word_at m (at + 16))
    then elim (link_at m at) [
      | None ↦ true
      | Some block ↦ list_all (is_element_at m ts) (element_offsets block (word_at m (at + 8)))
    ] else false

-- whether the value of an object is valid, if it is a container
abbrev pub is_container : Memory → List Tile → Kind × ℕ → Bool
is_container m ts (Scalar k, at) = true
is_container m ts (String, at) = is_storage_at m ts U8 at
is_container m ts (Vector k, at) = is_storage_at m ts k at
is_container m ts (Map k v, at) = is_map_at m ts k v at
is_container m ts (Strings, at) = is_array_at m ts at

-- whether each container is valid
abbrev pub has_containers : ℕ → Memory → List Tile → Bool
has_containers format m ts = list_all (is_container m ts) (values format m ts)
