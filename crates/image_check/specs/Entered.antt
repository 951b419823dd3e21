-- The objects with an entry in an index, by the map of owners during the check of the indexes.
use Rattle.std.specs.Prelude.{◌≡◌, ℕ, ◌+◌, ◌*◌, Bool, true, false, ◌&&◌, Option, Some, None, List, map, flat_map}
use Rattle.std.specs.Prelude.{option_to_list, is_some, is_none, nat_eq, if◌then◌else◌}
use Rattle.std.specs.List.{list_all, range_with_len}
use Rattle.std.specs.Map.{set_value}
use Rattle.raw_region.specs.Memory.{Memory}
use Rattle.offset_link.specs.Link.{link_at}
use Rattle.block_tags.specs.declared.tile.Role.TheVariants.{Object}
use Rattle.block_tags.specs.declared.tile.Tile.{Tile}
use Rattle.best_fit.specs.Table.{same_role}
use Rattle.image_check.specs.declared.owners.Block.{Block}
use Rattle.image_check.specs.declared.owners.Owner.{Owner}
use Rattle.image_check.specs.EarlyTests.{is_among}
use Rattle.image_check.specs.ObjectTests.{good_for, targets, has_index, are_distinct}
use Rattle.image_check.specs.Owners.{Blocks, AreBlocks, block_at, entry_in, frames, owner, owner_at}

-- the offset of the index's own link, for a block with an entry
abbrev pub root_in : Option Owner → Option ℕ
root_in None = None
root_in (Some o) = Some o.root

-- the index of the entry that leads to an object
abbrev pub index_of : Blocks → ℕ → Option ℕ
index_of es n = root_in (entry_in (block_at es n))

-- the index that lists a number, if the named index lists the first numbers and the unique index the second
abbrev pub listed : List ℕ → List ℕ → ℕ → Option ℕ
listed named unique n = if is_among named n then Some 32 else if is_among unique n then Some 56 else None

-- the objects with an entry are the targets of the indexes, and no object is a target of both
pub record AreEntered (m : Memory) (es : Blocks) : Type 0 where
  pub apart : (n : ℕ) → is_among (targets m 32) n ≡ true → is_among (targets m 56) n ≡ false
  pub at : (n : ℕ) → index_of es n ≡ listed (targets m 32) (targets m 56) n

-- the objects with an entry are these
abbrev pub HaveEntries : Blocks → List ℕ → Type 0
HaveEntries es xs = (n : ℕ) → is_some (index_of es n) ≡ is_among xs n

-- ---- one more entry

-- whether the block is an object without an entry
abbrev pub is_new_block : Block → Bool
is_new_block b = same_role b.role Object && is_none b.owner

-- whether there is such a block
abbrev pub is_new_in : Option Block → Bool
is_new_in None = false
is_new_in (Some b) = is_new_block b

-- whether the link leads to an object without an entry
abbrev pub can_enter : Blocks → Option ℕ → Bool
can_enter es None = false
can_enter es (Some n) = is_new_in (block_at es n)

-- the block with the entry at a place of the index whose own link is at a root
abbrev pub with_entry : Block → ℕ → ℕ → Block
with_entry b place root = record { role = b.role; len = b.len; owner = Some (owner place root); next = b.next }

-- the entry at a place of the index at a root is entered at the object of its link
pub record EntersLink (old new : Blocks) (link : Option ℕ) (place root : ℕ) : Type 0 where
  pub target : ℕ
  pub leads : link ≡ Some target
  pub block : Block
  pub is : block_at old target ≡ Some block
  pub new_block : is_new_block block ≡ true
  pub after : new ≡ set_value (nat_eq target) old (with_entry block place root)

-- ---- all entries of an index

-- whether these objects have no entry, and none is in the list twice
abbrev pub are_new : Blocks → List ℕ → Bool
are_new es xs = are_distinct xs && list_all (λ n. is_none (index_of es n)) xs

-- whether the links lead to objects without an entry, each to another
abbrev pub are_enterable : List Tile → Blocks → List (Option ℕ) → Bool
are_enterable ts es links = list_all (λ link. is_some (good_for ts Object link)) links
    && are_new es (flat_map option_to_list links)

-- the first n links of a block
abbrev pub links_in : Memory → ℕ → ℕ → List (Option ℕ)
links_in m block n = map (λ i. link_at m (block + 8 * i)) (range_with_len 0 n)

-- whether an index passes its test, and its entries lead to objects without an earlier entry
abbrev pub is_enterable : Memory → List Tile → Blocks → ℕ → Bool
is_enterable m ts es at = has_index m ts at && are_new es (targets m at)

-- a pass enters the entries of these objects in the index at a root, and changes nothing else
pub record EntersEntries (ts : List Tile) (old es : Blocks) (root : ℕ) (xs : List ℕ) : Type 0 where
  pub blocks : AreBlocks ts es
  pub frame : frames es ≡ frames old
  pub owners : (n : ℕ) → owner_at es n ≡ owner_at old n
  pub entered : (n : ℕ) → index_of es n ≡ (if is_among xs n then Some root else index_of old n)
