-- Bytes denote at most one directory: the one that is read from them.
use Rattle.image_check.proofs.Common.{AllByRecursion, BackingArray, Denotes, Directory, Extent, Index, IsObjectAt}
use Rattle.image_check.proofs.Common.{IsTrue, List, Memory, Rising, Row, Tile, [], and_parts, ap, arith, by_kind}
use Rattle.image_check.proofs.Common.{by_name, bytes_of, class_at, count_at, count_of, false≢true, filter, flat_map}
use Rattle.image_check.proofs.Common.{handle, has_backing, has_tags, is_object, kind_at, kind_of, lay_out_one, length}
use Rattle.image_check.proofs.Common.{live-rises, map, named_objects, object_len, object_tiles, padded, refl}
use Rattle.image_check.proofs.Common.{rising-weak, same_role, sorted, subst, sym, table_extents, tiles_of}
use Rattle.image_check.proofs.Common.{unique_objects, value_extents, value_offset, ℕ, ◌++◌, ◌+◌, ◌-◌, ◌∙◌, ◌∷◌, ◌≡◌}
use Rattle.image_check.proofs.Common.{◌≤◌}
use Rattle.std.proofs.Common.{length-append}
use Rattle.block_tags.specs.declared.tile.Role.TheVariants.{Object as ObjectRole}
use Rattle.best_fit.specs.Extents.{holds}
use Rattle.best_fit.specs.Heap.{live_of}
use Rattle.best_fit.proofs.Laws.{extents_of as used}
use Rattle.segment_manager.specs.Directory.{Object, extents_of, live}
use Rattle.segment_manager.proofs.Laws.{index-parts, live-extents, live-size, tables_of}
use Rattle.image_check.proofs.bytes.Numbers.{AreSmall}
use Rattle.image_check.proofs.frame.Tags.{has_tags-AreWholeTiles}
use Rattle.image_check.proofs.read_off.ObjectOrder.{extent_of, rises_from-Rising}
use Rattle.image_check.proofs.bytes.Members.{Mem, all_mem, list_all_mem, mem_all, mem_filter, mem_flat_map, mem_left}
use Rattle.image_check.proofs.bytes.Members.{mem_map, mem_of_filter, mem_of_flat_map, mem_of_map, mem_parts, mem_right}
use Rattle.image_check.proofs.block_collection.UsedTile.{mem-of-sorted, mem-sorted, rising-filter, rising-same}
use Rattle.image_check.proofs.block_collection.UsedTile.{same_role-is}
use Rattle.image_check.proofs.read_off.Directory.{class_from, kind_or_text, object_block, object_from, read_off}
use Rattle.image_check.proofs.read_off.Directory.{value_from}
use Rattle.image_check.proofs.read_off.Values.{table-read, value-read}
use Rattle.image_check.proofs.read_off.HeadWords.{AreWords, IsGoodObject, class-read, is_object-parts, object-words}
use Rattle.image_check.proofs.read_off.OwnBlocks.{IsOther, is_object_extent, member-length, object_blocks}
use Rattle.image_check.proofs.read_off.OwnBlocks.{sorted-length, table-other, used-length, value-other}
use mathlib.Core.Logic.{◌⊎◌, inl, inr}

-- ---- the tiles of bytes that denote a directory

-- all blocks that a directory names
abbrev pub all_extents : Directory → List Extent
all_extents d = flat_map extents_of d.objects ++ tables_of d

-- the tiles of the bytes
abbrev pub tiles_in : List ℕ → List Tile
tiles_in b = tiles_of (bytes_of b) (length b)

-- the facts about the tiles and the directory that reading needs
pub record IsRead (b : List ℕ) (d : Directory) : Type 0 where
  pub size : length b ≡ d.size
  pub extents : used (tiles_in b) ≡ sorted (all_extents d)
  pub tiles : Row 128 (tiles_in b) (length b - 16)
  pub rising : Rising 0 (used (tiles_in b))

-- bytes that denote the directory meet these facts
pub denotes-IsRead : (format : ℕ) (b : List ℕ) (d : Directory) → Denotes format b d → IsRead b d
unfolding live_of
denotes-IsRead format b d h =
    let e : live_of b ≡ live d = lay_out_one format b (live d) h.heap in
    let size : length b ≡ d.size = h.heap.size ∙ live-size d in
    let tags : IsTrue (has_tags format (bytes_of b) (length b)) =
    subst (λ n. IsTrue (has_tags format (bytes_of b) n)) (sym h.heap.size) h.heap.tiles.tags in
    record {
      size = size;
      extents = (λ i. (e i).extents) ∙ live-extents d;
      tiles = (has_tags-AreWholeTiles format (bytes_of b) (length b) tags).row;
      rising = rising-weak 0 128 (used (tiles_in b)) (omega arith)
          (subst (Rising 128) (sym (λ i. (e i).extents)) (live-rises (live d) h.directory.proper));
    }

module _ (format : ℕ) (b : List ℕ) (d : Directory) (s : AreSmall (bytes_of b)) (h : Denotes format b d) where
  pub in-use : (x : Extent) → Mem x (all_extents d) → Mem x (used (tiles_in b))
  in-use x k = subst (Mem x) (sym (denotes-IsRead format b d h).extents) (mem-sorted x (all_extents d) k)

  -- a block in use is a block of the directory
  pub from-use : (x : Extent) → Mem x (used (tiles_in b)) → Mem x (all_extents d)
  from-use x k = mem-of-sorted x (all_extents d) (subst (Mem x) (denotes-IsRead format b d h).extents k)

  -- the blocks of an object are in use
  pub object-in-use : (o : Object) → Mem o d.objects → (x : Extent) → Mem x (extents_of o) → Mem x (used (tiles_in b))
  object-in-use o k x l = in-use x
      (mem_left x (flat_map extents_of d.objects) (tables_of d) (mem_flat_map extents_of o x d.objects k l))

  -- an object of the directory is good
  pub good-object : (o : Object) → Mem o d.objects → IsGoodObject format o
  good-object o k = is_object-parts format o (list_all_mem (is_object format) d.objects o h.directory.objects k)

  -- memory has an object of the directory
  pub stands : (o : Object) → Mem o d.objects → IsObjectAt (bytes_of b) o
  stands o k = mem_all (IsObjectAt (bytes_of b)) d.objects o h.objects k

  -- memory has the words of an object
  pub words : (o : Object) → Mem o d.objects → AreWords format (bytes_of b) o
  words o k = object-words format (bytes_of b) o s (good-object o k) (stands o k)

  -- an object has at most as many blocks as there are tiles
  pub few : (o : Object) → Mem o d.objects → length (value_extents o.value) ≤ length (tiles_in b)
  few o k =
      let one = member-length o d.objects k in
      let all = length-append (flat_map extents_of d.objects) (tables_of d) in
      let same = ap length (denotes-IsRead format b d h).extents in
      let row = sorted-length (all_extents d) in
      let most = used-length (tiles_in b) in
      omega arith

  -- the blocks of a value are in use
  pub value-in-use : (o : Object) → Mem o d.objects
      → AllByRecursion (λ x. Mem x (used (tiles_in b))) (value_extents o.value)
  value-in-use o k = all_mem (λ x. Mem x (used (tiles_in b))) (value_extents o.value) (λ x l.
      object-in-use o k x (inr l))

  -- an object is read off its block
  pub object-read : (o : Object) → Mem o d.objects → object_from format (bytes_of b) (tiles_in b) o.extent ≡ o
  object-read o k =
      let m : Memory = bytes_of b in
      let ts : List Tile = tiles_in b in
      let w = words o k in
      let kind = w.kind in
      let count = w.count_word in
      let place = w.value_place in
      let class : class_from (class_at m (handle o.extent)) ≡ o.class =
      ap class_from w.class_word ∙ class-read o.class in
      let there : value_from m ts (kind_or_text (kind_at format m (handle o.extent))) (count_at m (handle o.extent))
      (value_offset m (handle o.extent))
      ≡ value_from m ts (kind_of o.value) (count_of o.value) (handle o.extent + 16 + padded (length o.name)) =
      λ i. value_from m ts (kind_or_text (kind i)) (count i) (place i) in
      let value = there ∙ value-read ts (length b - 16) (denotes-IsRead format b d h).tiles m
      (handle o.extent + 16 + padded (length o.name)) o.value (good-object o k).value (stands o k).value
      (value-in-use o k) (few o k) in
      let name = w.name in
      λ i. record { class = class i; name = name i; value = value i; extent = o.extent }

  objects-read : (os : List Object) → ((o : Object) → Mem o os → Mem o d.objects)
      → map (object_from format (bytes_of b) (tiles_in b)) (map extent_of os) ≡ os
  objects-read [] f = refl
  objects-read (o ∷ os) f =
      let first = object-read o (f o (inl refl)) in
      let rest = objects-read os (λ p k. f p (inr k)) in
      λ i. first i ∷ rest i

  table-members : (t : BackingArray) → ((x : Extent) → Mem x (table_extents t) → Mem x (tables_of d))
      → AllByRecursion (λ x. Mem x (used (tiles_in b))) (table_extents t)
  table-members t f = all_mem (λ x. Mem x (used (tiles_in b))) (table_extents t) (λ x k.
      in-use x (mem_right x (flat_map extents_of d.objects) (tables_of d) (f x k)))

  -- the block of the index of names is in use
  pub named-in-use : AllByRecursion (λ x. Mem x (used (tiles_in b))) (table_extents d.named)
  named-in-use = table-members d.named (λ x k. mem_left x (table_extents d.named) (table_extents d.unique) k)

  -- the block of the index of kinds is in use
  pub unique-in-use : AllByRecursion (λ x. Mem x (used (tiles_in b))) (table_extents d.unique)
  unique-in-use = table-members d.unique (λ x k. mem_right x (table_extents d.named) (table_extents d.unique) k)

  -- the index of names has the block that it needs
  pub named-table : IsTrue (has_backing Index 8 d.named)
  named-table = (index-parts d.named (named_objects d) by_name h.directory.named).0

  -- the index of kinds has the block that it needs
  pub unique-table : IsTrue (has_backing Index 8 d.unique)
  unique-table = (index-parts d.unique (unique_objects d) by_kind h.directory.unique).0

  -- ---- the blocks of objects are the tiles of objects

  object-kept : (o : Object) → Mem o d.objects → IsTrue (is_object_extent o.extent)
  object-kept o k =
      let r = same_role-is o.extent.role ObjectRole
      (and_parts (same_role o.extent.role ObjectRole) (holds o.extent (object_len o.name o.value))
      (good-object o k).serves).0 in
      ap (same_role ObjectRole) r

  not-other : (x : Extent) → IsTrue (is_object_extent x) → IsOther x → ⊥
  not-other x e f = false≢true (sym f ∙ e)

  block-of : (x : Extent) → IsTrue (is_object_extent x) → (o : Object) → Mem o d.objects → Mem x (extents_of o)
      → Mem x (map extent_of d.objects)
  block-of x e o k (inl f) = subst (λ y. Mem y (map extent_of d.objects)) (sym f) (mem_map extent_of o d.objects k)
  block-of x e o k (inr l) = absurd
      (not-other x e (mem_all IsOther (value_extents o.value) x (value-other o.value (good-object o k).value) l))

  tables-other : (x : Extent) → Mem x (table_extents d.named) ⊎ Mem x (table_extents d.unique) → IsOther x
  tables-other x (inl k) = mem_all IsOther (table_extents d.named) x (table-other Index 8 d.named refl named-table) k
  tables-other x (inr k) = mem_all IsOther (table_extents d.unique) x (table-other Index 8 d.unique refl unique-table) k

  object-block : (x : Extent) → IsTrue (is_object_extent x) → Mem x (flat_map extents_of d.objects)
      ⊎ Mem x (tables_of d) → Mem x (map extent_of d.objects)
  object-block x e (inl k) = let p = mem_of_flat_map extents_of x d.objects k in block-of x e p.one p.mem p.is
  object-block x e (inr k) = absurd
      (not-other x e (tables-other x (mem_parts x (table_extents d.named) (table_extents d.unique) k)))

  -- the objects' tiles are the directory's objects
  pub blocks-same : map object_block (object_tiles (tiles_in b)) ≡ map extent_of d.objects
  blocks-same =
      let xs : List Extent = used (tiles_in b) in
      object_blocks (tiles_in b)
      ∙ rising-same 0 (filter is_object_extent xs) (map extent_of d.objects)
      (rising-filter is_object_extent 0 xs (denotes-IsRead format b d h).rising)
      (rises_from-Rising 0 d.objects h.directory.by_offset)
      (λ x k.
      let f = mem_of_filter is_object_extent x xs k in
      object-block x f.is (mem_parts x (flat_map extents_of d.objects) (tables_of d) (from-use x f.mem)))
      (λ x k.
      let i = mem_of_map extent_of x d.objects k in
      subst (λ y. Mem y (filter is_object_extent xs)) (sym i.is)
      (mem_filter is_object_extent i.one.extent xs (object-in-use i.one i.mem i.one.extent (inl refl))
      (object-kept i.one i.mem)))

  -- ---- the whole directory

  pub read_off-is : read_off format b ≡ d
  unfolding read_off
  read_off-is =
      let m : Memory = bytes_of b in
      let ts : List Tile = tiles_in b in
      let r = denotes-IsRead format b d h in
      let size = r.size in
      let objects : map (object_from format m ts) (map object_block (object_tiles ts)) ≡ d.objects =
      ap (map (object_from format m ts)) blocks-same ∙ objects-read d.objects (λ o k. k) in
      let named = table-read ts (length b - 16) r.tiles m Index 8 32 d.named named-table named-in-use h.named.link
      h.named.capacity in
      let unique = table-read ts (length b - 16) r.tiles m Index 8 56 d.unique unique-table unique-in-use
      h.unique.link h.unique.capacity in
      λ i. record { size = size i; objects = objects i; named = named i; unique = unique i }

-- bytes denote one directory at most
pub only_one : (format : ℕ) (b : List ℕ) (d e : Directory) → AreSmall (bytes_of b) → Denotes format b d
    → Denotes format b e → d ≡ e
only_one format b d e s h k = sym (read_off-is format b d s h) ∙ read_off-is format b e s k
