-- The objects and indexes read from clean bytes pass their tests, their fields are the fields that count, and no block
-- is named twice.
use Rattle.image_check.proofs.Common.{BackingArray, Class, Extent, Index, IsTrue, Kind, List, Memory, Named, None}
use Rattle.image_check.proofs.Common.{Option, Rising, Role, Row, Some, Tile, Unique, [], and_parts, ap}
use Rattle.image_check.proofs.Common.{are_distinct, as_extent, by_kind, by_name, bytes_of, class_at, class_code}
use Rattle.image_check.proofs.Common.{code_at, cond-false, cond-true, counted_fields, eq-eqb, eqb-true, false, filter}
use Rattle.image_check.proofs.Common.{flat_map, handle, has_index, if◌then◌else◌, is_among, is_class, is_object_tile}
use Rattle.image_check.proofs.Common.{is_some, is_use, kind_at, kind_of, length, list_all, map, name_at, nat_lt}
use Rattle.image_check.proofs.Common.{needs_owner, object_tiles, payload, refl, rise_by, rises_from, subst, sym}
use Rattle.image_check.proofs.Common.{table_extents, targets, tile_of, true, true≢false, value_offset, values, ℕ, ◌&&◌}
use Rattle.image_check.proofs.Common.{◌++◌, ◌-◌, ◌==◌, ◌∙◌, ◌∷◌, ◌≡◌}
use Rattle.std.proofs.Common.{Bool}
use Rattle.std.specs.Prelude.{option_map}
use Rattle.std.specs.Cmp.Lexicographic.{slice_cmp}
use Rattle.std.specs.Ordering.{is_lt, nat_cmp}
use Rattle.block_tags.specs.declared.tile.Role.TheVariants.{Object as ObjectRole}
use Rattle.best_fit.proofs.Laws.{extents_of as used}
use Rattle.segment_manager.specs.Directory.{Object, extents_of}
use Rattle.segment_manager.proofs.Laws.{by_kind-strict, by_name-strict}
use Rattle.image_check.proofs.bytes.Numbers.{AreSmall}
use Rattle.image_check.proofs.read_off.ObjectOrder.{Rising-rises_from, extent_of}
use Rattle.image_check.proofs.bytes.Members.{Mem, is_among-Mem, list_all_mem, mem_all, mem_filter, mem_filter_map}
use Rattle.image_check.proofs.bytes.Members.{mem_map, mem_of_filter_map, mem_of_map, mem_parts}
use Rattle.image_check.proofs.block_collection.UsedTile.{rising-filter}
use Rattle.image_check.proofs.read_off.Directory.{object_block, object_from, table_at}
use Rattle.image_check.proofs.claims.ReachedLinks.{good_for-IsGood}
use Rattle.image_check.proofs.read_off.OwnBlocks.{IsOther, is_object_extent, object_blocks, table-other}
use Rattle.image_check.proofs.law.Uniqueness.{tiles_in}
use Rattle.image_check.proofs.frame.Formats.{IsFramed, framed-rising, framed-tiles}
use Rattle.image_check.proofs.indexes.Entries.{Distinct}
use Rattle.image_check.proofs.claims.Fields.{element-same, index-same, storage-same}
use Rattle.image_check.proofs.claims.TreeClaims.{some-tile}
use Rattle.image_check.proofs.claims.CountedClaims.{IsAmong, IsClaimed, claimed-counted, index_at}
use Rattle.image_check.proofs.claims.FieldPlaces.{ArePlaced}
use Rattle.image_check.proofs.claims.DisjointBlocks.{extents-once}
use Rattle.image_check.proofs.read_off.Objects.{IsSaid, tile-said}
use Rattle.image_check.proofs.indexes.ObjectOrder.{IsIndexSaid, IsListed, index-said, listed}
use Rattle.image_check.proofs.claims.UnsharedFields.{shared-not}
use Rattle.image_check.proofs.law.CleanTests.{IsLateClean}
use mathlib.Core.Logic.{inl, inr}

-- ---- tiles of objects

from-extents : (format : ℕ) (m : Memory) (ts : List Tile) (xs : List Extent)
    → map extent_of (map (object_from format m ts) xs) ≡ xs
from-extents format m ts [] = refl
from-extents format m ts (x ∷ xs) = ap (λ ys. x ∷ ys) (from-extents format m ts xs)

-- an extent whose tile needs no link is an object's
pub object-tile : (offset len : ℕ) (use_of : Option Role) (red : Bool) (x : Extent)
    → as_extent (record { offset = offset; len = len; use_of = use_of; red = red }) ≡ Some x
    → needs_owner (record { offset = offset; len = len; use_of = use_of; red = red }) ≡ false
    → IsTrue (is_use ObjectRole (record { offset = offset; len = len; use_of = use_of; red = red }))
    × (object_block (record { offset = offset; len = len; use_of = use_of; red = red }) ≡ x)
object-tile offset len None red x e n = absurd (cc)
object-tile offset len (Some ObjectRole) red x e n =
    (refl, some-extent (record { offset = offset; len = len; role = ObjectRole }) x e)
  where
    some-extent : (x y : Extent) → Some x ≡ Some y → x ≡ y
    some-extent x y e = cc
object-tile offset len (Some Index) red x e n = absurd (true≢false n)
object-tile offset len other red x e n = absurd (true≢false n)

some-same : {A : Type 0} (x y : A) → Some x ≡ Some y → x ≡ y
some-same x y e = cc

module _ (format : ℕ) (b : List ℕ) (s : AreSmall (bytes_of b)) (fr : IsFramed format b)
    (c : IsLateClean format (bytes_of b) (tiles_in b)) where
  abbrev m : Memory
  m = bytes_of b

  abbrev ts : List Tile
  ts = tiles_in b

  -- the tiles of the image are a row
  pub tiles : Row 128 (tiles_in b) (length b - 16)
  tiles = framed-tiles format b fr

  abbrev os : List Object
  os = map (object_from format m ts) (map object_block (object_tiles ts))

  abbrev named : BackingArray
  named = table_at m ts Index 32

  abbrev unique : BackingArray
  unique = table_at m ts Index 56

  abbrev less_name : ℕ → ℕ → Bool
  less_name x y = is_lt (slice_cmp nat_cmp (name_at m x) (name_at m y))

  abbrev less_kind : ℕ → ℕ → Bool
  less_kind x y = nat_lt (code_at m x) (code_at m y)

  -- ---- the parts of the test of objects

  record AreTested : Type 0 where
    each : IsTrue (list_all (is_object_tile format m) (object_tiles ts))
    named_class : IsTrue (list_all (λ at. class_at m at == 1) (targets m 32))
    unique_class : IsTrue (list_all (λ at. class_at m at == 2) (targets m 56))
    names : IsTrue (rise_by less_name (targets m 32))
    codes : IsTrue (rise_by less_kind (targets m 56))

  tests : AreTested
  tests =
      let p : Bool = list_all (is_object_tile format m) (object_tiles ts) in
      let q : Bool = list_all (λ at. class_at m at == 1) (targets m 32) in
      let r : Bool = list_all (λ at. class_at m at == 2) (targets m 56) in
      let t : Bool = rise_by less_name (targets m 32) in
      let four = and_parts (p && q && r && t) (rise_by less_kind (targets m 56)) c.objects in
      let three = and_parts (p && q && r) t four.0 in
      let two = and_parts (p && q) r three.0 in
      let one = and_parts p q two.0 in
      record { each = one.0; named_class = one.1; unique_class = two.1; names = three.1; codes = four.1 }

  -- ---- the objects

  record IsOfTile (o : Object) : Type 0 where
    tile : Tile
    mem : Mem tile (object_tiles ts)
    is : o ≡ object_from format m ts (object_block tile)

  of-tile : (o : Object) → Mem o os → IsOfTile o
  of-tile o k =
      let i = mem_of_map (object_from format m ts) o (map object_block (object_tiles ts)) k in
      let j = mem_of_map object_block i.one (object_tiles ts) i.mem in
      record { tile = j.one; mem = j.mem; is = i.is ∙ ap (object_from format m ts) j.is }

  -- the object in a tile is among the objects that are read
  pub of-object : (t : Tile) → Mem t (object_tiles ts) → Mem (object_from format m ts (object_block t)) os
  of-object t k = mem_map (object_from format m ts) (object_block t) (map object_block (object_tiles ts))
      (mem_map object_block t (object_tiles ts) k)

  said-tile : (t : Tile) → Mem t (object_tiles ts) → IsSaid format m ts (object_from format m ts (object_block t))
  said-tile t k = tile-said format m ts s t k
      (list_all_mem (is_object_tile format m) (object_tiles ts) t tests.each k) c.containers

  -- the bytes encode each object
  pub said : (o : Object) → Mem o os → IsSaid format m ts o
  said o k = let w = of-tile o k in subst (IsSaid format m ts) (sym w.is) (said-tile w.tile w.mem)

  -- the objects are in order of offset
  pub by_offset : IsTrue (rises_from 0 os)
  by_offset =
      let blocks : map extent_of os ≡ filter is_object_extent (used ts) =
      from-extents format m ts (map object_block (object_tiles ts)) ∙ object_blocks ts in
      Rising-rises_from 0 os (subst (Rising 0) (sym blocks)
      (rising-filter is_object_extent 0 (used ts) (framed-rising format b fr)))

  -- ---- the indexes

  index_parts : IsTrue (has_index m ts 32) × IsTrue (has_index m ts 56)
  index_parts =
      let two = and_parts (has_index m ts 32 && has_index m ts 56) (are_distinct (targets m 32 ++ targets m 56))
      c.indexes in
      and_parts (has_index m ts 32) (has_index m ts 56) two.0

  -- the bytes encode the index of names
  pub first_index : IsIndexSaid m ts 32
  first_index = index-said m ts 32 index_parts.0

  -- the bytes encode the index of kinds
  pub second_index : IsIndexSaid m ts 56
  second_index = index-said m ts 56 index_parts.1

  find-object : (x : ℕ) → IsTrue (is_some (tile_of ts ObjectRole x)) → (o : Object) × Mem o os × (handle o.extent ≡ x)
  find-object x h =
      let w = some-tile (tile_of ts ObjectRole x) h in
      let g = good_for-IsGood ts ObjectRole (Some x) w.0 w.1 in
      let k = mem_filter (is_use ObjectRole) w.0 ts g.mem g.use_of in
      (object_from format m ts (object_block w.0), of-object w.0 k, some-same (payload w.0) x (sym g.leads))

  class-of : (q : Class) (n : ℕ) (o : Object) → class_code q ≡ n → class_at m (handle o.extent) ≡ class_code o.class
      → IsTrue (class_at m (handle o.extent) == n) → IsTrue (is_class q o)
  class-of q n o e f h =
      let g = eqb-true (class_at m (handle o.extent)) n h in
      eq-eqb (class_code q) (class_code o.class) (e ∙ sym g ∙ f)

  among-named : (o : Object) → Mem o os → IsTrue (is_class Named o) → Mem (handle o.extent) (targets m 32)
  among-named o k e =
      let w = said o k in
      let one : class_at m (handle o.extent) ≡ 1 = w.class_is ∙ sym (eqb-true 1 (class_code o.class) e) in
      let test = eq-eqb (class_at m (handle o.extent)) 1 one in
      is_among-Mem (targets m 32) (handle o.extent)
      (sym (cond-true (class_at m (handle o.extent) == 1) (is_among (targets m 32) (handle o.extent))
      (if class_at m (handle o.extent) == 2 then is_among (targets m 56) (handle o.extent) else true) test) ∙ w.indexed)

  among-unique : (o : Object) → Mem o os → IsTrue (is_class Unique o) → Mem (handle o.extent) (targets m 56)
  among-unique o k e =
      let w = said o k in
      let two : class_at m (handle o.extent) ≡ 2 = w.class_is ∙ sym (eqb-true 2 (class_code o.class) e) in
      let other : (class_at m (handle o.extent) == 1) ≡ false = ap (λ n. n == 1) two in
      let test = eq-eqb (class_at m (handle o.extent)) 2 two in
      is_among-Mem (targets m 56) (handle o.extent)
      (sym (cond-true (class_at m (handle o.extent) == 2) (is_among (targets m 56) (handle o.extent)) true test)
      ∙ sym (cond-false (class_at m (handle o.extent) == 1) (is_among (targets m 32) (handle o.extent))
      (if class_at m (handle o.extent) == 2 then is_among (targets m 56) (handle o.extent) else true) other)
      ∙ w.indexed)

  -- the index of names lists its objects
  pub named_list : IsListed Named by_name os (targets m 32)
  named_list =
      listed Named by_name by_name-strict os (targets m 32) less_name by_offset
      (λ o p k l. λ i. is_lt (slice_cmp nat_cmp ((said o k).name_is i) ((said p l).name_is i)))
      (λ x h. find-object x (first_index.good x h))
      (λ o k h. class-of Named 1 o refl (said o k).class_is
      (list_all_mem (λ at. class_at m at == 1) (targets m 32) (handle o.extent) tests.named_class h))
      among-named tests.names

  -- the index of kinds lists its objects
  pub unique_list : IsListed Unique by_kind os (targets m 56)
  unique_list =
      listed Unique by_kind by_kind-strict os (targets m 56) less_kind by_offset
      (λ o p k l. λ i. nat_lt ((said o k).code i) ((said p l).code i))
      (λ x h. find-object x (second_index.good x h))
      (λ o k h. class-of Unique 2 o refl (said o k).class_is
      (list_all_mem (λ at. class_at m at == 2) (targets m 56) (handle o.extent) tests.unique_class h))
      among-unique tests.codes

  -- ---- the fields that count

  value-among : (t : Tile) → Mem t (object_tiles ts) → (p : Kind × ℕ)
      → option_map (λ k. (k, value_offset m (payload t))) (kind_at format m (payload t)) ≡ Some p → IsAmong os p
  value-among t k p e =
      let o : Object = object_from format m ts (object_block t) in
      let w = said-tile t k in
      let kind = w.kind in
      let place = w.place in
      let is : Some p ≡ Some (kind_of o.value, index_at o) =
      sym e ∙ (λ i. option_map (λ k. (k, sym place i)) (kind i)) in
      record { object = o; mem = of-object t k; is = some-same p (kind_of o.value, index_at o) is }

  value-has : (t : Tile) → Mem t (object_tiles ts)
      → Mem (
        kind_of (object_from format m ts (object_block t)).value,
        index_at (object_from format m ts (object_block t)),
      ) (values format m ts)
  value-has t k =
      let o : Object = object_from format m ts (object_block t) in
      let w = said-tile t k in
      let kind = w.kind in
      let place = w.place in
      mem_filter_map (λ (u : Tile). option_map (λ k.
      (k, value_offset m (payload u))) (kind_at format m (payload u))) t (
        kind_of o.value,
        index_at o,
      ) (object_tiles ts) k
      (λ i. option_map (λ k. (k, sym place i)) (kind i))

  -- the claims of the objects are the fields that count
  pub claimed : IsClaimed format m ts os named unique
  claimed = record {
    of = λ p k.
        (let w = mem_of_filter_map (λ (u : Tile).
        option_map (λ k. (k, value_offset m (payload u))) (kind_at format m (payload u))) p (object_tiles ts) k in
        value-among w.one w.mem p w.is);
    has = λ o k. (let w = of-tile o k
        in subst (λ (q : Object). Mem (kind_of q.value, index_at q) (values format m ts)) (sym w.is)
        (value-has w.tile w.mem));
    storage = λ o k. (let w = said o k
        in storage-same ts (length b - 16) tiles m o.value (index_at o) w.placed.good w.stands.value w.placed.extents);
    elements = λ o k. (let w = said o k
        in element-same ts (length b - 16) tiles m o.value (index_at o) w.placed.good w.stands.value w.placed.extents);
    tree = λ o k. (said o k).placed.tree;
    named_field = index-same ts (length b - 16) tiles m Index 8 32 named first_index.linked.table
        first_index.linked.mem first_index.linked.leads refl;
    unique_field = index-same ts (length b - 16) tiles m Index 8 56 unique second_index.linked.table
        second_index.linked.mem second_index.linked.leads refl;
  }

  -- ---- no block is named twice

  -- the block of an index is in use and no object's
  pub table-member : (x : Extent) → Mem x (table_extents named ++ table_extents unique) → Mem x (used ts) × IsOther x
  table-member x k = elim (mem_parts x (table_extents named) (table_extents unique) k) [
    | inl h ↦ (
      mem_all (λ y. Mem y (used ts)) (table_extents named) x first_index.linked.mem h,
      mem_all IsOther (table_extents named) x (table-other Index 8 named refl first_index.linked.table) h,
    )
    | inr h ↦ (
      mem_all (λ y. Mem y (used ts)) (table_extents unique) x second_index.linked.mem h,
      mem_all IsOther (table_extents unique) x (table-other Index 8 unique refl second_index.linked.table) h,
    )
  ]

  placed : ArePlaced m ts os named unique
  placed = record {
    objects = λ o k. (said o k).placed;
    by_offset = by_offset;
    tables = table-member;
    unshared = record {
      one = λ f g h k e.
          shared-not (counted_fields format m ts) f g c.unshared
          (claimed-counted format m ts os named unique claimed f h)
          (claimed-counted format m ts os named unique claimed g k) e;
    };
  }

  abbrev extents : List Extent
  extents = flat_map extents_of os ++ (table_extents named ++ table_extents unique)

  -- no block is named twice
  pub once : Distinct (map handle (flat_map extents_of os ++ (table_extents named ++ table_extents unique)))
  once = extents-once ts (length b - 16) tiles m os named unique placed
