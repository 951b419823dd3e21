-- The indexes and objects of a denoted directory pass their tests.
use Rattle.image_check.proofs.Common.{AllByRecursion, Anonymous, BackingArray, Class, Denotes, Directory, Extent}
use Rattle.image_check.proofs.Common.{HasBytesAt, Index, IsRanked, IsTrue, Kind, List, Memory, Named, None, Row, Some}
use Rattle.image_check.proofs.Common.{Tile, Unique, [], and_from, and_parts, ap, are_distinct, arith, by_kind, by_name}
use Rattle.image_check.proofs.Common.{bytes_of, class_at, class_code, code_at, count_at, count_of, entries, eq-eqb}
use Rattle.image_check.proofs.Common.{false, false≢true, good_for, handle, has_backing, has_containers, has_index}
use Rattle.image_check.proofs.Common.{has_indexes, has_name, has_objects, has_padding, if◌then◌else◌, index_capacity}
use Rattle.image_check.proofs.Common.{is_among, is_class, is_container, is_indexed, is_name, is_object_tile, is_some}
use Rattle.image_check.proofs.Common.{is_table_link, is_value_in, is_zero, kind_at, kind_of, le-leb, leb-true, length}
use Rattle.image_check.proofs.Common.{length-map, length-replicate, link_at, list_all, map, name_at, named_objects}
use Rattle.image_check.proofs.Common.{nat_le, nat_lt, object_len, object_tiles, padded, payload, read, refl, rise_by}
use Rattle.image_check.proofs.Common.{rises, same_role, subst, suc, sym, table_extents, targets, tile_of, true}
use Rattle.image_check.proofs.Common.{unique_objects, value_offset, values, zero, ℕ, ◌&&◌, ◌++◌, ◌+◌, ◌-◌, ◌==◌, ◌∙◌}
use Rattle.image_check.proofs.Common.{◌∷◌, ◌≡◌, ◌≤◌}
use Rattle.std.proofs.Common.{Bool}
use Rattle.std.specs.Prelude.{option_map, replicate}
use Rattle.std.specs.Cmp.Lexicographic.{slice_cmp}
use Rattle.std.specs.Ordering.{is_lt, nat_cmp}
use Rattle.raw_region.specs.Memory.{word_at}
use Rattle.block_tags.specs.declared.tile.Role.TheVariants.{Object as ObjectRole}
use Rattle.best_fit.specs.Extents.{holds}
use Rattle.best_fit.proofs.Laws.{extents_of as used}
use Rattle.seg_index.specs.Index.{IsIndexAt}
use Rattle.segment_manager.specs.Directory.{Object}
use Rattle.segment_manager.specs.Denotes.{handles}
use Rattle.segment_manager.proofs.Laws.{Pairwise, by_kind-strict, by_name-strict, good_name-short, index-parts}
use Rattle.segment_manager.proofs.Laws.{rises-pairwise}
use Rattle.image_check.proofs.bytes.Numbers.{AreSmall}
use Rattle.image_check.proofs.read_off.ObjectOrder.{extent_of}
use Rattle.image_check.proofs.bytes.Members.{Image, Kept, Mem, Mem-is_among, list_all_from, mem_all, mem_filter_map}
use Rattle.image_check.proofs.bytes.Members.{mem_map, mem_of_filter_map, mem_of_map}
use Rattle.image_check.proofs.block_collection.UsedTile.{Stands, used-IsMember}
use Rattle.image_check.proofs.read_off.Directory.{object_block}
use Rattle.image_check.proofs.read_off.Values.{HasBytesAt-behind}
use Rattle.image_check.proofs.law.Uniqueness.{blocks-same, denotes-IsRead, few, good-object, named-in-use, named-table}
use Rattle.image_check.proofs.law.Uniqueness.{object-in-use, stands, tiles_in, unique-in-use, unique-table}
use Rattle.image_check.proofs.law.Uniqueness.{value-in-use, words}
use Rattle.image_check.proofs.read_off.GoodValues.{container-passes, guarded, link-passes, value_in-passes}
use Rattle.image_check.proofs.indexes.Entries.{Distinct, distinct-append, distinct-passes, entries-are, mem-of-ordered}
use Rattle.image_check.proofs.indexes.Entries.{mem-ordered, not-itself, one_object, targets-are}
use mathlib.Core.Logic.{inl, inr}

-- ---- tests of one object

name-if : (format : ℕ) (c : Class) (name : List ℕ) → length name ≤ 255
    → IsTrue (if 1 == class_code c then is_name format name else length name == 0)
    → IsTrue (if class_code c == 1 then (if nat_le (length name) 255 then is_name format name else false) else
    nat_le (class_code c) 2 && (length name == 0))
name-if format Anonymous name l h = h
name-if format Named name l h = guarded (nat_le (length name) 255) (is_name format name) (le-leb (length name) 255 l) h
name-if format Unique name l h = h

zeros-pass : (n : ℕ) → IsTrue (is_zero (replicate n 0))
zeros-pass zero = refl
zeros-pass (suc n) = zeros-pass n

indexed-if : (c : Class) (p q : Bool) → (c ≡ Named → IsTrue p) → (c ≡ Unique → IsTrue q)
    → IsTrue (if class_code c == 1 then p else if class_code c == 2 then q else true)
indexed-if Anonymous p q f g = refl
indexed-if Named p q f g = f refl
indexed-if Unique p q f g = g refl

class-same : (c e : Class) → IsTrue (class_code c == class_code e) → e ≡ c
class-same Anonymous Anonymous h = refl
class-same Named Named h = refl
class-same Unique Unique h = refl
class-same c e h = absurd (false≢true h)

-- the test of an object, by its place and its end
abbrev object_test : ℕ → Memory → ℕ → ℕ → Bool
object_test format m at end =
    if has_name format m at then
    elim (kind_at format m at) [ None ↦ false | Some k ↦ is_value_in m k (count_at m at) (value_offset m at) end ]
    && has_padding m at && is_indexed m at
    else false

module _ (format : ℕ) (b : List ℕ) (d : Directory) (s : AreSmall (bytes_of b)) (h : Denotes format b d) where
  tiles : Row 128 (tiles_in b) (length b - 16)
  tiles = (denotes-IsRead format b d h).tiles

  -- ---- class 8

  named-length : length (handles (named_objects d)) ≤ d.named.capacity
  named-length =
      let l = (index-parts d.named (named_objects d) by_name h.directory.named).1 in
      let e = length-map (named_objects d) (λ (o : Object). handle o.extent) in
      omega arith

  unique-length : length (handles (unique_objects d)) ≤ d.unique.capacity
  unique-length =
      let l = (index-parts d.unique (unique_objects d) by_kind h.directory.unique).1 in
      let e = length-map (unique_objects d) (λ (o : Object). handle o.extent) in
      omega arith

  pub named-targets : targets (bytes_of b) 32 ≡ handles (named_objects d)
  named-targets = targets-are (bytes_of b) 32 d.named (handles (named_objects d)) (named-table format b d s h)
      named-length h.named

  pub unique-targets : targets (bytes_of b) 56 ≡ handles (unique_objects d)
  unique-targets = targets-are (bytes_of b) 56 d.unique (handles (unique_objects d)) (unique-table format b d s h)
      unique-length h.unique

  -- the tile of an object is found at its handle
  pub object-stands : (o : Object) → Mem o d.objects → Stands (tiles_in b) ObjectRole o.extent
  object-stands o k =
      used-IsMember 128 (tiles_in b) (length b - 16) ObjectRole o.extent tiles
      (object-in-use format b d s h o k o.extent (inl refl))
      (and_parts (same_role o.extent.role ObjectRole) (holds o.extent (object_len o.name o.value))
      (good-object format b d s h o k).serves).0

  handles-good : (os : List Object) → ((o : Object) → Mem o os → Mem o d.objects)
      → IsTrue (list_all (λ link. is_some (good_for (tiles_in b) ObjectRole link)) (map Some (handles os)))
  handles-good [] f = refl
  handles-good (o ∷ os) f =
      and_from (is_some (tile_of (tiles_in b) ObjectRole (handle o.extent)))
      (list_all (λ link. is_some (good_for (tiles_in b) ObjectRole link)) (map Some (handles os)))
      (ap is_some (object-stands o (f o (inl refl))).found) (handles-good os (λ p k. f p (inr k)))

  index-passes : (at : ℕ) (t : BackingArray) (os : List Object) → IsTrue (has_backing Index 8 t)
      → AllByRecursion (λ x. Mem x (used (tiles_in b))) (table_extents t) → length (handles os) ≤ t.capacity
      → IsIndexAt (bytes_of b) at t (handles os) → ((o : Object) → Mem o os → Mem o d.objects)
      → IsTrue (has_index (bytes_of b) (tiles_in b) at)
  index-passes at t os k mem l i f =
      let m : Memory = bytes_of b in
      let ts : List Tile = tiles_in b in
      let count = i.count in
      let places = i.capacity in
      guarded (nat_le (word_at m (at + 8)) (index_capacity m at)
      && is_table_link ts Index (link_at m at) 8 (index_capacity m at))
      (list_all (λ link. is_some (good_for ts ObjectRole link)) (entries m at))
      (and_from (nat_le (word_at m (at + 8)) (index_capacity m at))
      (is_table_link ts Index (link_at m at) 8 (index_capacity m at))
      (le-leb (word_at m (at + 8)) (index_capacity m at) (omega arith))
      (link-passes ts (length b - 16) tiles Index 8 t (link_at m at) (index_capacity m at) k mem i.link places))
      (ap (list_all (λ link. is_some (good_for ts ObjectRole link))) (entries-are m at t (handles os) k l i)
      ∙ handles-good os f)

  pub named-of : (o : Object) → Mem o (named_objects d) → Kept (is_class Named) d.objects o
  named-of o k = mem-of-ordered Named by_name d.objects o k

  pub unique-of : (o : Object) → Mem o (unique_objects d) → Kept (is_class Unique) d.objects o
  unique-of o k = mem-of-ordered Unique by_kind d.objects o k

  same-object : (o p : Object) → Mem o d.objects → Mem p d.objects → handle o.extent ≡ handle p.extent → o ≡ p
  same-object o p k l e = one_object 0 d.objects o p h.directory.by_offset k l (omega arith)

  order-distinct : (lt : Object → Object → Bool) (os : List Object) → Pairwise lt os
      → ((o : Object) → Mem o os → Mem o d.objects) → Distinct (handles os)
  order-distinct lt [] r f = tt
  order-distinct lt (o ∷ os) r f = (
    λ y k e.
        let i = mem_of_map (λ (p : Object). handle p.extent) y os k in
        not-itself lt o i.one (mem_all (IsRanked lt o) os i.one r.0 i.mem)
        (same-object o i.one (f o (inl refl)) (f i.one (inr i.mem)) (e ∙ i.is)),
    order-distinct lt os r.1 (λ p k. f p (inr k)),
  )

  named-rises : IsTrue (rises by_name (named_objects d))
  named-rises = (index-parts d.named (named_objects d) by_name h.directory.named).2

  unique-rises : IsTrue (rises by_kind (unique_objects d))
  unique-rises = (index-parts d.unique (unique_objects d) by_kind h.directory.unique).2

  two-classes : (o : Object) → IsTrue (is_class Named o) → IsTrue (is_class Unique o) → ⊥
  two-classes o e f =
      let a = class-same Named o.class e in
      let g : IsTrue (class_code Unique == class_code Named) =
      subst (λ c. IsTrue (class_code Unique == class_code c)) a f in
      false≢true g

  all-distinct : Distinct (handles (named_objects d) ++ handles (unique_objects d))
  all-distinct =
      distinct-append (handles (named_objects d)) (handles (unique_objects d))
      (order-distinct by_name (named_objects d)
      (rises-pairwise by_name by_name-strict (named_objects d) named-rises) (λ o k. (named-of o k).mem))
      (order-distinct by_kind (unique_objects d)
      (rises-pairwise by_kind by_kind-strict (unique_objects d) unique-rises) (λ o k. (unique-of o k).mem))
      (λ x y k l e.
      let i = mem_of_map (λ (p : Object). handle p.extent) x (named_objects d) k in
      let j = mem_of_map (λ (p : Object). handle p.extent) y (unique_objects d) l in
      let n = named-of i.one i.mem in
      let u = unique-of j.one j.mem in
      let same = same-object i.one j.one n.mem u.mem (sym i.is ∙ e ∙ j.is) in
      two-classes j.one (ap (is_class Named) (sym same) ∙ n.is) u.is)

  -- both indexes pass their test
  pub indexes-pass : IsTrue (has_indexes (bytes_of b) (tiles_in b))
  indexes-pass =
      let m : Memory = bytes_of b in
      let ts : List Tile = tiles_in b in
      and_from (has_index m ts 32 && has_index m ts 56) (are_distinct (targets m 32 ++ targets m 56))
      (and_from (has_index m ts 32) (has_index m ts 56)
      (index-passes 32 d.named (named_objects d) (named-table format b d s h) (named-in-use format b d s h)
      named-length h.named (λ o k. (named-of o k).mem))
      (index-passes 56 d.unique (unique_objects d) (unique-table format b d s h) (unique-in-use format b d s h)
      unique-length h.unique (λ o k. (unique-of o k).mem)))
      ((λ i. are_distinct (named-targets i ++ unique-targets i))
      ∙ distinct-passes (handles (named_objects d) ++ handles (unique_objects d)) all-distinct)

  -- ---- class 9

  name-passes : (o : Object) → Mem o d.objects → IsTrue (has_name format (bytes_of b) (handle o.extent))
  name-passes o k =
      let w = words format b d s h o k in
      let g = good-object format b d s h o k in
      let class = w.class_word in
      let len = w.name_word in
      let name = w.name in
      (λ i. if class i == 1 then (if nat_le (len i) 255 then is_name format (name i) else false) else nat_le
      (class i) 2 && (len i == 0))
      ∙ name-if format o.class o.name (good_name-short format o g.name) g.name

  padding-passes : (o : Object) → Mem o d.objects → IsTrue (has_padding (bytes_of b) (handle o.extent))
  padding-passes o k =
      let m : Memory = bytes_of b in
      let w = words format b d s h o k in
      let n : ℕ = padded (length o.name) - length o.name in
      let at : ℕ = handle o.extent + 16 + length o.name in
      let z : HasBytesAt m at (replicate n 0) =
      HasBytesAt-behind m (handle o.extent + 16) o.name (replicate n 0) (stands format b d s h o k).name in
      let bytes : read m at n ≡ replicate n 0 = ap (read m at) (sym (length-replicate n 0)) ∙ z in
      let len = w.name_word in
      (λ i. is_zero (read m (handle o.extent + 16 + len i) (padded (len i) - len i))) ∙ ap is_zero bytes ∙ zeros-pass n

  indexed-passes : (o : Object) → Mem o d.objects → IsTrue (is_indexed (bytes_of b) (handle o.extent))
  indexed-passes o k =
      let m : Memory = bytes_of b in
      let at : ℕ = handle o.extent in
      let class = (words format b d s h o k).class_word in
      (λ i. if class i == 1 then is_among (targets m 32) at else if class i == 2 then is_among (targets m 56) at
      else true)
      ∙ indexed-if o.class (is_among (targets m 32) at) (is_among (targets m 56) at)
      (λ e. ap (λ ts. is_among ts at) named-targets
      ∙ Mem-is_among (handles (named_objects d)) at
      (mem_map (λ (p : Object). handle p.extent) o (named_objects d)
      (mem-ordered Named by_name d.objects o k (ap (λ c. class_code Named == class_code c) e))))
      (λ e. ap (λ ts. is_among ts at) unique-targets
      ∙ Mem-is_among (handles (unique_objects d)) at
      (mem_map (λ (p : Object). handle p.extent) o (unique_objects d)
      (mem-ordered Unique by_kind d.objects o k (ap (λ c. class_code Unique == class_code c) e))))

  value-passes : (o : Object) → Mem o d.objects
      → IsTrue (is_value_in (bytes_of b) (kind_of o.value) (count_of o.value)
      (handle o.extent + 16 + padded (length o.name)) (o.extent.offset + o.extent.len))
  value-passes o k =
      let g = good-object format b d s h o k in
      let room = leb-true (object_len o.name o.value + 16) o.extent.len
      (and_parts (same_role o.extent.role ObjectRole) (holds o.extent (object_len o.name o.value)) g.serves).1 in
      value_in-passes (bytes_of b) (handle o.extent + 16 + padded (length o.name)) (o.extent.offset + o.extent.len)
      o.value g.value (stands format b d s h o k).value (omega arith)

  test-passes : (o : Object) → Mem o d.objects
      → IsTrue (object_test format (bytes_of b) (handle o.extent) (o.extent.offset + o.extent.len))
  test-passes o k =
      let m : Memory = bytes_of b in
      let at : ℕ = handle o.extent in
      let end : ℕ = o.extent.offset + o.extent.len in
      let w = words format b d s h o k in
      let kind = w.kind in
      let count = w.count_word in
      let place = w.value_place in
      let value : IsTrue (elim (kind_at format m at) [
        | None ↦ false
        | Some k ↦ is_value_in m k (count_at m at) (value_offset m at) end
      ]) =
      (λ i. elim (kind i) [ None ↦ false | Some k ↦ is_value_in m k (count i) (place i) end ]) ∙ value-passes o k in
      guarded (has_name format m at)
      (elim (kind_at format m at) [
        | None ↦ false
        | Some k ↦ is_value_in m k (count_at m at) (value_offset m at) end
      ] && has_padding m at && is_indexed m at)
      (name-passes o k)
      (and_from (elim (kind_at format m at) [
        | None ↦ false
        | Some k ↦ is_value_in m k (count_at m at) (value_offset m at) end
      ] && has_padding m at) (is_indexed m at)
      (and_from (elim (kind_at format m at) [
        | None ↦ false
        | Some k ↦ is_value_in m k (count_at m at) (value_offset m at) end
      ]) (has_padding m at) value (padding-passes o k))
      (indexed-passes o k))

  -- the object of a tile
  pub object_of-tile : (t : Tile) → Mem t (object_tiles (tiles_in b)) → Image extent_of d.objects (object_block t)
  object_of-tile t k = mem_of_map extent_of (object_block t) d.objects
      (subst (Mem (object_block t)) (blocks-same format b d s h) (mem_map object_block t (object_tiles (tiles_in b)) k))

  tile-passes : (t : Tile) → Mem t (object_tiles (tiles_in b)) → IsTrue (is_object_tile format (bytes_of b) t)
  tile-passes t k =
      let i = object_of-tile t k in
      subst (λ (x : Extent). IsTrue (object_test format (bytes_of b) (handle x) (x.offset + x.len))) (sym i.is)
      (test-passes i.one i.mem)

  classes-pass : (c : Class) (n : ℕ) (os : List Object) → class_code c ≡ n
      → ((o : Object) → Mem o os → Kept (is_class c) d.objects o)
      → IsTrue (list_all (λ at. class_at (bytes_of b) at == n) (handles os))
  classes-pass c n [] e f = refl
  classes-pass c n (o ∷ os) e f =
      let k = f o (inl refl) in
      let w = (words format b d s h o k.mem).class_word in
      let same = class-same c o.class k.is in
      and_from (class_at (bytes_of b) (handle o.extent) == n)
      (list_all (λ at. class_at (bytes_of b) at == n) (handles os))
      (eq-eqb (class_at (bytes_of b) (handle o.extent)) n (w ∙ ap class_code same ∙ e))
      (classes-pass c n os e (λ p l. f p (inr l)))

  handles-rise : (lt : Object → Object → Bool) (less : ℕ → ℕ → Bool)
      → ((o p : Object) → Mem o d.objects → Mem p d.objects → less (handle o.extent) (handle p.extent) ≡ lt o p)
      → (os : List Object) → ((o : Object) → Mem o os → Mem o d.objects) → IsTrue (rises lt os)
      → IsTrue (rise_by less (handles os))
  handles-rise lt less same [] f r = refl
  handles-rise lt less same (o ∷ []) f r = refl
  handles-rise lt less same (o ∷ p ∷ os) f r =
      let parts = and_parts (lt o p) (rises lt (p ∷ os)) r in
      and_from (less (handle o.extent) (handle p.extent)) (rise_by less (handles (p ∷ os)))
      (same o p (f o (inl refl)) (f p (inr (inl refl)))
      ∙ parts.0) (handles-rise lt less same (p ∷ os) (λ q k. f q (inr k)) parts.1)

  -- all objects pass their test
  pub objects-pass : IsTrue (has_objects format (bytes_of b) (tiles_in b))
  objects-pass =
      let m : Memory = bytes_of b in
      let ts : List Tile = tiles_in b in
      let less_name : ℕ → ℕ → Bool = λ x y. is_lt (slice_cmp nat_cmp (name_at m x) (name_at m y)) in
      let less_kind : ℕ → ℕ → Bool = λ x y. nat_lt (code_at m x) (code_at m y) in
      let all = list_all_from (is_object_tile format m) (object_tiles ts) tile-passes in
      let named = ap (list_all (λ at. class_at m at == 1)) named-targets
      ∙ classes-pass Named 1 (named_objects d) refl named-of in
      let unique = ap (list_all (λ at. class_at m at == 2)) unique-targets
      ∙ classes-pass Unique 2 (unique_objects d) refl unique-of in
      let names = ap (rise_by less_name) named-targets
      ∙ handles-rise by_name less_name (λ o p k l. λ i.
      is_lt (slice_cmp nat_cmp ((words format b d s h o k).name i) ((words format b d s h p l).name i)))
      (named_objects d) (λ o k. (named-of o k).mem) named-rises in
      let kinds = ap (rise_by less_kind) unique-targets
      ∙ handles-rise by_kind less_kind (λ o p k l. λ i.
      nat_lt ((words format b d s h o k).kind_word i) ((words format b d s h p l).kind_word i)) (unique_objects d)
      (λ o k. (unique-of o k).mem) unique-rises in
      and_from
      (list_all (is_object_tile format m) (object_tiles ts) && list_all (λ at. class_at m at == 1) (targets m 32)
      && list_all (λ at. class_at m at == 2) (targets m 56)
      && rise_by less_name (targets m 32)) (rise_by less_kind (targets m 56))
      (and_from
      (list_all (is_object_tile format m) (object_tiles ts) && list_all (λ at. class_at m at == 1) (targets m 32)
      && list_all (λ at. class_at m at == 2) (targets m 56))
      (rise_by less_name (targets m 32))
      (and_from (list_all (is_object_tile format m) (object_tiles ts)
      && list_all (λ at. class_at m at == 1) (targets m 32)) (list_all (λ at. class_at m at == 2) (targets m 56))
      (and_from (list_all (is_object_tile format m) (object_tiles ts))
      (list_all (λ at. class_at m at == 1) (targets m 32)) all named) unique) names) kinds

  -- ---- the values

  -- the offset of an object's value
  pub value_place : Object → ℕ
  value_place o = handle o.extent + 16 + padded (length o.name)

  pub record IsValueOf (p : Kind × ℕ) : Type 0 where
    pub object : Object
    pub mem : Mem object d.objects
    pub is : p ≡ (kind_of object.value, handle object.extent + 16 + padded (length object.name))

  value-of : (t : Tile) → Mem t (object_tiles (tiles_in b)) → (p : Kind × ℕ)
      → option_map (λ k. (k, value_offset (bytes_of b) (payload t))) (kind_at format (bytes_of b) (payload t))
      ≡ Some p → IsValueOf p
  value-of t k p e =
      let i = object_of-tile t k in
      let w = words format b d s h i.one i.mem in
      let kind = w.kind in
      let place = w.value_place in
      let there : payload t ≡ handle i.one.extent = ap handle i.is in
      let said : option_map (λ k. (k, value_offset (bytes_of b) (payload t))) (kind_at format (bytes_of b) (payload t))
      ≡ option_map (λ k. (k, value_offset (bytes_of b) (handle i.one.extent)))
      (kind_at format (bytes_of b) (handle i.one.extent)) =
      ap (λ at. option_map (λ k. (k, value_offset (bytes_of b) at)) (kind_at format (bytes_of b) at)) there in
      let there2 : option_map (λ k. (k, value_offset (bytes_of b) (handle i.one.extent)))
      (kind_at format (bytes_of b) (handle i.one.extent))
      ≡ Some (kind_of i.one.value, handle i.one.extent + 16 + padded (length i.one.name)) =
      λ j. option_map (λ k. (k, place j)) (kind j) in
      let same : Some p ≡ Some (kind_of i.one.value, handle i.one.extent + 16 + padded (length i.one.name)) =
      sym e ∙ said ∙ there2 in
      record {
        object = i.one;
        mem = i.mem;
        is = some-same p (kind_of i.one.value, handle i.one.extent + 16 + padded (length i.one.name)) same;
      }
    where
      some-same : (p q : Kind × ℕ) → Some p ≡ Some q → p ≡ q
      some-same p q e = cc

  -- each value is that of an object
  pub values-of : (p : Kind × ℕ) → Mem p (values format (bytes_of b) (tiles_in b)) → IsValueOf p
  values-of p k =
      let c = mem_of_filter_map (λ t.
      option_map (λ k. (k, value_offset (bytes_of b) (payload t))) (kind_at format (bytes_of b) (payload t))) p
      (object_tiles (tiles_in b)) k in
      value-of c.one c.mem p c.is

  -- and the value of each object is one of the values
  pub values-has : (o : Object) → Mem o d.objects
      → Mem (kind_of o.value, handle o.extent + 16 + padded (length o.name)) (values format (bytes_of b) (tiles_in b))
  values-has o k =
      let w = words format b d s h o k in
      let kind = w.kind in
      let place = w.value_place in
      let there : Mem o.extent (map object_block (object_tiles (tiles_in b))) =
      subst (Mem o.extent) (sym (blocks-same format b d s h)) (mem_map extent_of o d.objects k) in
      let i = mem_of_map object_block o.extent (object_tiles (tiles_in b)) there in
      let at : payload i.one ≡ handle o.extent = ap handle (sym i.is) in
      mem_filter_map (λ t. option_map (λ k.
      (k, value_offset (bytes_of b) (payload t))) (kind_at format (bytes_of b) (payload t))) i.one
      (kind_of o.value, handle o.extent + 16 + padded (length o.name)) (object_tiles (tiles_in b)) i.mem
      (ap (λ x. option_map (λ k. (k, value_offset (bytes_of b) x)) (kind_at format (bytes_of b) x)) at
      ∙ (λ j. option_map (λ k. (k, place j)) (kind j)))

  -- ---- class 11

  -- all containers pass their test
  pub containers-pass : IsTrue (has_containers format (bytes_of b) (tiles_in b))
  containers-pass =
      list_all_from (is_container (bytes_of b) (tiles_in b)) (values format (bytes_of b) (tiles_in b)) (λ p k.
      let v = values-of p k in
      let o = v.object in
      subst (λ q. IsTrue (is_container (bytes_of b) (tiles_in b) q)) (sym v.is)
      (container-passes (tiles_in b) (length b - 16) tiles (bytes_of b)
      (handle o.extent + 16 + padded (length o.name)) o.value s (good-object format b d s h o v.mem).value
      (stands format b d s h o v.mem).value (value-in-use format b d s h o v.mem) (few format b d s h o v.mem)))
