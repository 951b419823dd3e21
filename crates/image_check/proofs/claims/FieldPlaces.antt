-- The places of a value's fields: in its own place, in its array, or in a node of its tree; and the tiles that contain
-- them.
use Rattle.image_check.proofs.Common.{AllByRecursion, AllByRecursion-front, BackingArray, Bytes, Elements, Extent}
use Rattle.image_check.proofs.Common.{Field, IsTrue, List, Memory, Node, None, NumberPair, Numbers, Option, OwnedText}
use Rattle.image_check.proofs.Common.{Pairs, Role, Row, ScalarKind, Some, Storage, Texts, Tile, Tree, Value, []}
use Rattle.image_check.proofs.Common.{and_parts, ap, arith, as_extent, false, false≢true, flat_map, handle, has_backing}
use Rattle.image_check.proofs.Common.{int_lt, is_good_value, is_number_pair, is_owned_text, is_rising, is_use, is_value}
use Rattle.image_check.proofs.Common.{leaf, leb-true, length, list_all, map, nat_le, nat_lt, nodes_of, option_to_list}
use Rattle.image_check.proofs.Common.{payload, refl, rises_from, same_role, serves, size_of, subst, sym, table_extents}
use Rattle.image_check.proofs.Common.{value_extents, value_len, ℕ, ◌%◌, ◌&&◌, ◌*◌, ◌++◌, ◌+◌, ◌<◌, ◌∙◌, ◌∷◌, ◌≡◌, ◌≤◌}
use Rattle.block_tags.specs.declared.tile.Role.TheVariants.{Object as ObjectRole}
use Rattle.best_fit.specs.Extents.{holds}
use Rattle.best_fit.proofs.Laws.{extents_of as used}
use Rattle.seg_map.specs.Map.{node_len}
use Rattle.segment_manager.specs.Directory.{Object}
use Rattle.image_check.proofs.bytes.Members.{Mem, mem_of_filter_map, mem_of_map, mem_parts}
use Rattle.image_check.proofs.block_collection.UsedTile.{as_extent-IsTileOf, from-there, one_tile, same_role-is}
use Rattle.image_check.proofs.block_collection.UsedTile.{used-IsMember}
use Rattle.image_check.proofs.claims.ReachedLinks.{field}
use Rattle.image_check.proofs.read_off.Values.{node_handle, node_of}
use Rattle.image_check.proofs.read_off.OwnBlocks.{IsOther, is_object_extent}
use Rattle.image_check.proofs.indexes.Entries.{Distinct}
use Rattle.image_check.proofs.claims.Fields.{IsTreeRead, array_claims, element_claims, node_claims, option_claims}
use Rattle.image_check.proofs.claims.Fields.{option_tree_claims, storage_claims, target_in, text_claims, tree_claims}
use Rattle.image_check.proofs.claims.CountedClaims.{all_claims, index_at}
use Rattle.image_check.proofs.claims.Forests.{Unshared}
use mathlib.Core.Logic.{◌⊎◌, inl, inr}

-- ---- tiles

-- the offset is in the tile
pub record Lies (p : ℕ) (t : Tile) : Type 0 where
  pub from : t.offset ≤ p
  pub to : p < t.offset + t.len

-- an offset is in only one tile
pub in-one : (at : ℕ) (ts : List Tile) (end : ℕ) (p : ℕ) (t u : Tile) → Row at ts end → Mem t ts → Mem u ts
    → Lies p t → Lies p u → t ≡ u
in-one at [] end p t u a h k x y = absurd h
in-one at (w ∷ ts) end p t u a (inl e) (inl f) x y = e ∙ sym f
in-one at (w ∷ ts) end p t u a (inl e) (inr k) x y =
    let l = from-there (at + w.len) ts end u a.3 k in
    let o = ap (λ (z : Tile). z.offset) e in
    let n = ap (λ (z : Tile). z.len) e in
    let here = a.0 in
    let g = x.to in
    let g2 = y.from in
    absurd (omega arith)
in-one at (w ∷ ts) end p t u a (inr h) (inl f) x y =
    let l = from-there (at + w.len) ts end t a.3 h in
    let o = ap (λ (z : Tile). z.offset) f in
    let n = ap (λ (z : Tile). z.len) f in
    let here = a.0 in
    let g = y.to in
    let g2 = x.from in
    absurd (omega arith)
in-one at (w ∷ ts) end p t u a (inr h) (inr k) x y = in-one (at + w.len) ts end p t u a.3 h k x y

use-if : (o : Option Role) (r q : Role) → IsTrue (elim o [ None ↦ false | Some x ↦ same_role r x ])
    → IsTrue (elim o [ None ↦ false | Some x ↦ same_role q x ]) → r ≡ q
use-if None r q h k = absurd (false≢true h)
use-if (Some x) r q h k = same_role-is r x h ∙ sym (same_role-is q x k)

-- a tile has one use
pub one-use : (t : Tile) (r q : Role) → IsTrue (is_use r t) → IsTrue (is_use q t) → r ≡ q
one-use t r q h k = use-if t.use_of r q h k

-- tiles begin at multiples of 16
tile-aligned : (at : ℕ) (ts : List Tile) (end : ℕ) (t : Tile) → at % 16 ≡ 0 → Row at ts end → Mem t ts
    → (t.offset % 16 ≡ 0) × (32 ≤ t.len)
tile-aligned at [] end t e a h = absurd h
tile-aligned at (w ∷ ts) end t e a (inl f) =
    let o = ap (λ (z : Tile). z.offset) f in
    let n = ap (λ (z : Tile). z.len) f in
    let here = a.0 in
    let long = a.1 in
    (omega arith, omega arith)
tile-aligned at (w ∷ ts) end t e a (inr h) = let whole = a.2 in tile-aligned (at + w.len) ts end t (omega arith) a.3 h

-- ---- the facts about the objects

-- an object's block, and its value in it
pub record IsPlaced (m : Memory) (ts : List Tile) (o : Object) : Type 0 where
  pub tile : Tile
  pub mem : Mem tile ts
  pub use_of : IsTrue (is_use ObjectRole tile)
  pub offset : tile.offset ≡ o.extent.offset
  pub room : index_at o + value_len o.value ≤ tile.offset + tile.len
  pub own : Mem o.extent (used ts)
  pub own_role : IsTrue (is_object_extent o.extent)
  pub good : IsTrue (is_good_value o.value)
  pub tree : IsTreeRead m ts o.value (index_at o)
  pub extents : AllByRecursion (λ x. Mem x (used ts)) (value_extents o.value)

-- the extents of objects and indexes are among the tiles, and their links are the fields that count
pub record ArePlaced (m : Memory) (ts : List Tile) (os : List Object) (named unique : BackingArray) : Type 0 where
  pub objects : (o : Object) → Mem o os → IsPlaced m ts o
  pub by_offset : IsTrue (rises_from 0 os)
  pub tables : (x : Extent) → Mem x (table_extents named ++ table_extents unique) → Mem x (used ts) × IsOther x
  pub unshared : Unshared (λ f. Mem f (all_claims m ts os named unique))

-- ---- claims are at the value, or in its array

-- the field of a block, if there is one, is at its offset
pub option-at : (e : Option Extent) (at : ℕ) (f : Field) → Mem f (option_claims at e) → f.at ≡ at
option-at None at f h = absurd h
option-at (Some x) at f (inl e) = ap (λ (g : Field). g.at) e
option-at (Some x) at f (inr h) = absurd h

-- a block, if there is one, is named once
pub option-once : (e : Option Extent) (at : ℕ) → Distinct (map target_in (option_claims at e))
option-once None at = tt
option-once (Some x) at = ((λ y h g. absurd h), tt)

-- the field of storage is in its value
pub storage-at : (v : Value) (at : ℕ) (f : Field) → Mem f (storage_claims v at) → (f.at ≡ at) × (value_len v ≡ 24)
storage-at (Numbers k zs) at f h = absurd h
storage-at (Elements k zs t) at f h = (option-at t.extent at f h, refl)
storage-at (Bytes bs t) at f h = (option-at t.extent at f h, refl)
storage-at (Pairs k v ps) at f h = absurd h
storage-at (Texts ps t) at f h = (option-at t.extent at f h, refl)

text-at : (at : ℕ) (ps : List OwnedText) (f : Field) → Mem f (text_claims at ps)
    → (at ≤ f.at) × (f.at < at + 16 * length ps)
text-at at [] f h = absurd h
text-at at (p ∷ ps) f h = elim (mem_parts f (option_claims at p.extent) (text_claims (at + 16) ps) h) [
  | inl a ↦ (let e = option-at p.extent at f a in (omega arith, omega arith))
  | inr a ↦ (let l = text-at (at + 16) ps f a in (omega (arith, l.0), omega (arith, l.1)))
]

-- the offset of a field
abbrev pub at_of : Field → ℕ
at_of f = f.at

ats-if : (at : ℕ) (e : Option Extent) (ps : List OwnedText) → Distinct (map at_of (text_claims (at + 16) ps))
    → Distinct (map at_of (option_claims at e ++ text_claims (at + 16) ps))
ats-if at None ps d = d
ats-if at (Some x) ps d = (
  λ y k f.
      let i = mem_of_map at_of y (text_claims (at + 16) ps) k in
      let l = (text-at (at + 16) ps i.one i.mem).0 in
      let g = i.is in
      absurd (omega arith),
  d,
)

-- the fields of strings are at different offsets
pub text-ats : (at : ℕ) (ps : List OwnedText) → Distinct (map at_of (text_claims at ps))
text-ats at [] = tt
text-ats at (p ∷ ps) = ats-if at p.extent ps (text-ats (at + 16) ps)

-- the value to which tree nodes belong
pub nodes-len : (m : Memory) (ts : List Tile) (v : Value) (at : ℕ) (f : Field) → Mem f (node_claims m ts v at)
    → value_len v ≡ 24
nodes-len m ts (Numbers k zs) at f h = absurd h
nodes-len m ts (Elements k zs t) at f h = absurd h
nodes-len m ts (Bytes bs t) at f h = absurd h
nodes-len m ts (Pairs k v ps) at f h = refl
nodes-len m ts (Texts ps t) at f h = absurd h

-- a value with elements' fields takes 24 bytes
pub elements-len : (v : Value) (at : ℕ) (f : Field) → Mem f (element_claims v at) → value_len v ≡ 24
elements-len (Numbers k zs) at f h = absurd h
elements-len (Elements k zs t) at f h = absurd h
elements-len (Bytes bs t) at f h = absurd h
elements-len (Pairs k v ps) at f h = absurd h
elements-len (Texts ps t) at f h = refl

module _ (ts : List Tile) (end : ℕ) (a : Row 128 ts end) where
  -- ---- extents of one place

  -- two blocks in use with one handle are one
  pub same-handle : (x y : Extent) → Mem x (used ts) → Mem y (used ts) → handle x ≡ handle y → x ≡ y
  same-handle x y h k e =
      let c = mem_of_filter_map as_extent x ts h in
      let d = mem_of_filter_map as_extent y ts k in
      let i = (as_extent-IsTileOf c.one x c.is).offset in
      let j = (as_extent-IsTileOf d.one y d.is).offset in
      let t = one_tile 128 ts end c.one d.one a c.mem d.mem (omega arith) in
      let f : Some x ≡ Some y = sym c.is ∙ ap as_extent t ∙ d.is in
      some-extent x y f
    where
      some-extent : (x y : Extent) → Some x ≡ Some y → x ≡ y
      some-extent x y e = cc

  -- ---- the array of a vector of texts

  pub record IsArrayOf (at : ℕ) (e : Option Extent) (p : ℕ) : Type 0 where
    pub tile : Tile
    pub mem : Mem tile ts
    pub use_of : IsTrue (is_use Storage tile)
    pub lies : Lies p tile
    pub claim : Mem (field at (payload tile)) (option_claims at e)

  array-of : (at capacity : ℕ) (e : Option Extent) (ps : List OwnedText)
      → IsTrue (has_backing Storage 16 (record { capacity = capacity; extent = e })) → length ps ≤ capacity
      → AllByRecursion (λ x. Mem x (used ts)) (option_to_list e) → (f : Field) → Mem f (array_claims e ps)
      → IsArrayOf at e f.at
  array-of at capacity None ps h l mem f k = absurd k
  array-of at capacity (Some x) ps h l mem f k =
      let parts = and_parts (nat_lt 0 capacity) (serves x Storage (16 * capacity)) h in
      let good = and_parts (same_role x.role Storage) (holds x (16 * capacity)) parts.1 in
      let t = used-IsMember 128 ts end Storage x a mem.0 good.0 in
      let room = leb-true (16 * capacity + 16) x.len good.1 in
      let w = text-at (handle x) ps f k in
      let low = w.0 in
      let high = w.1 in
      let o = t.is.offset in
      let n = t.is.len in
      record {
        tile = t.tile;
        mem = t.mem;
        use_of = t.use_of;
        lies = record { from = omega arith; to = omega arith };
        claim = inl (ap (λ y. field at (y + 16)) o);
      }

  -- the fields of strings are in the array
  pub element-array : (v : Value) (at : ℕ) → IsTrue (is_good_value v)
      → AllByRecursion (λ x. Mem x (used ts)) (value_extents v) → (f : Field) → Mem f (element_claims v at)
      → (t : Tile) × Mem t ts × IsTrue (is_use Storage t) × Lies f.at t
      × Mem (field at (payload t)) (storage_claims v at)
  element-array (Numbers k zs) at h mem f l = absurd l
  element-array (Elements k zs t) at h mem f l = absurd l
  element-array (Bytes bs t) at h mem f l = absurd l
  element-array (Pairs k v ps) at h mem f l = absurd l
  element-array (Texts ps t) at h mem f l =
      let two = and_parts (nat_le (length ps) t.capacity && has_backing Storage 16 t) (list_all is_owned_text ps) h in
      let one = and_parts (nat_le (length ps) t.capacity) (has_backing Storage 16 t) two.0 in
      let r = array-of at t.capacity t.extent ps one.1 (leb-true (length ps) t.capacity one.0)
      (AllByRecursion-front (λ x. Mem x (used ts)) (table_extents t) (flat_map (λ (p : OwnedText).
      option_to_list p.extent) ps) mem) f l in
      (r.tile, r.mem, r.use_of, r.lies, r.claim)

  -- ---- the nodes of a map

  -- a node's extent
  node-tile : (k v : ScalarKind) (ps : List NumberPair) → IsTrue (list_all (is_number_pair k v) ps)
      → AllByRecursion (λ x. Mem x (used ts)) (map node_of ps)
      → (n : ℕ) → Mem n (map node_handle ps) → (t : Tile) × Mem t ts × IsTrue (is_use Node t) × (payload t ≡ n)
  node-tile k v [] h mem n l = absurd l
  node-tile k v (p ∷ ps) h mem n (inl e) =
      let parts = and_parts (is_number_pair k v p) (list_all (is_number_pair k v) ps) h in
      let good = and_parts (is_value k p.key
      && is_value v p.value) (serves p.node Node (node_len (size_of k) (size_of v))) parts.0 in
      let t = used-IsMember 128 ts end Node p.node a mem.0
      (and_parts (same_role p.node.role Node) (holds p.node (node_len (size_of k) (size_of v))) good.1).0 in
      (t.tile, t.mem, t.use_of, ap (λ o. o + 16) t.is.offset ∙ sym e)
  node-tile k v (p ∷ ps) h mem n (inr l) =
      node-tile k v ps (and_parts (is_number_pair k v p) (list_all (is_number_pair k v) ps) h).1 mem.1 n l

  -- the tree of a map, as far as its nodes go
  pub record IsForest (m : Memory) (v : Value) (at : ℕ) : Type 0 where
    pub tree : Tree
    pub claims : node_claims m ts v at ≡ tree_claims at tree
    pub tiles : (n : ℕ) → Mem n (nodes_of tree) → (t : Tile) × Mem t ts × IsTrue (is_use Node t) × (payload t ≡ n)

  -- the nodes of a map are a forest of their fields
  pub forest : (m : Memory) (v : Value) (at : ℕ) → IsTrue (is_good_value v)
      → AllByRecursion (λ x. Mem x (used ts)) (value_extents v) → IsTreeRead m ts v at → IsForest m v at
  forest m (Numbers k zs) at h mem r = record { tree = leaf; claims = refl; tiles = λ n l. absurd l }
  forest m (Elements k zs t) at h mem r = record { tree = leaf; claims = refl; tiles = λ n l. absurd l }
  forest m (Bytes bs t) at h mem r = record { tree = leaf; claims = refl; tiles = λ n l. absurd l }
  forest m (Pairs k v ps) at h mem r =
      let p = and_parts (is_rising int_lt ps) (list_all (is_number_pair k v) ps) h in
      record {
        tree = r.0;
        claims = ap (option_tree_claims at) r.1;
        tiles = λ n l. node-tile k v ps p.1 mem n (subst (Mem n) r.2 l);
      }
  forest m (Texts ps t) at h mem r = record { tree = leaf; claims = refl; tiles = λ n l. absurd l }

  -- a node begins at a multiple of 16
  pub node-aligned : (n : ℕ) → ((t : Tile) × Mem t ts × IsTrue (is_use Node t) × (payload t ≡ n)) → n % 16 ≡ 0
  node-aligned n w =
      let g = (tile-aligned 128 ts end w.0 refl a w.1).0 in
      let e = w.3 in
      let o : (w.0).offset + 16 ≡ n = e in
      omega arith

  -- the links of a node lie in its tile
  pub node-lies : (n : ℕ) (w : (t : Tile) × Mem t ts × IsTrue (is_use Node t) × (payload t ≡ n)) → (x : ℕ)
      → (x ≡ n) ⊎ (x ≡ n + 8) → Lies x w.0
  node-lies n w x (inl e) =
      let g = (tile-aligned 128 ts end w.0 refl a w.1).1 in
      let o : (w.0).offset + 16 ≡ n = w.3 in
      record { from = omega arith; to = omega arith }
  node-lies n w x (inr e) =
      let g = (tile-aligned 128 ts end w.0 refl a w.1).1 in
      let o : (w.0).offset + 16 ≡ n = w.3 in
      record { from = omega arith; to = omega arith }
