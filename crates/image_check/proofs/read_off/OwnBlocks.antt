-- Which extents are objects' own blocks, and the number of extents.
use Rattle.image_check.proofs.Common.{AllByRecursion, BackingArray, Bytes, Elements, Extent, Index, IsTrue, List, Node}
use Rattle.image_check.proofs.Common.{None, NumberPair, Numbers, Option, OwnedText, Pairs, Role, ScalarKind, Some}
use Rattle.image_check.proofs.Common.{Storage, Texts, Tile, Value, [], and_parts, ap, arith, as_extent, cons_option}
use Rattle.image_check.proofs.Common.{false, filter, flat_map, has_backing, has_own_block, if◌then◌else◌, int_lt}
use Rattle.image_check.proofs.Common.{is_good_value, is_number_pair, is_owned_text, is_rising, is_value, length}
use Rattle.image_check.proofs.Common.{list_all, map, nat_le, nat_lt, object_tiles, option_to_list, own-block, refl}
use Rattle.image_check.proofs.Common.{same_role, serves, size_of, sorted, suc, table_extents, true, value_extents, ℕ}
use Rattle.image_check.proofs.Common.{◌&&◌, ◌*◌, ◌++◌, ◌∙◌, ◌∷◌, ◌≡◌, ◌≤◌}
use Rattle.std.proofs.Common.{Bool, length-append}
use Rattle.block_tags.specs.declared.tile.Role.TheVariants.{Object as ObjectRole}
use Rattle.best_fit.specs.Extents.{holds}
use Rattle.best_fit.specs.Fit.{insert}
use Rattle.best_fit.proofs.Laws.{extents_of as used}
use Rattle.seg_map.specs.Map.{node_len}
use Rattle.segment_manager.specs.Directory.{Object, extents_of}
use Rattle.image_check.proofs.bytes.Members.{Mem}
use Rattle.image_check.proofs.block_collection.UsedTile.{same_role-is}
use Rattle.image_check.proofs.read_off.Directory.{object_block}
use mathlib.Core.Logic.{inl, inr}

-- ---- the roles of extents that are no object's own block

-- an extent that is an object's own block
abbrev pub is_object_extent : Extent → Bool
is_object_extent x = same_role ObjectRole x.role

-- an extent that is not an object's own block
abbrev pub IsOther : Extent → Type 0
IsOther x = is_object_extent x ≡ false

-- a block of another role is no object's own block
pub serves-other : (role : Role) (x : Extent) (n : ℕ) → same_role ObjectRole role ≡ false → IsTrue (serves x role n)
    → IsOther x
serves-other role x n e h =
    let r = same_role-is x.role role (and_parts (same_role x.role role) (holds x n) h).0 in
    ap (same_role ObjectRole) r ∙ e

option-other : (role : Role) (each capacity : ℕ) (e : Option Extent) → same_role ObjectRole role ≡ false
    → IsTrue (has_backing role each (record { capacity = capacity; extent = e }))
    → AllByRecursion IsOther (option_to_list e)
option-other role each capacity None f h = tt
option-other role each capacity (Some x) f h =
    (serves-other role x (each * capacity) f (and_parts (nat_lt 0 capacity) (serves x role (each * capacity)) h).1, tt)

-- nor is the block of a table
pub table-other : (role : Role) (each : ℕ) (t : BackingArray) → same_role ObjectRole role ≡ false
    → IsTrue (has_backing role each t) → AllByRecursion IsOther (table_extents t)
table-other role each t f h = option-other role each t.capacity t.extent f h

all-append : (xs ys : List Extent) → AllByRecursion IsOther xs → AllByRecursion IsOther ys
    → AllByRecursion IsOther (xs ++ ys)
all-append [] ys h k = k
all-append (x ∷ xs) ys h k = (h.0, all-append xs ys h.1 k)

pairs-other : (k v : ScalarKind) (ps : List NumberPair) → IsTrue (list_all (is_number_pair k v) ps)
    → AllByRecursion IsOther (map (λ (p : NumberPair). p.node) ps)
pairs-other k v [] h = tt
pairs-other k v (p ∷ ps) h =
    let parts = and_parts (is_number_pair k v p) (list_all (is_number_pair k v) ps) h in
    let good = and_parts (is_value k p.key
    && is_value v p.value) (serves p.node Node (node_len (size_of k) (size_of v))) parts.0 in
    (serves-other Node p.node (node_len (size_of k) (size_of v)) refl good.1, pairs-other k v ps parts.1)

text-other : (bytes : List ℕ) (e : Option Extent) → IsTrue (has_own_block (record { bytes = bytes; extent = e }))
    → AllByRecursion IsOther (option_to_list e)
text-other bytes None h = tt
text-other bytes (Some x) h = (
  serves-other Storage x (length bytes) refl
      (and_parts (nat_lt 0 (length bytes)) (serves x Storage (length bytes)) h).1,
  tt,
)

texts-other : (ps : List OwnedText) → IsTrue (list_all is_owned_text ps)
    → AllByRecursion IsOther (flat_map (λ (p : OwnedText). option_to_list p.extent) ps)
texts-other [] h = tt
texts-other (p ∷ ps) h =
    let parts = and_parts (is_owned_text p) (list_all is_owned_text ps) h in
    all-append (option_to_list p.extent) (flat_map (λ (q : OwnedText). option_to_list q.extent) ps)
    (text-other p.bytes p.extent (own-block p parts.0)) (texts-other ps parts.1)

-- nor are the blocks of a value
pub value-other : (v : Value) → IsTrue (is_good_value v) → AllByRecursion IsOther (value_extents v)
value-other (Numbers k zs) h = tt
value-other (Elements k zs t) h =
    let two = and_parts (nat_le (length zs) t.capacity && has_backing Storage (size_of k) t)
    (list_all (is_value k) zs) h in
    table-other Storage (size_of k) t refl
    (and_parts (nat_le (length zs) t.capacity) (has_backing Storage (size_of k) t) two.0).1
value-other (Bytes bs t) h =
    let two = and_parts (nat_le (length bs) t.capacity && has_backing Storage 1 t) (list_all (λ b. nat_lt b 256) bs)
    h in
    table-other Storage 1 t refl (and_parts (nat_le (length bs) t.capacity) (has_backing Storage 1 t) two.0).1
value-other (Pairs k v ps) h =
    pairs-other k v ps (and_parts (is_rising int_lt ps) (list_all (is_number_pair k v) ps) h).1
value-other (Texts ps t) h =
    let two = and_parts (nat_le (length ps) t.capacity && has_backing Storage 16 t) (list_all is_owned_text ps) h in
    all-append (table_extents t) (flat_map (λ (p : OwnedText). option_to_list p.extent) ps)
    (table-other Storage 16 t refl (and_parts (nat_le (length ps) t.capacity) (has_backing Storage 16 t) two.0).1)
    (texts-other ps two.1)

-- ---- the tiles of objects

blocks-step : (offset len : ℕ) (use_of : Option Role) (red : Bool) (ts : List Tile)
    → map object_block (object_tiles ts) ≡ filter is_object_extent (used ts)
    → map object_block (object_tiles (record { offset = offset; len = len; use_of = use_of; red = red } ∷ ts))
    ≡ filter is_object_extent (used (record { offset = offset; len = len; use_of = use_of; red = red } ∷ ts))
blocks-step offset len None red ts h = h
blocks-step offset len (Some ObjectRole) red ts h = let x : Extent =
    record { offset = offset; len = len; role = ObjectRole } in ap (λ xs. x ∷ xs) h
blocks-step offset len (Some Index) red ts h = h
blocks-step offset len other red ts h = h

-- the tiles of objects are the objects' own blocks among the tiles in use
pub object_blocks : (ts : List Tile) → map object_block (object_tiles ts) ≡ filter is_object_extent (used ts)
object_blocks [] = refl
object_blocks (t ∷ ts) = blocks-step t.offset t.len t.use_of t.red ts (object_blocks ts)

-- ---- the number of extents

insert-length-if : (b : Bool) (x y : Extent) (ys zs : List Extent) → length zs ≡ suc (length ys)
    → length (if b then x ∷ y ∷ ys else y ∷ zs) ≡ suc (length (y ∷ ys))
insert-length-if true x y ys zs e = refl
insert-length-if false x y ys zs e = ap suc e

insert-length : (x : Extent) (ys : List Extent) → length (insert x ys) ≡ suc (length ys)
insert-length x [] = refl
insert-length x (y ∷ ys) = insert-length-if (nat_lt x.offset y.offset) x y ys (insert x ys) (insert-length x ys)

-- sorting keeps the number of elements
pub sorted-length : (xs : List Extent) → length (sorted xs) ≡ length xs
sorted-length [] = refl
sorted-length (x ∷ xs) = insert-length x (sorted xs) ∙ ap suc (sorted-length xs)

option-length : (e : Option Extent) (xs : List Extent) → length (cons_option e xs) ≤ suc (length xs)
option-length None xs = omega arith
option-length (Some x) xs = omega arith

-- there are at most as many extents in use as tiles
pub used-length : (ts : List Tile) → length (used ts) ≤ length ts
used-length [] = omega arith
used-length (t ∷ ts) = let l = used-length ts in let k = option-length (as_extent t) (used ts) in omega arith

-- an object has no more extents than all together
pub member-length : (o : Object) (os : List Object) → Mem o os → length (extents_of o) ≤ length (flat_map extents_of os)
member-length o [] h = absurd h
member-length o (p ∷ ps) (inl e) = let f = ap (λ q. length (extents_of q)) e
    in omega (arith, length-append (extents_of p) (flat_map extents_of ps))
member-length o (p ∷ ps) (inr h) =
    omega (arith, member-length o ps h, length-append (extents_of p) (flat_map extents_of ps))
