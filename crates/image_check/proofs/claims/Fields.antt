-- The fields by which a directory's blocks are named: each extent but the objects' own has one.
use Rattle.image_check.proofs.Common.{AllByRecursion, AllByRecursion-behind, AllByRecursion-front, AreTextLinks}
use Rattle.image_check.proofs.Common.{BackingArray, Bytes, Elements, Extent, Field, Index, IsTrue, IsValueAt, List}
use Rattle.image_check.proofs.Common.{Memory, None, NumberPair, Numbers, Option, OwnedText, Pairs, Role, Row, Some}
use Rattle.image_check.proofs.Common.{Storage, Texts, Tile, Tree, Value, [], and_parts, ap, arith, cond-false}
use Rattle.image_check.proofs.Common.{cond-true, element_fields, element_offsets, eqb-true, flat_map, fork, good_for}
use Rattle.image_check.proofs.Common.{handle, has_backing, has_own_block, if◌then◌else◌, index_field, is_good_value}
use Rattle.image_check.proofs.Common.{is_owned_text, is_value, kind_of, le-ltb, leaf, leb-true, length, link_at}
use Rattle.image_check.proofs.Common.{list_all, lt-ltb, ltb-true, map, map-append, nat_le, nat_lt, ne_eqb, nodes_of}
use Rattle.image_check.proofs.Common.{option_to_list, own-block, payload, range_with_len, refl, same_role, serves}
use Rattle.image_check.proofs.Common.{size_of, storage_field, subst, suc, sym, table_extents, table_link, true}
use Rattle.image_check.proofs.Common.{value_extents, zero, ℕ, ◌&&◌, ◌*◌, ◌++◌, ◌+◌, ◌-◌, ◌/◌, ◌==◌, ◌∙◌, ◌∷◌, ◌≡◌, ◌≤◌}
use Rattle.std.proofs.Common.{append-nil, min}
use Rattle.std.specs.Prelude.{option_map}
use Rattle.raw_region.specs.Memory.{word_at}
use Rattle.best_fit.specs.Extents.{holds}
use Rattle.best_fit.proofs.Laws.{extents_of as used}
use Rattle.seg_types.specs.declared.kinds.Kind.TheVariants.{Strings as StringsKind}
use Rattle.image_check.specs.Fields.{field_at}
use Rattle.image_check.proofs.bytes.Members.{Mem}
use Rattle.image_check.proofs.block_collection.UsedTile.{used-IsMember}
use Rattle.image_check.proofs.read_off.Directory.{tree_at}
use Rattle.image_check.proofs.claims.ReachedLinks.{field}
use Rattle.image_check.proofs.read_off.Values.{AreStored, no-places, node_handle, node_of, nothing-left, text_extents}

-- the payload behind a field
abbrev pub target_in : Field → ℕ
target_in f = f.target

-- ---- the fields of one value

-- the field at an offset that leads to an extent, if there is one
abbrev pub option_claims : ℕ → Option Extent → List Field
option_claims at None = []
option_claims at (Some x) = field at (handle x) ∷ []

-- the field of an index or of an array
abbrev pub table_claims : ℕ → BackingArray → List Field
table_claims at t = option_claims at t.extent

-- the fields of texts one after the other, 16 bytes each
abbrev pub text_claims : ℕ → List OwnedText → List Field
text_claims at [] = []
text_claims at (p ∷ ps) = option_claims at p.extent ++ text_claims (at + 16) ps

-- the fields of the texts in an array
abbrev pub array_claims : Option Extent → List OwnedText → List Field
array_claims None ps = []
array_claims (Some x) ps = text_claims (handle x) ps

-- the links of a tree, by its nodes in order
abbrev pub tree_claims : ℕ → Tree → List Field
tree_claims at leaf = []
tree_claims at (fork red l n r) = tree_claims n l ++ field at n ∷ tree_claims (n + 8) r

-- the fields of a tree, if there is one
abbrev pub option_tree_claims : ℕ → Option Tree → List Field
option_tree_claims at None = []
option_tree_claims at (Some t) = tree_claims at t

-- the storage field of a value at a place
abbrev pub storage_claims : Value → ℕ → List Field
storage_claims (Numbers k zs) at = []
storage_claims (Elements k zs t) at = table_claims at t
storage_claims (Bytes bs t) at = table_claims at t
storage_claims (Pairs k v ps) at = []
storage_claims (Texts ps t) at = table_claims at t

-- the element fields of a vector of texts
abbrev pub element_claims : Value → ℕ → List Field
element_claims (Numbers k zs) at = []
element_claims (Elements k zs t) at = []
element_claims (Bytes bs t) at = []
element_claims (Pairs k v ps) at = []
element_claims (Texts ps t) at = array_claims t.extent ps

-- the fields of the tree of a map
abbrev pub node_claims : Memory → List Tile → Value → ℕ → List Field
node_claims m ts (Numbers k zs) at = []
node_claims m ts (Elements k zs t) at = []
node_claims m ts (Bytes bs t) at = []
node_claims m ts (Pairs k v ps) at = option_tree_claims at (tree_at m ts at)
node_claims m ts (Texts ps t) at = []

-- all fields of a value at a place
abbrev pub value_claims : Memory → List Tile → Value → ℕ → List Field
value_claims m ts v at = storage_claims v at ++ (element_claims v at ++ node_claims m ts v at)

-- the tree of a map, if the value is a map
abbrev pub IsTreeRead : Memory → List Tile → Value → ℕ → Type 0
IsTreeRead m ts (Numbers k zs) at = Unit {0}
IsTreeRead m ts (Elements k zs t) at = Unit {0}
IsTreeRead m ts (Bytes bs t) at = Unit {0}
IsTreeRead m ts (Pairs k v ps) at = (t : Tree) × (tree_at m ts at ≡ Some t) × (nodes_of t ≡ map node_handle ps)
IsTreeRead m ts (Texts ps t) at = Unit {0}

-- ---- the fields lead to the value's extents, one to each

-- the field of a block, if there is one, leads to it
pub option-targets : (at : ℕ) (e : Option Extent) → map target_in (option_claims at e) ≡ map handle (option_to_list e)
option-targets at None = refl
option-targets at (Some x) = refl

text-targets : (at : ℕ) (ps : List OwnedText)
    → map target_in (text_claims at ps) ≡ map handle (flat_map text_extents ps)
text-targets at [] = refl
text-targets at (p ∷ ps) =
    map-append target_in (option_claims at p.extent) (text_claims (at + 16) ps)
    ∙ (λ i. option-targets at p.extent i ++ text-targets (at + 16) ps i)
    ∙ sym (map-append handle (option_to_list p.extent) (flat_map text_extents ps))

-- the fields of a tree lead to its nodes, in order
pub tree-targets : (at : ℕ) (t : Tree) → map target_in (tree_claims at t) ≡ nodes_of t
tree-targets at leaf = refl
tree-targets at (fork red l n r) =
    map-append target_in (tree_claims n l) (field at n ∷ tree_claims (n + 8) r)
    ∙ (λ i. tree-targets n l i ++ n ∷ tree-targets (n + 8) r i)

array-targets : (e : Option Extent) (ps : List OwnedText) → (e ≡ None → ps ≡ [])
    → map target_in (array_claims e ps) ≡ map handle (flat_map text_extents ps)
array-targets None ps f = ap (λ qs. map handle (flat_map text_extents qs)) (sym (f refl))
array-targets (Some x) ps f = text-targets (handle x) ps

-- the nodes of pairs are the handles of their extents
pub nodes-handles : (ps : List NumberPair) → map node_handle ps ≡ map handle (map node_of ps)
nodes-handles [] = refl
nodes-handles (p ∷ ps) = ap (λ xs. handle p.node ∷ xs) (nodes-handles ps)

-- the fields of a value lead to its extents, in order
pub value-targets : (m : Memory) (ts : List Tile) (v : Value) (at : ℕ) → IsTrue (is_good_value v)
    → IsTreeRead m ts v at → map target_in (value_claims m ts v at) ≡ map handle (value_extents v)
value-targets m ts (Numbers k zs) at h r = refl
value-targets m ts (Elements k zs t) at h r =
    ap (map target_in) (append-nil (table_claims at t)) ∙ option-targets at t.extent
value-targets m ts (Bytes bs t) at h r =
    ap (map target_in) (append-nil (table_claims at t)) ∙ option-targets at t.extent
value-targets m ts (Pairs k v ps) at h r =
    ap (λ o. map target_in (option_tree_claims at o)) r.1 ∙ tree-targets at r.0 ∙ r.2 ∙ nodes-handles ps
value-targets m ts (Texts ps t) at h r =
    let two = and_parts (nat_le (length ps) t.capacity && has_backing Storage 16 t) (list_all is_owned_text ps) h in
    let one = and_parts (nat_le (length ps) t.capacity) (has_backing Storage 16 t) two.0 in
    let few = leb-true (length ps) t.capacity one.0 in
    map-append target_in (table_claims at t) (array_claims t.extent ps ++ [])
    ∙ ap (λ xs. map target_in (table_claims at t) ++ map target_in xs) (append-nil (array_claims t.extent ps))
    ∙ (λ i. option-targets at t.extent i ++ array-targets t.extent ps (λ e.
    let none = no-places Storage 16 t.capacity t.extent one.1 e in nothing-left ps (omega arith)) i)
    ∙ sym (map-append handle (table_extents t) (flat_map text_extents ps))

-- ---- they are the fields that count

module _ (ts : List Tile) (end : ℕ) (a : Row 128 ts end) where
  -- the field of a link to an extent
  pub field-of : (m : Memory) (role : Role) (n at : ℕ) (x : Extent) → IsTrue (serves x role n) → Mem x (used ts)
      → link_at m at ≡ Some (handle x) → field_at m ts role at ≡ field at (handle x) ∷ []
  field-of m role n at x h k e =
      let parts = and_parts (same_role x.role role) (holds x n) h in
      let t = used-IsMember 128 ts end role x a k parts.0 in
      ap (λ l. elim (good_for ts role l) [ None ↦ [] | Some t ↦ field at (payload t) ∷ [] ]) e
      ∙ ap (λ o. elim o [ None ↦ [] | Some t ↦ field at (payload t) ∷ [] ]) t.found
      ∙ ap (λ o. field at (o + 16) ∷ []) t.is.offset

  -- the field of a table's link, if its capacity is not 0
  places-if : (m : Memory) (role : Role) (each at capacity : ℕ) (e : Option Extent)
      → IsTrue (has_backing role each (record { capacity = capacity; extent = e }))
      → AllByRecursion (λ x. Mem x (used ts)) (option_to_list e) → link_at m at ≡ option_map handle e
      → (if nat_lt 0 capacity then field_at m ts role at else []) ≡ option_claims at e
  places-if m role each at capacity None h k e =
      let none = eqb-true capacity 0 h in
      cond-false (nat_lt 0 capacity) (field_at m ts role at) [] (le-ltb 0 capacity (omega arith))
  places-if m role each at capacity (Some x) h k e =
      let parts = and_parts (nat_lt 0 capacity) (serves x role (each * capacity)) h in
      cond-true (nat_lt 0 capacity) (field_at m ts role at) [] parts.0
      ∙ field-of m role (each * capacity) at x parts.1 k.0 e

  none-if : (n : ℕ) (xs : List Field) → (if n == 0 then [] else xs) ≡ (if nat_lt 0 n then xs else [])
  none-if zero xs = refl
  none-if (suc n) xs = cond-false (suc n == 0) [] xs (ne_eqb (suc n) 0 (λ e. omega arith))
      ∙ sym (cond-true (nat_lt 0 (suc n)) xs [] (lt-ltb 0 (suc n) (omega arith)))

  -- the field of an index is the one that counts
  pub index-same : (m : Memory) (role : Role) (each at : ℕ) (t : BackingArray) → IsTrue (has_backing Index each t)
      → AllByRecursion (λ x. Mem x (used ts)) (table_extents t)
      → link_at m at ≡ table_link t → word_at m (at + 16) ≡ t.capacity → index_field m ts at ≡ table_claims at t
  index-same m role each at t h k e f =
      none-if (word_at m (at + 16)) (field_at m ts Index at)
      ∙ ap (λ n. if nat_lt 0 n then field_at m ts Index at else []) f
      ∙ places-if m Index each at t.capacity t.extent h k e

  storage-if : (m : Memory) (each at : ℕ) (t : BackingArray) → IsTrue (has_backing Storage each t)
      → AllByRecursion (λ x. Mem x (used ts)) (table_extents t)
      → link_at m at ≡ table_link t → word_at m (at + 16) ≡ t.capacity
      → (if true && nat_lt 0 (word_at m (at + 16)) then field_at m ts Storage at else []) ≡ table_claims at t
  storage-if m each at t h k e f = ap (λ n. if nat_lt 0 n then field_at m ts Storage at else []) f
      ∙ places-if m Storage each at t.capacity t.extent h k e

  -- the field of storage is the one that counts
  pub storage-same : (m : Memory) (v : Value) (at : ℕ) → IsTrue (is_good_value v) → IsValueAt m at v
      → AllByRecursion (λ x. Mem x (used ts)) (value_extents v)
      → storage_field m ts (kind_of v, at) ≡ storage_claims v at
  storage-same m (Numbers k zs) at h s mem = refl
  storage-same m (Elements k zs t) at h s mem =
      let two = and_parts (nat_le (length zs) t.capacity && has_backing Storage (size_of k) t)
      (list_all (is_value k) zs) h in
      let one = and_parts (nat_le (length zs) t.capacity) (has_backing Storage (size_of k) t) two.0 in
      storage-if m (size_of k) at t one.1 mem s.link s.capacity
  storage-same m (Bytes bs t) at h s mem =
      let two = and_parts (nat_le (length bs) t.capacity
      && has_backing Storage 1 t) (list_all (λ b. nat_lt b 256) bs) h in
      let one = and_parts (nat_le (length bs) t.capacity) (has_backing Storage 1 t) two.0 in
      storage-if m 1 at t one.1 mem s.link s.capacity
  storage-same m (Pairs k v ps) at h s mem = refl
  storage-same m (Texts ps t) at h s mem =
      let two = and_parts (nat_le (length ps) t.capacity && has_backing Storage 16 t) (list_all is_owned_text ps) h in
      let one = and_parts (nat_le (length ps) t.capacity) (has_backing Storage 16 t) two.0 in
      storage-if m 16 at t one.1 (AllByRecursion-front (λ x.
      Mem x (used ts)) (table_extents t) (flat_map text_extents ps) mem) s.link s.capacity

  -- ---- the elements of a vector of texts

  text-field : (m : Memory) (at : ℕ) (bytes : List ℕ) (e : Option Extent)
      → IsTrue (has_own_block (record { bytes = bytes; extent = e }))
      → AllByRecursion (λ x. Mem x (used ts)) (option_to_list e)
      → link_at m at ≡ option_map handle e → field_at m ts Storage at ≡ option_claims at e
  text-field m at bytes None h k e =
      ap (λ l. elim (good_for ts Storage l) [ None ↦ [] | Some t ↦ field at (payload t) ∷ [] ]) e
  text-field m at bytes (Some x) h k e =
      field-of m Storage (length bytes) at x
      (and_parts (nat_lt 0 (length bytes)) (serves x Storage (length bytes)) h).1 k.0 e

  texts-range : (m : Memory) (at j : ℕ) (ps : List OwnedText) → IsTrue (list_all is_owned_text ps)
      → AllByRecursion (λ x. Mem x (used ts)) (flat_map text_extents ps)
      → AreTextLinks m (at + 16 * j) ps
      → flat_map (field_at m ts Storage) (map (λ i. at + 16 * i) (range_with_len j (length ps)))
      ≡ text_claims (at + 16 * j) ps
  texts-range m at j [] h mem links = refl
  texts-range m at j (p ∷ ps) h mem links =
      let parts = and_parts (is_owned_text p) (list_all is_owned_text ps) h in
      let place : at + 16 * j + 16 ≡ at + 16 * (j + 1) = omega arith in
      let first = text-field m (at + 16 * j) p.bytes p.extent (own-block p parts.0)
      (AllByRecursion-front (λ x. Mem x (used ts)) (text_extents p) (flat_map text_extents ps) mem) links.0 in
      let rest = texts-range m at (j + 1) ps parts.1
      (AllByRecursion-behind (λ x. Mem x (used ts)) (text_extents p) (flat_map text_extents ps) mem)
      (subst (λ x. AreTextLinks m x ps) place links.2)
      ∙ ap (λ x. text_claims x ps) (sym place) in
      λ i. first i ++ rest i

  -- the array that is reached
  abbrev array_of : Memory → ℕ → Option Tile
  array_of m at = if word_at m (at + 16) == 0 then None else good_for ts Storage (link_at m at)

  abbrev fields_in : Memory → ℕ → Option Tile → List Field
  fields_in m n o = elim o [
    | None ↦ []
    | Some t ↦ flat_map (field_at m ts Storage) (element_offsets (payload t) (min n ((t.len - 16) / 16)))
  ]

  array-if : (m : Memory) (at capacity : ℕ) (e : Option Extent) (ps : List OwnedText)
      → IsTrue (has_backing Storage 16 (record { capacity = capacity; extent = e })) → length ps ≤ capacity
      → IsTrue (list_all is_owned_text ps) → AllByRecursion (λ x. Mem x (used ts)) (option_to_list e)
      → AllByRecursion (λ x. Mem x (used ts)) (flat_map text_extents ps)
      → AreStored m ps e
      → fields_in m (length ps) (if capacity == 0 then None else good_for ts Storage (option_map handle e))
      ≡ array_claims e ps
  array-if m at capacity None ps h l v k mem links =
      ap (fields_in m (length ps)) (cond-true (capacity == 0) None (good_for ts Storage (option_map handle None)) h)
  array-if m at capacity (Some x) ps h l v k mem links =
      let parts = and_parts (nat_lt 0 capacity) (serves x Storage (16 * capacity)) h in
      let some = ltb-true 0 capacity parts.0 in
      let good = and_parts (same_role x.role Storage) (holds x (16 * capacity)) parts.1 in
      let t = used-IsMember 128 ts end Storage x a k.0 good.0 in
      let room = leb-true (16 * capacity + 16) x.len good.1 in
      let long = t.is.len in
      let all : min (length ps) ((t.tile.len - 16) / 16) ≡ length ps = omega arith in
      let there : payload t.tile ≡ handle x = ap (λ o. o + 16) t.is.offset in
      let here : handle x ≡ handle x + 16 * 0 = omega arith in
      ap (fields_in m (length ps)) (cond-false (capacity == 0) None (good_for ts Storage (Some (handle x)))
      (ne_eqb capacity 0 (λ e. omega arith)) ∙ t.found)
      ∙ (λ i. flat_map (field_at m ts Storage) (element_offsets (there i) (all i)))
      ∙ texts-range m (handle x) 0 ps v mem (subst (λ y. AreTextLinks m y ps) here links)
      ∙ ap (λ y. text_claims y ps) (sym here)

  -- the fields of strings are the fields that count
  pub element-same : (m : Memory) (v : Value) (at : ℕ) → IsTrue (is_good_value v) → IsValueAt m at v
      → AllByRecursion (λ x. Mem x (used ts)) (value_extents v)
      → element_fields m ts (kind_of v, at) ≡ element_claims v at
  element-same m (Numbers k zs) at h s mem = refl
  element-same m (Elements k zs t) at h s mem = refl
  element-same m (Bytes bs t) at h s mem = refl
  element-same m (Pairs k v ps) at h s mem = refl
  element-same m (Texts ps t) at h s mem =
      let two = and_parts (nat_le (length ps) t.capacity && has_backing Storage 16 t) (list_all is_owned_text ps) h in
      let one = and_parts (nat_le (length ps) t.capacity) (has_backing Storage 16 t) two.0 in
      let link = s.link in
      let len = s.len_word in
      let capacity = s.capacity in
      let here : element_fields m ts (StringsKind, at) ≡ fields_in m (word_at m (at + 8)) (array_of m at) = refl in
      here ∙ (λ i. fields_in m (len i) (if capacity i == 0 then None else good_for ts Storage (link i)))
      ∙ array-if m at t.capacity t.extent ps one.1 (leb-true (length ps) t.capacity one.0) two.1
      (AllByRecursion-front (λ x. Mem x (used ts)) (table_extents t) (flat_map text_extents ps) mem)
      (AllByRecursion-behind (λ x. Mem x (used ts)) (table_extents t) (flat_map text_extents ps) mem) s.array
