-- The values in bytes can be read: numbers, tables, elements, texts and pairs.
use Rattle.image_check.proofs.Common.{AllByRecursion, AllByRecursion-behind, AllByRecursion-front, AreTextLinks}
use Rattle.image_check.proofs.Common.{BackingArray, Bytes, Elements, Extent, HasBytesAt, IsNumberPairAt, IsTreeOf}
use Rattle.image_check.proofs.Common.{IsTrue, IsValueAt, List, Memory, Node, None, NumberPair, Numbers, Option}
use Rattle.image_check.proofs.Common.{OwnedText, Pairs, Role, Row, ScalarKind, Some, Storage, Texts, Tile, Tree, Value}
use Rattle.image_check.proofs.Common.{[], and_from, and_parts, ap, arith, as_extent, cells_of, count_of, eqb-true}
use Rattle.image_check.proofs.Common.{flat_map, fork, handle, has_backing, has_own_block, int_lt, is_good_value}
use Rattle.image_check.proofs.Common.{is_number_pair, is_owned_text, is_rising, is_some, is_value, kind_of, leaf}
use Rattle.image_check.proofs.Common.{leb-true, length, length-map, link_at, list_all, little_number, map, nat_le}
use Rattle.image_check.proofs.Common.{nat_lt, nodes_of, option_to_list, own-block, read, reads_off, refl, same_role}
use Rattle.image_check.proofs.Common.{serves, size_of, spelled, spelling, spelling-length, subst, suc, sym}
use Rattle.image_check.proofs.Common.{table_extents, table_link, tile_of, value_extents, value_of, ℕ, ℤ, ◌&&◌, ◌*◌}
use Rattle.image_check.proofs.Common.{◌++◌, ◌+◌, ◌∙◌, ◌∷◌, ◌≡◌, ◌≤◌}
use Rattle.std.proofs.Common.{length-append}
use Rattle.std.specs.Prelude.{option_map}
use Rattle.raw_region.specs.Memory.{word_at}
use Rattle.link_tree.specs.Tree.{height}
use Rattle.best_fit.specs.Extents.{holds}
use Rattle.best_fit.proofs.Laws.{extents_of as used}
use Rattle.seg_types.proofs.Laws.{all_spell_one}
use Rattle.seg_vector.specs.Vector.{AreInArray, IsOwnedText, IsStorage}
use Rattle.seg_map.specs.Map.{node_len}
use Rattle.segment_manager.proofs.Laws.{Has-front}
use Rattle.image_check.proofs.bytes.Members.{Mem}
use Rattle.image_check.proofs.block_collection.UsedTile.{used-IsMember}
use Rattle.image_check.proofs.read_off.Directory.{block_for, bytes_at, elements_at, number_from, numbers_from}
use Rattle.image_check.proofs.read_off.Directory.{or_nothing, pair_from, pairs_at, table_at, texts_at, texts_from}
use Rattle.image_check.proofs.read_off.Directory.{tree_at, value_from}

-- ---- bytes one after the other

-- and the bytes after it follow it
pub HasBytesAt-behind : (m : Memory) (at : ℕ) (xs ys : List ℕ) → HasBytesAt m at (xs ++ ys)
    → HasBytesAt m (at + length xs) ys
HasBytesAt-behind m at [] ys h =
    let here : at ≡ at + 0 = omega arith in
    subst (λ a. HasBytesAt m a ys) here h
HasBytesAt-behind m at (x ∷ xs) ys h =
    let g : m at ∷ read m (at + 1) (length (xs ++ ys)) ≡ x ∷ (xs ++ ys) = h in
    let rest : read m (at + 1) (length (xs ++ ys)) ≡ xs ++ ys = cc in
    let here : at + 1 + length xs ≡ at + suc (length xs) = omega arith in
    subst (λ a. HasBytesAt m a ys) here (HasBytesAt-behind m (at + 1) xs ys rest)

-- ---- numbers

-- a number whose encoding is there is read
pub number-read : (m : Memory) (k : ScalarKind) (at : ℕ) (z : ℤ) → IsTrue (is_value k z)
    → HasBytesAt m at (spelling k z) → number_from m k at ≡ z
number-read m k at z v h =
    let s = all_spell_one k z v in
    let bytes : read m at (size_of k) ≡ spelling k z = ap (read m at) (sym s.len) ∙ h in
    ap (λ x. value_of k (little_number (size_of k) x)) bytes ∙ s.reads

-- and so are several numbers
pub numbers-read : (m : Memory) (k : ScalarKind) (at : ℕ) (zs : List ℤ) → IsTrue (list_all (is_value k) zs)
    → HasBytesAt m at (spelled k zs) → numbers_from m k at (length zs) ≡ zs
numbers-read m k at [] v h = refl
numbers-read m k at (z ∷ zs) v h =
    let parts = and_parts (is_value k z) (list_all (is_value k) zs) v in
    let first = number-read m k at z parts.0 (Has-front m at (spelling k z) (spelled k zs) h) in
    let place : at + length (spelling k z) ≡ at + size_of k = ap (λ n. at + n) (spelling-length k z) in
    let rest = numbers-read m k (at + size_of k) zs parts.1
    (subst (λ a. HasBytesAt m a (spelled k zs)) place (HasBytesAt-behind m at (spelling k z) (spelled k zs) h)) in
    λ i. first i ∷ rest i

-- ---- the blocks of a link and a length

-- a list without a length is empty
pub nothing-left : {A : Type 0} (xs : List A) → length xs ≤ 0 → xs ≡ []
nothing-left [] l = refl
nothing-left (x ∷ xs) l = absurd (omega arith)

-- this many elements of the block of a link
abbrev pub content : {A : Type 0} → (ℕ → ℕ → List A) → Memory → ℕ → List A
content f m at = elim (link_at m at) [ None ↦ [] | Some block ↦ f block (word_at m (at + 8)) ]

-- the elements in a block are read; without a block there are none
pub content-read : {A : Type 0} (f : ℕ → ℕ → List A) (m : Memory) (at : ℕ) (items : List A) (e : Option Extent)
    → link_at m at ≡ option_map handle e → word_at m (at + 8) ≡ length items
    → (e ≡ None → items ≡ []) → ((x : Extent) → e ≡ Some x → f (handle x) (length items) ≡ items)
    → content f m at ≡ items
content-read f m at items None link len none some =
    ap (λ l. elim l [ None ↦ [] | Some block ↦ f block (word_at m (at + 8)) ]) link ∙ sym (none refl)
content-read f m at items (Some x) link len none some =
    ap (λ l. elim l [ None ↦ [] | Some block ↦ f block (word_at m (at + 8)) ]) link ∙ ap (f (handle x)) len
    ∙ some x refl

-- the bytes, and the elements of a vector of texts, are in the block if there is one
abbrev pub IsStored : Memory → List ℕ → Option Extent → Type 0
IsStored m bytes e = elim e [ None ↦ bytes ≡ [] | Some x ↦ HasBytesAt m (handle x) bytes ]

-- texts follow each other in a block
abbrev pub AreStored : Memory → List OwnedText → Option Extent → Type 0
AreStored m ps e = elim e [ None ↦ ps ≡ [] | Some x ↦ AreTextLinks m (handle x) ps ]

-- a table without a block has no place
pub no-places : (role : Role) (each capacity : ℕ) (e : Option Extent)
    → IsTrue (has_backing role each (record { capacity = capacity; extent = e })) → e ≡ None → capacity ≡ 0
no-places role each capacity None h n = eqb-true capacity 0 h
no-places role each capacity (Some x) h n = absurd (cc)

-- a tree is no higher than it has nodes
pub height-nodes : (t : Tree) → height t ≤ length (nodes_of t)
height-nodes leaf = omega arith
height-nodes (fork red l n r) =
    omega (arith, height-nodes l, height-nodes r, length-append (nodes_of l) (n ∷ nodes_of r))

-- the block of a text, if it has one
abbrev pub text_extents : OwnedText → List Extent
text_extents p = option_to_list p.extent

-- the extent of a pair
abbrev pub node_of : NumberPair → Extent
node_of p = p.node

-- and its handle
abbrev pub node_handle : NumberPair → ℕ
node_handle p = handle p.node

module _ (ts : List Tile) (end : ℕ) (a : Row 128 ts end) where
  -- the block of an extent in use
  pub block-read : (role : Role) (x : Extent) → Mem x (used ts) → IsTrue (same_role x.role role)
      → block_for ts role (Some (handle x)) ≡ Some x
  block-read role x h s =
      let t = used-IsMember 128 ts end role x a h s in
      ap (λ o. elim o [ None ↦ None | Some t ↦ as_extent t ]) t.found ∙ t.extent

  owned-block : (role : Role) (n : ℕ) (x : Extent) → IsTrue (serves x role n) → Mem x (used ts)
      → block_for ts role (Some (handle x)) ≡ Some x
  owned-block role n x h k = block-read role x k (and_parts (same_role x.role role) (holds x n) h).0

  table-block : (role : Role) (each capacity : ℕ) (e : Option Extent)
      → IsTrue (has_backing role each (record { capacity = capacity; extent = e }))
      → AllByRecursion (λ x. Mem x (used ts)) (option_to_list e) → block_for ts role (option_map handle e) ≡ e
  table-block role each capacity None h k = refl
  table-block role each capacity (Some x) h k =
      owned-block role (each * capacity) x (and_parts (nat_lt 0 capacity) (serves x role (each * capacity)) h).1 k.0

  -- the table at an offset
  pub table-read : (m : Memory) (role : Role) (each at : ℕ) (t : BackingArray) → IsTrue (has_backing role each t)
      → AllByRecursion (λ x. Mem x (used ts)) (table_extents t)
      → link_at m at ≡ table_link t → word_at m (at + 16) ≡ t.capacity → table_at m ts role at ≡ t
  table-read m role each at t h k link places =
      let e : block_for ts role (link_at m at) ≡ t.extent =
      ap (block_for ts role) link ∙ table-block role each t.capacity t.extent h k in
      λ i. record { capacity = places i; extent = e i }

  -- ---- vectors and texts

  pub elements-read : (m : Memory) (role : Role) (each at : ℕ) (k : ScalarKind) (zs : List ℤ) (t : BackingArray)
      → IsTrue (has_backing role each t) → length zs ≤ t.capacity → IsTrue (list_all (is_value k) zs)
      → link_at m at ≡ table_link t → word_at m (at + 8) ≡ length zs → IsStorage m t (spelled k zs)
      → elements_at m k at ≡ zs
  elements-read m role each at k zs t h l v link len s =
      content-read (numbers_from m k) m at zs t.extent link len
      (λ e. let none = no-places role each t.capacity t.extent h e in nothing-left zs (omega arith))
      (λ x e. numbers-read m k (handle x) zs v (subst (IsStored m (spelled k zs)) e s))

  pub bytes-read : (m : Memory) (role : Role) (each at : ℕ) (bytes : List ℕ) (t : BackingArray)
      → IsTrue (has_backing role each t) → length bytes ≤ t.capacity
      → link_at m at ≡ table_link t → word_at m (at + 8) ≡ length bytes → IsStorage m t bytes → bytes_at m at ≡ bytes
  bytes-read m role each at bytes t h l link len s =
      content-read (read m) m at bytes t.extent link len
      (λ e. let none = no-places role each t.capacity t.extent h e in nothing-left bytes (omega arith))
      (λ x e. subst (IsStored m bytes) e s)

  -- ---- vectors of texts

  owned-bytes : (m : Memory) (at : ℕ) (bytes : List ℕ) (e : Option Extent)
      → IsTrue (has_own_block (record { bytes = bytes; extent = e }))
      → link_at m at ≡ option_map handle e → word_at m (at + 8) ≡ length bytes
      → IsOwnedText m (record { bytes = bytes; extent = e }) → bytes_at m at ≡ bytes
  owned-bytes m at bytes None h link len s =
      content-read (read m) m at bytes None link len (λ e. let none = eqb-true (length bytes) 0 h
      in nothing-left bytes (omega arith)) (λ x e. absurd (cc))
  owned-bytes m at bytes (Some y) h link len s =
      content-read (read m) m at bytes (Some y) link len (λ e. absurd (cc))
      (λ x e. subst (IsStored m bytes) e s)

  owned-extent : (bytes : List ℕ) (e : Option Extent)
      → IsTrue (has_own_block (record { bytes = bytes; extent = e }))
      → AllByRecursion (λ x. Mem x (used ts)) (option_to_list e)
      → block_for ts Storage (option_map handle e) ≡ e
  owned-extent bytes None h k = refl
  owned-extent bytes (Some x) h k =
      owned-block Storage (length bytes) x
      (and_parts (nat_lt 0 (length bytes)) (serves x Storage (length bytes)) h).1 k.0

  pub texts_from-read : (m : Memory) (at : ℕ) (ps : List OwnedText) → IsTrue (list_all is_owned_text ps)
      → AreTextLinks m at ps → AllByRecursion (IsOwnedText m) ps
      → AllByRecursion (λ x. Mem x (used ts)) (flat_map text_extents ps) → texts_from m ts at (length ps) ≡ ps
  texts_from-read m at [] h links owned k = refl
  texts_from-read m at (p ∷ ps) h links owned k =
      let parts = and_parts (is_owned_text p) (list_all is_owned_text ps) h in
      let bytes = owned-bytes m at p.bytes p.extent (own-block p parts.0) links.0 links.1 owned.0 in
      let e : block_for ts Storage (link_at m at) ≡ p.extent =
      ap (block_for ts Storage) links.0
      ∙ owned-extent p.bytes p.extent (own-block p parts.0)
      (AllByRecursion-front (λ x. Mem x (used ts)) (text_extents p) (flat_map text_extents ps) k) in
      let rest = texts_from-read m (at + 16) ps parts.1 links.2 owned.1
      (AllByRecursion-behind (λ x. Mem x (used ts)) (text_extents p) (flat_map text_extents ps) k) in
      λ i. record { bytes = bytes i; extent = e i } ∷ rest i

  pub texts-read : (m : Memory) (role : Role) (each at : ℕ) (ps : List OwnedText) (t : BackingArray)
      → IsTrue (has_backing role each t) → length ps ≤ t.capacity → IsTrue (list_all is_owned_text ps)
      → AllByRecursion (λ x. Mem x (used ts)) (flat_map text_extents ps)
      → link_at m at ≡ table_link t → word_at m (at + 8) ≡ length ps → AreInArray m t ps
      → AllByRecursion (IsOwnedText m) ps → texts_at m ts at ≡ ps
  texts-read m role each at ps t h l v k link len s owned =
      content-read (texts_from m ts) m at ps t.extent link len
      (λ e. let none = no-places role each t.capacity t.extent h e in nothing-left ps (omega arith))
      (λ x e. texts_from-read m (handle x) ps v (subst (AreStored m ps) e s) owned k)

  -- ---- maps

  pub pair-read : (m : Memory) (k v : ScalarKind) (p : NumberPair) → IsTrue (is_number_pair k v p)
      → Mem p.node (used ts)
      → IsNumberPairAt k v m p → pair_from m ts k v (handle p.node) ≡ p
  pair-read m k v p h mem s =
      let parts = and_parts (is_value k p.key
      && is_value v p.value) (serves p.node Node (node_len (size_of k) (size_of v))) h in
      let values = and_parts (is_value k p.key) (is_value v p.value) parts.0 in
      let at : ℕ = handle p.node + 16 in
      let key = number-read m k at p.key values.0 s.0 in
      let value = number-read m v (at + size_of k) p.value values.1 s.1 in
      let node : or_nothing (block_for ts Node (Some (handle p.node))) ≡ p.node =
      ap or_nothing (owned-block Node (node_len (size_of k) (size_of v)) p.node parts.1 mem) in
      λ i. record { key = key i; value = value i; node = node i }

  pairs-each : (m : Memory) (k v : ScalarKind) (ps : List NumberPair) → IsTrue (list_all (is_number_pair k v) ps)
      → AllByRecursion (λ x. Mem x (used ts)) (map node_of ps)
      → AllByRecursion (IsNumberPairAt k v m) ps
      → map (pair_from m ts k v) (map node_handle ps) ≡ ps
  pairs-each m k v [] h mem s = refl
  pairs-each m k v (p ∷ ps) h mem s =
      let parts = and_parts (is_number_pair k v p) (list_all (is_number_pair k v) ps) h in
      let first = pair-read m k v p parts.0 mem.0 s.0 in
      let rest = pairs-each m k v ps parts.1 mem.1 s.1 in
      λ i. first i ∷ rest i

  pub nodes-good : (k v : ScalarKind) (ps : List NumberPair) → IsTrue (list_all (is_number_pair k v) ps)
      → AllByRecursion (λ x. Mem x (used ts)) (map node_of ps)
      → IsTrue (list_all (λ n. is_some (tile_of ts Node n)) (map node_handle ps))
  nodes-good k v [] h mem = refl
  nodes-good k v (p ∷ ps) h mem =
      let parts = and_parts (is_number_pair k v p) (list_all (is_number_pair k v) ps) h in
      let good = and_parts (is_value k p.key
      && is_value v p.value) (serves p.node Node (node_len (size_of k) (size_of v))) parts.0 in
      let s = used-IsMember 128 ts end Node p.node a mem.0
      (and_parts (same_role p.node.role Node) (holds p.node (node_len (size_of k) (size_of v))) good.1).0 in
      and_from (is_some (tile_of ts Node (handle p.node)))
      (list_all (λ n. is_some (tile_of ts Node n)) (map node_handle ps))
      (ap is_some s.found) (nodes-good k v ps parts.1 mem.1)

  -- the tree of a map is read off
  pub tree-read : (m : Memory) (at : ℕ) (k v : ScalarKind) (ps : List NumberPair)
      → IsTrue (list_all (is_number_pair k v) ps) → AllByRecursion (λ x. Mem x (used ts)) (map node_of ps)
      → length ps ≤ length ts
      → (tree : IsTreeOf m at (map node_handle ps)) → tree_at m ts at ≡ Some tree.tree
  tree-read m at k v ps h mem l tree =
      let low = height-nodes tree.tree in
      let same : length (nodes_of tree.tree) ≡ length ps = ap length tree.lists ∙ length-map ps node_handle in
      reads_off.whole (length ts) (λ n. is_some (tile_of ts Node n)) (cells_of m) (link_at m at) tree.tree tree.linked
      (ap (list_all (λ n. is_some (tile_of ts Node n))) tree.lists ∙ nodes-good k v ps h mem) (omega arith)

  pub pairs-read : (m : Memory) (at : ℕ) (k v : ScalarKind) (ps : List NumberPair)
      → IsTrue (list_all (is_number_pair k v) ps) → AllByRecursion (λ x. Mem x (used ts)) (map node_of ps)
      → length ps ≤ length ts
      → IsTreeOf m at (map node_handle ps) → AllByRecursion (IsNumberPairAt k v m) ps → pairs_at m ts k v at ≡ ps
  pairs-read m at k v ps h mem l tree s =
      ap (λ o. elim o [ None ↦ [] | Some t ↦ map (pair_from m ts k v) (nodes_of t) ])
      (tree-read m at k v ps h mem l tree)
      ∙ ap (map (pair_from m ts k v)) tree.lists ∙ pairs-each m k v ps h mem s

  -- ---- all kinds

  -- a value at an offset is read there
  pub value-read : (m : Memory) (at : ℕ) (v : Value) → IsTrue (is_good_value v) → IsValueAt m at v
      → AllByRecursion (λ x. Mem x (used ts)) (value_extents v)
      → length (value_extents v) ≤ length ts → value_from m ts (kind_of v) (count_of v) at ≡ v
  value-read m at (Numbers k zs) h s mem l =
      let parts = and_parts (nat_le 1 (length zs) && nat_le (length zs) 1048576) (list_all (is_value k) zs) h in
      ap (Numbers k) (numbers-read m k at zs parts.1 s)
  value-read m at (Elements k zs t) h s mem l =
      let two = and_parts (nat_le (length zs) t.capacity && has_backing Storage (size_of k) t)
      (list_all (is_value k) zs) h in
      let one = and_parts (nat_le (length zs) t.capacity) (has_backing Storage (size_of k) t) two.0 in
      let e = elements-read m Storage (size_of k) at k zs t one.1 (leb-true (length zs) t.capacity one.0) two.1
      s.link s.len_word s.storage in
      let f = table-read m Storage (size_of k) at t one.1 mem s.link s.capacity in
      λ i. Elements k (e i) (f i)
  value-read m at (Bytes bs t) h s mem l =
      let two = and_parts (nat_le (length bs) t.capacity
      && has_backing Storage 1 t) (list_all (λ b. nat_lt b 256) bs) h in
      let one = and_parts (nat_le (length bs) t.capacity) (has_backing Storage 1 t) two.0 in
      let e = bytes-read m Storage 1 at bs t one.1 (leb-true (length bs) t.capacity one.0) s.link s.len_word
      s.storage in
      let f = table-read m Storage 1 at t one.1 mem s.link s.capacity in
      λ i. Bytes (e i) (f i)
  value-read m at (Pairs k v ps) h s mem l =
      let parts = and_parts (is_rising int_lt ps) (list_all (is_number_pair k v) ps) h in
      let n = length-map ps node_of in
      ap (Pairs k v) (pairs-read m at k v ps parts.1 mem (omega arith) s.tree s.pairs)
  value-read m at (Texts ps t) h s mem l =
      let two = and_parts (nat_le (length ps) t.capacity && has_backing Storage 16 t) (list_all is_owned_text ps) h in
      let one = and_parts (nat_le (length ps) t.capacity) (has_backing Storage 16 t) two.0 in
      let table_mem = AllByRecursion-front (λ x. Mem x (used ts)) (table_extents t) (flat_map text_extents ps) mem in
      let text_mem = AllByRecursion-behind (λ x. Mem x (used ts)) (table_extents t) (flat_map text_extents ps) mem in
      let e = texts-read m Storage 16 at ps t one.1 (leb-true (length ps) t.capacity one.0) two.1 text_mem s.link
      s.len_word s.array s.texts in
      let f = table-read m Storage 16 at t one.1 table_mem s.link s.capacity in
      λ i. Texts (e i) (f i)
