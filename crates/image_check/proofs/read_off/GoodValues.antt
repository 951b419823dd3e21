-- A good value at an offset passes the tests of values and containers.
use Rattle.image_check.proofs.Common.{AllByRecursion, AllByRecursion-behind, AllByRecursion-front, AreTextLinks}
use Rattle.image_check.proofs.Common.{BackingArray, Bytes, Elements, Extent, HasBytesAt, IsNumberPairAt, IsTrue}
use Rattle.image_check.proofs.Common.{IsValueAt, List, Memory, Node, None, NumberPair, Numbers, Option, OwnedText}
use Rattle.image_check.proofs.Common.{Pairs, Role, Row, ScalarKind, Some, Storage, Texts, Tile, Tree, U8, Value, []}
use Rattle.image_check.proofs.Common.{add-one, and_from, and_parts, ap, are_pairs, are_spellings, arith, cond-false}
use Rattle.image_check.proofs.Common.{cond-true, count_of, element_offsets, eq-eqb, false, flat_map, handle}
use Rattle.image_check.proofs.Common.{has_backing, has_own_block, if◌then◌else◌, int_lt, is_container, is_element_at}
use Rattle.image_check.proofs.Common.{is_good_value, is_map_at, is_node_of, is_none, is_number_pair, is_owned_text}
use Rattle.image_check.proofs.Common.{is_red_black, is_rising, is_spelling, is_table_link, is_value, is_value_in}
use Rattle.image_check.proofs.Common.{key_at, kind_of, le-leb, leads_to, leb-true, length, length-map, link_at}
use Rattle.image_check.proofs.Common.{list_all, ltb-true, map, nat_le, nat_lt, ne_eqb, nodes_of, option_to_list}
use Rattle.image_check.proofs.Common.{own-block, range_with_len, read, reads_off, refl, rise_by, same_role, serves}
use Rattle.image_check.proofs.Common.{size_of, spelled, spelling, spelling-length, subst, suc, sym, table_extents}
use Rattle.image_check.proofs.Common.{table_link, true, value_extents, value_len, zero, ℕ, ℤ, ◌&&◌, ◌*◌, ◌+◌, ◌<◌, ◌==◌}
use Rattle.image_check.proofs.Common.{◌∙◌, ◌∷◌, ◌≡◌, ◌≤◌}
use Rattle.std.proofs.Common.{Bool, append-nil}
use Rattle.std.specs.Prelude.{option_map, pos}
use Rattle.raw_region.specs.Memory.{word_at}
use Rattle.best_fit.specs.Extents.{holds}
use Rattle.best_fit.proofs.Laws.{extents_of as used}
use Rattle.seg_vector.specs.Vector.{AreInArray}
use Rattle.seg_map.specs.Map.{node_len}
use Rattle.seg_map.specs.Numbers.{IsNumberMapAt}
use Rattle.segment_manager.proofs.Laws.{Has-front}
use Rattle.image_check.specs.Fields.{is_array_at, is_storage_at}
use Rattle.image_check.proofs.bytes.Numbers.{AreSmall, number_at, number_at-small}
use Rattle.image_check.proofs.bytes.Members.{Mem}
use Rattle.image_check.proofs.block_collection.UsedTile.{used-IsMember}
use Rattle.image_check.proofs.read_off.Directory.{number_from}
use Rattle.image_check.proofs.read_off.Values.{HasBytesAt-behind, IsStored, node_handle, node_of, number-read}
use Rattle.image_check.proofs.read_off.Values.{text_extents, tree-read}
use native.Mathlib.Nat.{mul-suc}

-- n times one more
pub mul-next : (n j : ℕ) → n * (j + 1) ≡ n * j + n
mul-next n j = ap (λ x. n * x) (add-one j) ∙ mul-suc n j

-- ---- spellings

spelled-range : (m : Memory) (k : ScalarKind) (at j : ℕ) (zs : List ℤ) → IsTrue (list_all (is_value k) zs)
    → HasBytesAt m (at + size_of k * j) (spelled k zs)
    → IsTrue (list_all (λ i. is_spelling k (read m (at + size_of k * i) (size_of k))) (range_with_len j (length zs)))
spelled-range m k at j [] v h = refl
spelled-range m k at j (z ∷ zs) v h =
    let parts = and_parts (is_value k z) (list_all (is_value k) zs) v in
    let there : ℕ = at + size_of k * j in
    let first : IsTrue (is_value k (number_from m k there)) =
    ap (is_value k) (number-read m k there z parts.0 (Has-front m there (spelling k z) (spelled k zs) h)) ∙ parts.0 in
    let next = mul-next (size_of k) j in
    let len = spelling-length k z in
    let place : there + length (spelling k z) ≡ at + size_of k * (j + 1) = omega arith in
    and_from (is_spelling k (read m there (size_of k)))
    (list_all (λ i. is_spelling k (read m (at + size_of k * i) (size_of k))) (range_with_len (j + 1) (length zs)))
    first (spelled-range m k at (j + 1) zs parts.1
    (subst (λ a. HasBytesAt m a (spelled k zs)) place (HasBytesAt-behind m there (spelling k z) (spelled k zs) h)))

-- no time n
pub mul-none : (n : ℕ) → n * 0 ≡ 0
mul-none n = omega arith

-- numbers whose encodings are there pass the test of encodings
pub spelled-passes : (m : Memory) (k : ScalarKind) (at : ℕ) (zs : List ℤ) → IsTrue (list_all (is_value k) zs)
    → HasBytesAt m at (spelled k zs) → IsTrue (are_spellings m k at (length zs))
spelled-passes m k at zs v h =
    let none = mul-none (size_of k) in
    let place : at ≡ at + size_of k * 0 = omega arith in
    spelled-range m k at 0 zs v (subst (λ a. HasBytesAt m a (spelled k zs)) place h)

-- one value
pub one-passes : (m : Memory) (k : ScalarKind) (at : ℕ) (z : ℤ) → IsTrue (is_value k z)
    → HasBytesAt m at (spelling k z) → IsTrue (are_spellings m k at 1)
one-passes m k at z v h = spelled-passes m k at (z ∷ []) (and_from (is_value k z) true v refl)
    (subst (HasBytesAt m at) (sym (append-nil (spelling k z))) h)

byte-fits : (x : ℕ) → x < 256 → IsTrue (is_value U8 (pos x))
byte-fits x l = grind arith

-- every byte is a `u8`
bytes-range : (m : Memory) (at j n : ℕ) → AreSmall m
    → IsTrue (list_all (λ i. is_spelling U8 (read m (at + size_of U8 * i) (size_of U8))) (range_with_len j n))
bytes-range m at j zero s = refl
bytes-range m at j (suc n) s =
    let there : ℕ = at + size_of U8 * j in
    and_from (is_spelling U8 (read m there (size_of U8)))
    (list_all (λ i. is_spelling U8 (read m (at + size_of U8 * i) (size_of U8))) (range_with_len (j + 1) n))
    (byte-fits (number_at m there 1) (number_at-small m there 1 s)) (bytes-range m at (j + 1) n s)

-- bytes are spellings of u8
pub bytes-pass : (m : Memory) (at n : ℕ) → AreSmall m → IsTrue (are_spellings m U8 at n)
bytes-pass m at n s = bytes-range m at 0 n s

-- ---- the value in its object

-- two tests pass together, the second made only if the first passes
pub guarded : (p q : Bool) → IsTrue p → IsTrue q → IsTrue (if p then q else false)
guarded p q h k = cond-true p q false h ∙ k

container-in : (m : Memory) (at end : ℕ) → at + 24 ≤ end → IsTrue ((1 == 1) && nat_le (at + 24) end)
container-in m at end l = and_from (1 == 1) (nat_le (at + 24) end) refl (le-leb (at + 24) end l)

-- a value that is in memory and fits passes its test
pub value_in-passes : (m : Memory) (at end : ℕ) (v : Value) → IsTrue (is_good_value v) → IsValueAt m at v
    → at + value_len v ≤ end → IsTrue (is_value_in m (kind_of v) (count_of v) at end)
value_in-passes m at end (Numbers k zs) h s l =
    let parts = and_parts (nat_le 1 (length zs) && nat_le (length zs) 1048576) (list_all (is_value k) zs) h in
    guarded (nat_le 1 (length zs) && nat_le (length zs) 1048576 && nat_le (at + size_of k * length zs) end)
    (are_spellings m k at (length zs))
    (and_from (nat_le 1 (length zs) && nat_le (length zs) 1048576) (nat_le (at + size_of k * length zs) end) parts.0
    (le-leb (at + size_of k * length zs) end l))
    (spelled-passes m k at zs parts.1 s)
value_in-passes m at end (Elements k zs t) h s l = container-in m at end l
value_in-passes m at end other h s l = container-in m at end l

-- stored bytes are in their block
pub stored-at : (m : Memory) (bytes : List ℕ) (e : Option Extent) (x : Extent) → e ≡ Some x → IsStored m bytes e
    → HasBytesAt m (handle x) bytes
stored-at m bytes None x e s = absurd (cc)
stored-at m bytes (Some y) x e s = let f : y ≡ x = cc in subst (λ z. HasBytesAt m (handle z) bytes) f s

module _ (ts : List Tile) (end : ℕ) (a : Row 128 ts end) where
  -- ---- links

  -- a link to a block that serves
  pub leads-passes : (role : Role) (n : ℕ) (x : Extent) → IsTrue (serves x role n) → Mem x (used ts)
      → IsTrue (leads_to ts role (Some (handle x)) n)
  leads-passes role n x h k =
      let parts = and_parts (same_role x.role role) (holds x n) h in
      let t = used-IsMember 128 ts end role x a k parts.0 in
      ap (λ o. elim o [ None ↦ false | Some t ↦ nat_le (n + 16) t.len ]) t.found ∙ ap (nat_le (n + 16)) t.is.len
      ∙ parts.1

  link-if : (role : Role) (each capacity : ℕ) (e : Option Extent)
      → IsTrue (has_backing role each (record { capacity = capacity; extent = e }))
      → AllByRecursion (λ x. Mem x (used ts)) (option_to_list e)
      → IsTrue (is_table_link ts role (option_map handle e) each capacity)
  link-if role each capacity None h k =
      cond-true (capacity == 0) (is_none (option_map handle None))
      (leads_to ts role (option_map handle None) (each * capacity)) h
  link-if role each capacity (Some x) h k =
      let parts = and_parts (nat_lt 0 capacity) (serves x role (each * capacity)) h in
      let some = ltb-true 0 capacity parts.0 in
      cond-false (capacity == 0) (is_none (option_map handle (Some x)))
      (leads_to ts role (Some (handle x)) (each * capacity)) (ne_eqb capacity 0 (λ e. omega arith))
      ∙ leads-passes role (each * capacity) x parts.1 k.0

  -- the link of a table
  pub link-passes : (role : Role) (each : ℕ) (t : BackingArray) (link : Option ℕ) (capacity : ℕ)
      → IsTrue (has_backing role each t) → AllByRecursion (λ x. Mem x (used ts)) (table_extents t)
      → link ≡ table_link t → capacity ≡ t.capacity → IsTrue (is_table_link ts role link each capacity)
  link-passes role each t link capacity h k e f =
      (λ i. is_table_link ts role (e i) each (f i)) ∙ link-if role each t.capacity t.extent h k

  -- ---- vectors and texts

  -- the elements, if there is a block
  stored-if : (m : Memory) (k : ScalarKind) (n : ℕ) (e : Option Extent)
      → ((x : Extent) → e ≡ Some x → IsTrue (are_spellings m k (handle x) n))
      → IsTrue (elim (option_map handle e) [ None ↦ true | Some block ↦ are_spellings m k block n ])
  stored-if m k n None f = refl
  stored-if m k n (Some x) f = f x refl

  storage-passes : (m : Memory) (at : ℕ) (k : ScalarKind) (n : ℕ) (t : BackingArray)
      → IsTrue (has_backing Storage (size_of k) t) → AllByRecursion (λ x. Mem x (used ts)) (table_extents t)
      → n ≤ t.capacity
      → link_at m at ≡ table_link t → word_at m (at + 8) ≡ n → word_at m (at + 16) ≡ t.capacity
      → ((x : Extent) → t.extent ≡ Some x → IsTrue (are_spellings m k (handle x) n))
      → IsTrue (is_storage_at m ts k at)
  storage-passes m at k n t h mem l link len capacity f =
      guarded (nat_le (word_at m (at + 8)) (word_at m (at + 16))
      && is_table_link ts Storage (link_at m at) (size_of k) (word_at m (at + 16)))
      (elim (link_at m at) [ None ↦ true | Some block ↦ are_spellings m k block (word_at m (at + 8)) ])
      (and_from (nat_le (word_at m (at + 8)) (word_at m (at + 16)))
      (is_table_link ts Storage (link_at m at) (size_of k) (word_at m (at + 16)))
      (le-leb (word_at m (at + 8)) (word_at m (at + 16)) (omega arith))
      (link-passes Storage (size_of k) t (link_at m at) (word_at m (at + 16)) h mem link capacity))
      ((λ i. elim (link i) [ None ↦ true | Some block ↦ are_spellings m k block (len i) ]) ∙ stored-if m k n t.extent f)

  -- ---- maps

  abbrev rises_in : Memory → ScalarKind → List ℕ → Bool
  rises_in m k ns = rise_by (λ a b. int_lt (key_at m k a) (key_at m k b)) ns

  keys-rise : (m : Memory) (k v : ScalarKind) (ps : List NumberPair) → IsTrue (is_rising int_lt ps)
      → AllByRecursion (λ (p : NumberPair). key_at m k (handle p.node) ≡ p.key) ps
      → IsTrue (rises_in m k (map node_handle ps))
  keys-rise m k v [] r e = refl
  keys-rise m k v (p ∷ []) r e = refl
  keys-rise m k v (p ∷ q ∷ ps) r e =
      let parts = and_parts (int_lt p.key q.key) (is_rising int_lt (q ∷ ps)) r in
      let first = e.0 in
      let second = e.1.0 in
      and_from (int_lt (key_at m k (handle p.node)) (key_at m k (handle q.node)))
      (rises_in m k (map node_handle (q ∷ ps)))
      ((λ i. int_lt (first i) (second i)) ∙ parts.0) (keys-rise m k v (q ∷ ps) parts.1 e.1)

  pair-keys : (m : Memory) (k v : ScalarKind) (ps : List NumberPair) → IsTrue (list_all (is_number_pair k v) ps)
      → AllByRecursion (IsNumberPairAt k v m) ps
      → AllByRecursion (λ (p : NumberPair). key_at m k (handle p.node) ≡ p.key) ps
  pair-keys m k v [] h s = tt
  pair-keys m k v (p ∷ ps) h s =
      let parts = and_parts (is_number_pair k v p) (list_all (is_number_pair k v) ps) h in
      let good = and_parts (is_value k p.key
      && is_value v p.value) (serves p.node Node (node_len (size_of k) (size_of v))) parts.0 in
      let values = and_parts (is_value k p.key) (is_value v p.value) good.0 in
      (number-read m k (handle p.node + 16) p.key values.0 s.0.0, pair-keys m k v ps parts.1 s.1)

  nodes-pass : (m : Memory) (k v : ScalarKind) (ps : List NumberPair) → IsTrue (list_all (is_number_pair k v) ps)
      → AllByRecursion (λ x. Mem x (used ts)) (map node_of ps)
      → AllByRecursion (IsNumberPairAt k v m) ps → IsTrue (list_all (is_node_of m ts k v) (map node_handle ps))
  nodes-pass m k v [] h mem s = refl
  nodes-pass m k v (p ∷ ps) h mem s =
      let n : ℕ = handle p.node in
      let parts = and_parts (is_number_pair k v p) (list_all (is_number_pair k v) ps) h in
      let good = and_parts (is_value k p.key
      && is_value v p.value) (serves p.node Node (node_len (size_of k) (size_of v))) parts.0 in
      let values = and_parts (is_value k p.key) (is_value v p.value) good.0 in
      and_from (is_node_of m ts k v n) (list_all (is_node_of m ts k v) (map node_handle ps))
      (and_from (leads_to ts Node (Some n) (16 + size_of k + size_of v) && are_spellings m k (n + 16) 1)
      (are_spellings m v (n + 16 + size_of k) 1)
      (and_from (leads_to ts Node (Some n) (16 + size_of k + size_of v)) (are_spellings m k (n + 16) 1)
      (leads-passes Node (node_len (size_of k) (size_of v)) p.node good.1 mem.0)
      (one-passes m k (n + 16) p.key values.0 s.0.0))
      (one-passes m v (n + 16 + size_of k) p.value values.1 s.0.1))
      (nodes-pass m k v ps parts.1 mem.1 s.1)

  map-passes : (m : Memory) (at : ℕ) (k v : ScalarKind) (ps : List NumberPair) → IsTrue (is_rising int_lt ps)
      → IsTrue (list_all (is_number_pair k v) ps) → AllByRecursion (λ x. Mem x (used ts)) (map node_of ps)
      → length ps ≤ length ts → IsNumberMapAt m at k v ps → IsTrue (is_map_at m ts k v at)
  map-passes m at k v ps r h mem l s =
      let t : Tree = s.tree.tree in
      let ns : List ℕ = map node_handle ps in
      let count : word_at m (at + 8) ≡ length ns = s.count ∙ sym (length-map ps node_handle) in
      let pairs : IsTrue (are_pairs m ts k v at ns) =
      and_from (list_all (is_node_of m ts k v) ns && rises_in m k ns && (word_at m (at + 8) == length ns))
      (word_at m (at + 16) == 0)
      (and_from (list_all (is_node_of m ts k v) ns && rises_in m k ns) (word_at m (at + 8) == length ns)
      (and_from (list_all (is_node_of m ts k v) ns) (rises_in m k ns) (nodes-pass m k v ps h mem s.pairs)
      (keys-rise m k v ps r (pair-keys m k v ps h s.pairs)))
      (eq-eqb (word_at m (at + 8)) (length ns) count))
      (eq-eqb (word_at m (at + 16)) 0 s.third) in
      ap (λ o. elim o [ None ↦ false | Some t ↦ is_red_black t && are_pairs m ts k v at (nodes_of t) ])
      (tree-read ts end a m at k v ps h mem l s.tree)
      ∙ and_from (is_red_black t) (are_pairs m ts k v at (nodes_of t)) ((reads_off.red_black t).1 s.tree.red_black)
      (ap (are_pairs m ts k v at) s.tree.lists ∙ pairs)

  -- ---- vectors of texts

  owned-link : (bytes : List ℕ) (e : Option Extent) → IsTrue (has_own_block (record { bytes = bytes; extent = e }))
      → AllByRecursion (λ x. Mem x (used ts)) (option_to_list e)
      → IsTrue (is_table_link ts Storage (option_map handle e) 1 (length bytes))
  owned-link bytes None h k = cond-true (length bytes == 0) (is_none (option_map handle None))
      (leads_to ts Storage (option_map handle None) (1 * length bytes)) h
  owned-link bytes (Some x) h k =
      let parts = and_parts (nat_lt 0 (length bytes)) (serves x Storage (length bytes)) h in
      let some = ltb-true 0 (length bytes) parts.0 in
      let one : length bytes ≡ 1 * length bytes = omega arith in
      cond-false (length bytes == 0) (is_none (option_map handle (Some x)))
      (leads_to ts Storage (Some (handle x)) (1 * length bytes)) (ne_eqb (length bytes) 0 (λ e. omega arith))
      ∙ leads-passes Storage (1 * length bytes) x (subst (λ n. IsTrue (serves x Storage n)) one parts.1) k.0

  element-range : (m : Memory) (at j : ℕ) (ps : List OwnedText) → IsTrue (list_all is_owned_text ps)
      → AllByRecursion (λ x. Mem x (used ts)) (flat_map text_extents ps)
      → AreTextLinks m (at + 16 * j) ps
      → IsTrue (list_all (is_element_at m ts) (map (λ i. at + 16 * i) (range_with_len j (length ps))))
  element-range m at j [] h mem links = refl
  element-range m at j (p ∷ ps) h mem links =
      let parts = and_parts (is_owned_text p) (list_all is_owned_text ps) h in
      let there : ℕ = at + 16 * j in
      let link = links.0 in
      let len = links.1 in
      let place : there + 16 ≡ at + 16 * (j + 1) = omega arith in
      and_from (is_element_at m ts there)
      (list_all (is_element_at m ts) (map (λ i. at + 16 * i) (range_with_len (j + 1) (length ps))))
      ((λ i. is_table_link ts Storage (link i) 1 (len i))
      ∙ owned-link p.bytes p.extent (own-block p parts.0)
      (AllByRecursion-front (λ x. Mem x (used ts)) (text_extents p) (flat_map text_extents ps) mem))
      (element-range m at (j + 1) ps parts.1
      (AllByRecursion-behind (λ x. Mem x (used ts)) (text_extents p) (flat_map text_extents ps) mem)
      (subst (λ x. AreTextLinks m x ps) place links.2))

  elements-pass : (m : Memory) (at : ℕ) (ps : List OwnedText) → IsTrue (list_all is_owned_text ps)
      → AllByRecursion (λ x. Mem x (used ts)) (flat_map text_extents ps)
      → AreTextLinks m at ps → IsTrue (list_all (is_element_at m ts) (element_offsets at (length ps)))
  elements-pass m at ps h mem links =
      let place : at ≡ at + 16 * 0 = omega arith in
      element-range m at 0 ps h mem (subst (λ x. AreTextLinks m x ps) place links)

  array-if : (m : Memory) (ps : List OwnedText) (e : Option Extent) → IsTrue (list_all is_owned_text ps)
      → AllByRecursion (λ x. Mem x (used ts)) (flat_map text_extents ps)
      → AreInArray m (record { capacity = 0; extent = e }) ps
      → IsTrue (elim (option_map handle e) [
        | None ↦ true
        | Some block ↦ list_all (is_element_at m ts) (element_offsets block (length ps))
      ])
  array-if m ps None h mem links = refl
  array-if m ps (Some x) h mem links = elements-pass m (handle x) ps h mem links

  array-passes : (m : Memory) (at : ℕ) (ps : List OwnedText) (t : BackingArray) → IsTrue (has_backing Storage 16 t)
      → AllByRecursion (λ x. Mem x (used ts)) (table_extents t) → length ps ≤ t.capacity
      → IsTrue (list_all is_owned_text ps) → AllByRecursion (λ x. Mem x (used ts)) (flat_map text_extents ps)
      → link_at m at ≡ table_link t → word_at m (at + 8) ≡ length ps → word_at m (at + 16) ≡ t.capacity
      → AreInArray m t ps → IsTrue (is_array_at m ts at)
  array-passes m at ps t h mem l v texts link len capacity s =
      guarded (nat_le (word_at m (at + 8)) (word_at m (at + 16))
      && is_table_link ts Storage (link_at m at) 16 (word_at m (at + 16)))
      (elim (link_at m at) [
        | None ↦ true
        | Some block ↦ list_all (is_element_at m ts) (element_offsets block (word_at m (at + 8)))
      ])
      (and_from (nat_le (word_at m (at + 8)) (word_at m (at + 16)))
      (is_table_link ts Storage (link_at m at) 16 (word_at m (at + 16)))
      (le-leb (word_at m (at + 8)) (word_at m (at + 16)) (omega arith))
      (link-passes Storage 16 t (link_at m at) (word_at m (at + 16)) h mem link capacity))
      ((λ i. elim (link i) [
        | None ↦ true
        | Some block ↦ list_all (is_element_at m ts) (element_offsets block (len i))
      ]) ∙ array-if m ps t.extent v texts s)

  -- ---- all kinds

  -- a good container at an offset passes its test
  pub container-passes : (m : Memory) (at : ℕ) (v : Value) → AreSmall m → IsTrue (is_good_value v)
      → IsValueAt m at v → AllByRecursion (λ x. Mem x (used ts)) (value_extents v)
      → length (value_extents v) ≤ length ts → IsTrue (is_container m ts (kind_of v, at))
  container-passes m at (Numbers k zs) small h s mem l = refl
  container-passes m at (Elements k zs t) small h s mem l =
      let two = and_parts (nat_le (length zs) t.capacity && has_backing Storage (size_of k) t)
      (list_all (is_value k) zs) h in
      let one = and_parts (nat_le (length zs) t.capacity) (has_backing Storage (size_of k) t) two.0 in
      storage-passes m at k (length zs) t one.1 mem (leb-true (length zs) t.capacity one.0) s.link s.len_word s.capacity
      (λ x e. spelled-passes m k (handle x) zs two.1 (stored-at m (spelled k zs) t.extent x e s.storage))
  container-passes m at (Bytes bs t) small h s mem l =
      let two = and_parts (nat_le (length bs) t.capacity
      && has_backing Storage 1 t) (list_all (λ b. nat_lt b 256) bs) h in
      let one = and_parts (nat_le (length bs) t.capacity) (has_backing Storage 1 t) two.0 in
      storage-passes m at U8 (length bs) t one.1 mem (leb-true (length bs) t.capacity one.0) s.link s.len_word
      s.capacity
      (λ x e. bytes-pass m (handle x) (length bs) small)
  container-passes m at (Pairs k v ps) small h s mem l =
      let parts = and_parts (is_rising int_lt ps) (list_all (is_number_pair k v) ps) h in
      let n = length-map ps node_of in
      map-passes m at k v ps parts.0 parts.1 mem (omega arith) s
  container-passes m at (Texts ps t) small h s mem l =
      let two = and_parts (nat_le (length ps) t.capacity && has_backing Storage 16 t) (list_all is_owned_text ps) h in
      let one = and_parts (nat_le (length ps) t.capacity) (has_backing Storage 16 t) two.0 in
      array-passes m at ps t one.1 (AllByRecursion-front (λ x.
      Mem x (used ts)) (table_extents t) (flat_map text_extents ps) mem) (leb-true (length ps) t.capacity one.0) two.1
      (AllByRecursion-behind (λ x. Mem x (used ts)) (table_extents t) (flat_map text_extents ps) mem) s.link
      s.len_word s.capacity s.array
