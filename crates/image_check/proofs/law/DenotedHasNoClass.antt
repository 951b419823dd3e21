-- No class holds of bytes that denote a directory.
use Rattle.image_check.proofs.Common.{AllByRecursion, BackingArray, Bytes, Denotes, Directory, Elements, Extent, Field}
use Rattle.image_check.proofs.Common.{ImageClass, Index, IsTrue, IsValueAt, List, LiveSet, Memory, Node, None, Numbers}
use Rattle.image_check.proofs.Common.{Option, Pairs, Rising, Role, Row, Some, Storage, Texts, Tile, Value, []}
use Rattle.image_check.proofs.Common.{and_parts, and_right, ap, arith, as_extent, bytes_of, class_of, classes}
use Rattle.image_check.proofs.Common.{cond-false, counted_fields, eq-eqb, false, false≢true, flat_map, handle}
use Rattle.image_check.proofs.Common.{has_containers, has_indexes, has_objects, has_tags, int_lt, is_good_value}
use Rattle.image_check.proofs.Common.{is_legal_size, is_number_pair, is_orphaned, is_rising, is_shared, is_tiled}
use Rattle.image_check.proofs.Common.{lay_out_one, leads_there, length, length-map, list_all, list_any, live-rises, map}
use Rattle.image_check.proofs.Common.{map-append, needs_owner, not, not_from_true, object_len, payload, refl, same_role}
use Rattle.image_check.proofs.Common.{size_word, sorted, subst, sym, table_extents, tiles_of, true, value_extents, ℕ}
use Rattle.image_check.proofs.Common.{◌&&◌, ◌++◌, ◌+◌, ◌-◌, ◌<◌, ◌∙◌, ◌∷◌, ◌≡◌, ◌≤◌}
use Rattle.std.proofs.Common.{Bool}
use Rattle.std.specs.Prelude.{find}
use Rattle.block_tags.specs.declared.tile.Role.TheVariants.{Object as ObjectRole}
use Rattle.best_fit.specs.Extents.{holds, is_proper, proper_from}
use Rattle.best_fit.specs.FreeTree.{IsFreeTree}
use Rattle.best_fit.specs.Heap.{live_of}
use Rattle.best_fit.proofs.Laws.{extents_of as used}
use Rattle.segment_manager.specs.Directory.{Object, extents_of, live}
use Rattle.segment_manager.specs.Denotes.{IsHeader}
use Rattle.segment_manager.proofs.Laws.{live-extents, live-size, rising-insert, tables_of}
use Rattle.image_check.specs.Classes.{holds as class_holds}
use Rattle.image_check.proofs.bytes.Numbers.{AreSmall}
use Rattle.image_check.proofs.frame.Tags.{has_tags-AreWholeTiles}
use Rattle.image_check.proofs.bytes.Members.{Mem, list_any_false, list_any_from, mem_all, mem_filter_map, mem_flat_map}
use Rattle.image_check.proofs.bytes.Members.{mem_left, mem_map, mem_of_flat_map, mem_of_map, mem_parts, mem_right}
use Rattle.image_check.proofs.block_collection.UsedTile.{mem-sorted, same_role-is}
use Rattle.image_check.proofs.read_off.Values.{node_of, tree-read}
use Rattle.image_check.proofs.claims.ReachedLinks.{field}
use Rattle.image_check.proofs.read_off.OwnBlocks.{IsOther, is_object_extent}
use Rattle.image_check.proofs.law.Uniqueness.{all_extents, denotes-IsRead, few, from-use, good-object, named-in-use}
use Rattle.image_check.proofs.law.Uniqueness.{named-table, stands, tiles_in, unique-in-use, unique-table, value-in-use}
use Rattle.image_check.proofs.frame.Formats.{IsFramed, framed-clean, free_tree-passes}
use Rattle.image_check.proofs.indexes.Entries.{Distinct}
use Rattle.image_check.proofs.read_off.GoodObjects.{containers-pass, indexes-pass, objects-pass, values-has, values-of}
use Rattle.image_check.proofs.claims.Fields.{IsTreeRead, element-same, index-same, option-targets, storage-same}
use Rattle.image_check.proofs.claims.Fields.{table_claims, target_in, value-targets}
use Rattle.image_check.proofs.claims.UnsharedFields.{none-shared, one_field}
use Rattle.image_check.proofs.claims.CountedClaims.{IsClaimed, all_claims, claimed-counted, claims_of, counted-claimed}
use Rattle.image_check.proofs.claims.CountedClaims.{index_at, tables_claims}
use mathlib.Core.Logic.{◌⊎◌, inl, inr}

-- ---- extents that are apart have different handles

-- extents that rise have different handles
pub distinct-extents : (n : ℕ) (xs : List Extent) → Rising n (sorted xs) → Distinct (map handle xs)
distinct-extents n [] r = tt
distinct-extents n (x ∷ xs) r =
    let f = rising-insert n x (sorted xs) r in (
      λ y k e.
          let i = mem_of_map handle y xs k in
          mem_all (λ (z : Extent). x.offset ≡ z.offset
          → ⊥) (sorted xs) i.one f.differs (mem-sorted i.one xs i.mem) (same-offset x i.one (e ∙ i.is)),
      distinct-extents n xs f.rest,
    )
  where
    same-offset : (x y : Extent) → handle x ≡ handle y → x.offset ≡ y.offset
    same-offset x y e = omega arith

-- ---- the claims lead to the blocks

-- with the objects' own blocks
abbrev own : Object → Field
own o = field 0 (handle o.extent)

abbrev object_claims : Memory → List Tile → Object → List Field
object_claims m ts o = own o ∷ claims_of m ts o

-- the fields of two indexes lead to their blocks
pub both-targets : (named unique : BackingArray)
    → map target_in (tables_claims named unique) ≡ map handle (table_extents named ++ table_extents unique)
both-targets named unique =
    map-append target_in (table_claims 32 named) (table_claims 56 unique)
    ∙ (λ i. option-targets 32 named.extent i ++ option-targets 56 unique.extent i)
    ∙ sym (map-append handle (table_extents named) (table_extents unique))

objects-targets : (m : Memory) (ts : List Tile) (os : List Object)
    → ((o : Object) → Mem o os → IsTrue (is_good_value o.value))
    → ((o : Object) → Mem o os → IsTreeRead m ts o.value (index_at o))
    → map target_in (flat_map (object_claims m ts) os) ≡ map handle (flat_map extents_of os)
objects-targets m ts [] g r = refl
objects-targets m ts (o ∷ os) g r =
    let first : map target_in (object_claims m ts o) ≡ map handle (extents_of o) =
    ap (λ xs. handle o.extent ∷ xs) (value-targets m ts o.value (index_at o) (g o (inl refl)) (r o (inl refl))) in
    let rest = objects-targets m ts os (λ p k. g p (inr k)) (λ p k. r p (inr k)) in
    map-append target_in (object_claims m ts o) (flat_map (object_claims m ts) os)
    ∙ (λ i. first i ++ rest i)
    ∙ sym (map-append handle (extents_of o) (flat_map extents_of os))

-- all claims of a directory
pub whole_claims : Memory → List Tile → List Object → BackingArray → BackingArray → List Field
whole_claims m ts os named unique = flat_map (object_claims m ts) os ++ tables_claims named unique

-- all fields of a directory lead to the extents that it names, in order
pub whole-targets : (m : Memory) (ts : List Tile) (os : List Object) (named unique : BackingArray)
    → ((o : Object) → Mem o os → IsTrue (is_good_value o.value))
    → ((o : Object) → Mem o os → IsTreeRead m ts o.value (index_at o))
    → map target_in (whole_claims m ts os named unique)
    ≡ map handle (flat_map extents_of os ++ (table_extents named ++ table_extents unique))
unfolding whole_claims
whole-targets m ts os named unique g r =
    map-append target_in (flat_map (object_claims m ts) os) (tables_claims named unique)
    ∙ (λ i. objects-targets m ts os g r i ++ both-targets named unique i)
    ∙ sym (map-append handle (flat_map extents_of os) (table_extents named ++ table_extents unique))

objects-whole : (m : Memory) (ts : List Tile) (os : List Object) (f : Field) → Mem f (flat_map (claims_of m ts) os)
    → Mem f (flat_map (object_claims m ts) os)
objects-whole m ts [] f k = k
objects-whole m ts (o ∷ os) f k = elim (mem_parts f (claims_of m ts o) (flat_map (claims_of m ts) os) k) [
  | inl a ↦ inr (mem_left f (claims_of m ts o) (flat_map (object_claims m ts) os) a)
  | inr a ↦ inr (mem_right f (claims_of m ts o) (flat_map (object_claims m ts) os) (objects-whole m ts os f a))
]

-- a field of an object or an index is among all claims
pub in-whole : (m : Memory) (ts : List Tile) (os : List Object) (named unique : BackingArray) (f : Field)
    → Mem f (all_claims m ts os named unique) → Mem f (whole_claims m ts os named unique)
unfolding whole_claims
in-whole m ts os named unique f k = elim (mem_parts f (flat_map (claims_of m ts) os) (tables_claims named unique) k) [
  | inl a ↦ mem_left f (flat_map (object_claims m ts) os) (tables_claims named unique) (objects-whole m ts os f a)
  | inr a ↦ mem_right f (flat_map (object_claims m ts) os) (tables_claims named unique) a
]

-- ---- a denoted directory's claims are the fields that count

tree-of : (m : Memory) (ts : List Tile) (end : ℕ) → Row 128 ts end → (v : Value) (at : ℕ) → IsTrue (is_good_value v)
    → IsValueAt m at v → AllByRecursion (λ x. Mem x (used ts)) (value_extents v)
    → length (value_extents v) ≤ length ts → IsTreeRead m ts v at
tree-of m ts end a (Numbers k zs) at h s mem l = tt
tree-of m ts end a (Elements k zs t) at h s mem l = tt
tree-of m ts end a (Bytes bs t) at h s mem l = tt
tree-of m ts end a (Pairs k v ps) at h s mem l =
    let parts = and_parts (is_rising int_lt ps) (list_all (is_number_pair k v) ps) h in
    let n = length-map ps node_of in
    (s.tree.tree, tree-read ts end a m at k v ps parts.1 mem (omega arith) s.tree, s.tree.lists)
tree-of m ts end a (Texts ps t) at h s mem l = tt

-- the use of a tile that needs a link
needs-other : (offset len : ℕ) (use_of : Option Role) (red : Bool)
    → IsTrue (needs_owner (record { offset = offset; len = len; use_of = use_of; red = red }))
    → (x : Extent) × (as_extent (record { offset = offset; len = len; use_of = use_of; red = red }) ≡ Some x)
    × (handle x ≡ offset + 16) × (is_object_extent x ≡ false)
needs-other offset len None red h = absurd (false≢true h)
needs-other offset len (Some ObjectRole) red h = absurd (false≢true h)
needs-other offset len (Some Index) red h = (record { offset = offset; len = len; role = Index }, refl, refl, refl)
needs-other offset len (Some Storage) red h = (record { offset = offset; len = len; role = Storage }, refl, refl, refl)
needs-other offset len (Some Node) red h = (record { offset = offset; len = len; role = Node }, refl, refl, refl)

module _ (format : ℕ) (b : List ℕ) (d : Directory) (s : AreSmall (bytes_of b)) (h : Denotes format b d) where
  tiles : Row 128 (tiles_in b) (length b - 16)
  tiles = (denotes-IsRead format b d h).tiles

  good : (o : Object) → Mem o d.objects → IsTrue (is_good_value o.value)
  good o k = (good-object format b d s h o k).value

  at-place : (o : Object) → Mem o d.objects → IsValueAt (bytes_of b) (index_at o) o.value
  at-place o k = (stands format b d s h o k).value

  trees : (o : Object) → Mem o d.objects → IsTreeRead (bytes_of b) (tiles_in b) o.value (index_at o)
  trees o k = tree-of (bytes_of b) (tiles_in b) (length b - 16) tiles o.value (index_at o) (good o k) (at-place o k)
      (value-in-use format b d s h o k) (few format b d s h o k)

  pub claimed : IsClaimed format (bytes_of b) (tiles_in b) d.objects d.named d.unique
  claimed = record {
    of = λ p k. (let v = values-of format b d s h p k in record { object = v.object; mem = v.mem; is = v.is });
    has = λ o k. values-has format b d s h o k;
    storage = λ o k. storage-same (tiles_in b) (length b - 16) tiles (bytes_of b) o.value (index_at o) (good o k)
        (at-place o k) (value-in-use format b d s h o k);
    elements = λ o k. element-same (tiles_in b) (length b - 16) tiles (bytes_of b) o.value (index_at o) (good o k)
        (at-place o k) (value-in-use format b d s h o k);
    tree = trees;
    named_field = index-same (tiles_in b) (length b - 16) tiles (bytes_of b) Index 8 32 d.named
        (named-table format b d s h) (named-in-use format b d s h) h.named.link h.named.capacity;
    unique_field = index-same (tiles_in b) (length b - 16) tiles (bytes_of b) Index 8 56 d.unique
        (unique-table format b d s h) (unique-in-use format b d s h) h.unique.link h.unique.capacity;
  }

  -- ---- class 10

  claims-distinct : Distinct (map target_in (whole_claims (bytes_of b) (tiles_in b) d.objects d.named d.unique))
  claims-distinct =
      subst Distinct (sym (whole-targets (bytes_of b) (tiles_in b) d.objects d.named d.unique good trees))
      (distinct-extents 128 (all_extents d)
      (subst (Rising 128) (live-extents d) (live-rises (live d) h.directory.proper)))

  in-claims : (f : Field) → Mem f (counted_fields format (bytes_of b) (tiles_in b))
      → Mem f (whole_claims (bytes_of b) (tiles_in b) d.objects d.named d.unique)
  in-claims f k = in-whole (bytes_of b) (tiles_in b) d.objects d.named d.unique f
      (counted-claimed format (bytes_of b) (tiles_in b) d.objects d.named d.unique claimed f k)

  pub unshared : is_shared format (bytes_of b) (tiles_in b) ≡ false
  unshared =
      none-shared (counted_fields format (bytes_of b) (tiles_in b)) (λ f g k l e.
      ap (λ (x : Field). x.at) (one_field (whole_claims (bytes_of b) (tiles_in b) d.objects d.named d.unique) f g
      claims-distinct (in-claims f k) (in-claims g l) e))

  -- ---- class 12

  -- a field leads to the extent
  record IsLed (x : Extent) : Type 0 where
    by : Field
    counts : Mem by (counted_fields format (bytes_of b) (tiles_in b))
    leads : by.target ≡ handle x

  led-from : (x : Extent) (fs : List Field) → Mem (handle x) (map target_in fs)
      → ((f : Field) → Mem f fs → Mem f (all_claims (bytes_of b) (tiles_in b) d.objects d.named d.unique)) → IsLed x
  led-from x fs k c =
      let i = mem_of_map target_in (handle x) fs k in
      record {
        by = i.one;
        counts = claimed-counted format (bytes_of b) (tiles_in b) d.objects d.named d.unique
            claimed i.one (c i.one i.mem);
        leads = sym i.is;
      }

  led-object : (x : Extent) → IsOther x → (o : Object) → Mem o d.objects → Mem x (extents_of o) → IsLed x
  led-object x e o k (inl f) =
      let r = same_role-is o.extent.role ObjectRole
      (and_parts (same_role o.extent.role ObjectRole) (holds o.extent (object_len o.name o.value))
      (good-object format b d s h o k).serves).0 in
      let here : is_object_extent x ≡ true = ap is_object_extent f ∙ ap (same_role ObjectRole) r in
      absurd (false≢true (sym e ∙ here))
  led-object x e o k (inr l) =
      led-from x (claims_of (bytes_of b) (tiles_in b) o)
      (subst (Mem (handle x)) (sym (value-targets (bytes_of b) (tiles_in b) o.value (index_at o) (good o k)
      (trees o k))) (mem_map handle x (value_extents o.value) l))
      (λ f g.
      mem_left f (flat_map (claims_of (bytes_of b) (tiles_in b)) d.objects) (tables_claims d.named d.unique)
      (mem_flat_map (claims_of (bytes_of b) (tiles_in b)) o f d.objects k g))

  led-if : (x : Extent) → IsOther x → Mem x (flat_map extents_of d.objects) ⊎ Mem x (tables_of d) → IsLed x
  led-if x e (inl k) = let p = mem_of_flat_map extents_of x d.objects k in led-object x e p.one p.mem p.is
  led-if x e (inr k) =
      led-from x (tables_claims d.named d.unique)
      (subst (Mem (handle x)) (sym (both-targets d.named d.unique)) (mem_map handle x (tables_of d) k))
      (λ f g. mem_right f (flat_map (claims_of (bytes_of b) (tiles_in b)) d.objects) (tables_claims d.named d.unique) g)

  led : (x : Extent) → IsOther x → Mem x (used (tiles_in b)) → IsLed x
  led x e k = led-if x e (mem_parts x (flat_map extents_of d.objects) (tables_of d) (from-use format b d s h x k))

  owned-if : (t : Tile) → Mem t (tiles_in b) → (q : Bool) → needs_owner t ≡ q
      → (q && not (list_any (leads_there t) (counted_fields format (bytes_of b) (tiles_in b)))) ≡ false
  owned-if t k false e = refl
  owned-if t k true e =
      let n = needs-other t.offset t.len t.use_of t.red e in
      let x : Extent = n.0 in
      let l = led x n.3 (mem_filter_map as_extent t x (tiles_in b) k n.1) in
      let there : l.by.target ≡ payload t = l.leads ∙ n.2 in
      not_from_true (list_any (leads_there t) (counted_fields format (bytes_of b) (tiles_in b)))
      (list_any_from (leads_there t) (counted_fields format (bytes_of b) (tiles_in b)) l.by l.counts
      (eq-eqb l.by.target (payload t) there))

  pub owned : is_orphaned format (bytes_of b) (tiles_in b) ≡ false
  owned =
      list_any_false (λ t. needs_owner t
      && not (list_any (leads_there t) (counted_fields format (bytes_of b) (tiles_in b)))) (tiles_in b)
      (λ t k. owned-if t k (needs_owner t) refl)

  -- ---- the frame

  legal-of : (l : LiveSet) → IsTrue (is_proper l) → IsTrue (is_legal_size l.size)
  unfolding is_proper
  legal-of l p = (and_parts (is_legal_size l.size) (proper_from 128 l.extents (l.size - 16)) p).0

  pub framed : IsFramed format b
  unfolding live_of
  framed =
      let size : length b ≡ d.size = (denotes-IsRead format b d h).size in
      let same : (live d).size ≡ length b = live-size d ∙ sym size in
      let tags = subst (λ n. IsTrue (has_tags format (bytes_of b) n)) same h.heap.tiles.tags in
      let whole = has_tags-AreWholeTiles format (bytes_of b) (length b) tags in
      record {
        legal = subst (λ n. IsTrue (is_legal_size n)) same (legal-of (live d) h.directory.proper);
        size = h.header.size_word ∙ sym size;
        header = subst (IsHeader format (bytes_of b)) (sym size) h.header;
        tags = tags;
        free_tree = free_tree-passes format (bytes_of b) (length b) (tiles_in b) whole.row whole.apart
            (subst (IsFreeTree format (bytes_of b)) (sym (lay_out_one format b (live d) h.heap)) h.heap.free);
      }

  -- ---- all classes

  none_found : (p : ImageClass → Bool) (cs : List ImageClass) → AllByRecursion (λ c. p c ≡ false) cs → find p cs ≡ None
  none_found p [] k = refl
  none_found p (c ∷ cs) k = cond-false (p c) (Some c) (find p cs) k.0 ∙ none_found p cs k.1

  pub denoted-no_class : format < 4294967296 → class_of format b ≡ None
  denoted-no_class small =
      let m : Memory = bytes_of b in
      let early = framed-clean format b small s framed in
      let same = framed.size in
      let ts : List Tile = tiles_of m (size_word b) in
      let there : tiles_in b ≡ ts = ap (tiles_of m) (sym same) in
      let index = subst (λ us. IsTrue (has_indexes m us)) there (indexes-pass format b d s h) in
      let object = subst (λ us. IsTrue (has_objects format m us)) there (objects-pass format b d s h) in
      let container = subst (λ us. IsTrue (has_containers format m us)) there (containers-pass format b d s h) in
      let share = subst (λ us. is_shared format m us ≡ false) there unshared in
      let orphan = subst (λ us. is_orphaned format m us ≡ false) there owned in
      none_found (class_holds format b) classes (
        early.truncated,
        (
          early.magic,
          (
            early.version,
            (
              early.size,
              (
                early.reserved,
                (
                  early.tags,
                  (
                    early.free_tree,
                    (
                      and_right (is_tiled format b) (not (has_indexes m ts)) (not_from_true (has_indexes m ts) index),
                      (
                        and_right (is_tiled format b) (not (has_objects format m ts))
                            (not_from_true (has_objects format m ts) object),
                        (
                          and_right (is_tiled format b) (is_shared format m ts) share,
                          (
                            and_right (is_tiled format b) (not (has_containers format m ts))
                                (not_from_true (has_containers format m ts) container),
                            (and_right (is_tiled format b) (is_orphaned format m ts) orphan, tt),
                          ),
                        ),
                      ),
                    ),
                  ),
                ),
              ),
            ),
          ),
        ),
      )

-- no class holds of bytes that denote a directory
pub no_class : (format : ℕ) (b : List ℕ) (d : Directory) → format < 4294967296 → AreSmall (bytes_of b)
    → Denotes format b d → class_of format b ≡ None
no_class format b d small s h = denoted-no_class format b d s h small
