-- The meaning of the tests of containers: a map that passes has its tree, and a map with a tree passes, since each node
-- is in it once.
use Rattle.image_check.proofs.Common.{AllByRecursion, IsTrue, Kind, List, Map, Memory, Node, None, Option, Scalar}
use Rattle.image_check.proofs.Common.{ScalarKind, Some, String, Tile, Tree, Vector, [], and_from, and_parts, ap}
use Rattle.image_check.proofs.Common.{are_pairs, are_spellings, arith, cells_of, false, false≢true, int_lt}
use Rattle.image_check.proofs.Common.{is_container, is_map_at, is_node_of, is_red_black, is_some, key_at, leads_to}
use Rattle.image_check.proofs.Common.{length, length-map, link_at, list_all, map, nat_le, nodes_of, payload, reads_off}
use Rattle.image_check.proofs.Common.{refl, rise_by, size_of, some_same, subst, suc, sym, tile_of, tiles_of, tree_from}
use Rattle.image_check.proofs.Common.{values, ℕ, ℤ, ◌&&◌, ◌+◌, ◌-◌, ◌==◌, ◌∙◌, ◌∷◌, ◌≡◌, ◌≤◌}
use Rattle.std.proofs.Common.{Bool}
use Rattle.raw_region.specs.Memory.{word_at}
use Rattle.seg_types.specs.declared.kinds.Kind.TheVariants.{Strings}
use Rattle.image_check.specs.Meaning.{IsContainerIn, IsMapIn, TestsMeanRelations}
use Rattle.image_check.specs.MapLaws.{int_lt-not, int_lt-trans}
use Rattle.image_check.proofs.frame.Tags.{has_tags-AreWholeTiles}
use Rattle.image_check.proofs.bytes.Members.{Mem, list_all_from, list_all_mem, mem_map}
use Rattle.image_check.proofs.claims.ReachedLinks.{good_for-IsGood}
use Rattle.image_check.proofs.read_off.Values.{height-nodes}
use Rattle.image_check.proofs.indexes.Entries.{Distinct}
use Rattle.image_check.proofs.claims.CountedFields.{counted-means}
use Rattle.image_check.proofs.containers.Meaning.{free_tree-means, orphaned-means, shared-means}
use mathlib.Core.Logic.{inl, inr}

-- ---- as many different numbers as a list has are at most its length

-- a list without one of its members
record IsOut (y : ℕ) (ys : List ℕ) : Type 0 where
  rest : List ℕ
  len : length ys ≡ suc (length rest)
  others : (z : ℕ) → Mem z ys → (y ≡ z → ⊥) → Mem z rest

out : (y : ℕ) (ys : List ℕ) → Mem y ys → IsOut y ys
out y [] h = absurd h
out y (x ∷ ys) (inl e) = record {
  rest = ys;
  len = refl;
  others = λ z k n. elim k [ inl f ↦ absurd (n (e ∙ sym f)) | inr l ↦ l ];
}
out y (x ∷ ys) (inr h) =
    let o = out y ys h in
    record {
      rest = x ∷ o.rest;
      len = ap suc o.len;
      others = λ z k n. elim k [ inl f ↦ inl f | inr l ↦ inr (o.others z l n) ];
    }

-- the number of different members of a list is at most its length
pub no-more : (xs ys : List ℕ) → Distinct xs → ((x : ℕ) → Mem x xs → Mem x ys) → length xs ≤ length ys
no-more [] ys d f = omega arith
no-more (x ∷ xs) ys d f =
    let o = out x ys (f x (inl refl)) in
    let l = no-more xs o.rest d.1 (λ z h. o.others z (f z (inr h)) (d.0 z h)) in
    let e = o.len in
    omega arith

-- ---- keys that rise differ

key-below : (key : ℕ → ℤ) (n : ℕ) (ns : List ℕ) → IsTrue (rise_by (λ a b. int_lt (key a) (key b)) (n ∷ ns))
    → (x : ℕ) → Mem x ns → IsTrue (int_lt (key n) (key x))
key-below key n [] r x h = absurd h
key-below key n (o ∷ ns) r x (inl e) =
    ap (λ y. int_lt (key n) (key y)) e
    ∙ (and_parts (int_lt (key n) (key o)) (rise_by (λ a b. int_lt (key a) (key b)) (o ∷ ns)) r).0
key-below key n (o ∷ ns) r x (inr h) =
    let p = and_parts (int_lt (key n) (key o)) (rise_by (λ a b. int_lt (key a) (key b)) (o ∷ ns)) r in
    int_lt-trans (key n) (key o) (key x) p.0 (key-below key o ns p.1 x h)

key-tail : (key : ℕ → ℤ) (n : ℕ) (ns : List ℕ) → IsTrue (rise_by (λ a b. int_lt (key a) (key b)) (n ∷ ns))
    → IsTrue (rise_by (λ a b. int_lt (key a) (key b)) ns)
key-tail key n [] r = refl
key-tail key n (o ∷ ns) r = (and_parts (int_lt (key n) (key o)) (rise_by (λ a b. int_lt (key a) (key b)) (o ∷ ns)) r).1

keys-differ : (key : ℕ → ℤ) (ns : List ℕ) → IsTrue (rise_by (λ a b. int_lt (key a) (key b)) ns) → Distinct ns
keys-differ key [] r = tt
keys-differ key (n ∷ ns) r = (
  λ y h e. int_lt-not (key n) (ap (λ z. int_lt (key n) (key z)) e ∙ key-below key n ns r y h),
  keys-differ key ns (key-tail key n ns r),
)

-- ---- nodes of a map are tiles

node-if : (o : Option Tile) (n : ℕ) → IsTrue (elim o [ None ↦ false | Some t ↦ nat_le n t.len ])
    → (t : Tile) × (o ≡ Some t)
node-if None n h = absurd (false≢true h)
node-if (Some t) n h = (t, refl)

node-tile : (m : Memory) (ts : List Tile) (k v : ScalarKind) (n : ℕ) → IsTrue (is_node_of m ts k v n)
    → IsTrue (is_some (tile_of ts Node n)) × Mem n (map payload ts)
node-tile m ts k v n h =
    let two = and_parts (leads_to ts Node (Some n) (16 + size_of k + size_of v) && are_spellings m k (n + 16) 1)
    (are_spellings m v (n + 16 + size_of k) 1) h in
    let one = and_parts (leads_to ts Node (Some n) (16 + size_of k + size_of v)) (are_spellings m k (n + 16) 1) two.0 in
    let w = node-if (tile_of ts Node n) (16 + size_of k + size_of v + 16) one.0 in
    let g = good_for-IsGood ts Node (Some n) w.0 w.1 in (
      ap is_some w.1,
      subst (λ x. Mem x (map payload ts)) (some_same (payload w.0) n (sym g.leads))
          (mem_map payload w.0 ts g.mem),
    )

-- ---- a map that passes has its tree

-- a tree that is read off means that the map has it
pub map-if : (m : Memory) (ts : List Tile) (k v : ScalarKind) (at : ℕ) (o : Option Tree)
    → tree_from (length ts) (λ n. is_some (tile_of ts Node n)) (cells_of m) (link_at m at) ≡ o
    → IsTrue (elim o [ None ↦ false | Some t ↦ is_red_black t && are_pairs m ts k v at (nodes_of t) ])
    → IsMapIn m ts k v at
map-if m ts k v at None e h = absurd (false≢true h)
map-if m ts k v at (Some t) e h =
    let p = and_parts (is_red_black t) (are_pairs m ts k v at (nodes_of t)) h in
    record {
      tree = t;
      linked = (reads_off.sound (length ts) (λ n.
          is_some (tile_of ts Node n)) (cells_of m) (link_at m at) t e).0;
      red_black = (reads_off.red_black t).0 p.0;
      pairs = p.1;
    }

-- and a map with a tree passes
pub map-from : (m : Memory) (ts : List Tile) (k v : ScalarKind) (at : ℕ) → IsMapIn m ts k v at
    → IsTrue (is_map_at m ts k v at)
map-from m ts k v at i =
    let t : Tree = i.tree in
    let ns : List ℕ = nodes_of t in
    let less : ℕ → ℕ → Bool = λ a b. int_lt (key_at m k a) (key_at m k b) in
    let three = and_parts (list_all (is_node_of m ts k v) ns && rise_by less ns
    && (word_at m (at + 8) == length ns)) (word_at m (at + 16) == 0) i.pairs in
    let two = and_parts (list_all (is_node_of m ts k v) ns && rise_by less ns) (word_at m (at + 8) == length ns)
    three.0 in
    let one = and_parts (list_all (is_node_of m ts k v) ns) (rise_by less ns) two.0 in
    let tile : (n : ℕ) → Mem n ns → IsTrue (is_some (tile_of ts Node n)) × Mem n (map payload ts) =
    λ n h. node-tile m ts k v n (list_all_mem (is_node_of m ts k v) ns n one.0 h) in
    let few = no-more ns (map payload ts) (keys-differ (key_at m k) ns one.1) (λ n h. (tile n h).1) in
    let same = length-map ts payload in
    let low = height-nodes t in
    ap (λ o. elim o [ None ↦ false | Some t ↦ is_red_black t && are_pairs m ts k v at (nodes_of t) ])
    (reads_off.whole (length ts) (λ n. is_some (tile_of ts Node n)) (cells_of m) (link_at m at) t i.linked
    (list_all_from (λ n. is_some (tile_of ts Node n)) ns (λ n h. (tile n h).0)) (omega arith))
    ∙ and_from (is_red_black t) (are_pairs m ts k v at ns) ((reads_off.red_black t).1 i.red_black) i.pairs

container-in : (m : Memory) (ts : List Tile) (p : Kind × ℕ) → IsTrue (is_container m ts p) → IsContainerIn m ts p
container-in m ts (Scalar k, at) h = tt
container-in m ts (String, at) h = h
container-in m ts (Vector k, at) h = h
container-in m ts (Map k v, at) h =
    map-if m ts k v at (tree_from (length ts) (λ n. is_some (tile_of ts Node n)) (cells_of m) (link_at m at)) refl h
container-in m ts (Strings, at) h = h

container-from : (m : Memory) (ts : List Tile) (p : Kind × ℕ) → IsContainerIn m ts p → IsTrue (is_container m ts p)
container-from m ts (Scalar k, at) h = refl
container-from m ts (String, at) h = h
container-from m ts (Vector k, at) h = h
container-from m ts (Map k v, at) h = map-from m ts k v at h
container-from m ts (Strings, at) h = h

all-in : (m : Memory) (ts : List Tile) (ps : List (Kind × ℕ)) → IsTrue (list_all (is_container m ts) ps)
    → AllByRecursion (IsContainerIn m ts) ps
all-in m ts [] h = tt
all-in m ts (p ∷ ps) h = let w = and_parts (is_container m ts p) (list_all (is_container m ts) ps) h
    in (container-in m ts p w.0, all-in m ts ps w.1)

all-from : (m : Memory) (ts : List Tile) (ps : List (Kind × ℕ)) → AllByRecursion (IsContainerIn m ts) ps
    → IsTrue (list_all (is_container m ts) ps)
all-from m ts [] h = refl
all-from m ts (p ∷ ps) h = and_from (is_container m ts p) (list_all (is_container m ts) ps)
    (container-from m ts p h.0) (all-from m ts ps h.1)

-- the law: if the tags are good, each test agrees with its relation
pub tests_mean_relations : TestsMeanRelations
tests_mean_relations format m size h =
    let ts : List Tile = tiles_of m size in
    let a = (has_tags-AreWholeTiles format m size h).row in
    record {
      free_tree = free_tree-means format m ts;
      counted = counted-means format m ts (size - 16) a;
      shared = shared-means format m ts (size - 16) a;
      orphaned = orphaned-means format m ts (size - 16) a;
      containers = (all-in m ts (values format m ts), all-from m ts (values format m ts));
    }
