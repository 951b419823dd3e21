-- What the tests of maps let through is a good value, and so it is of values of all kinds.
use Rattle.image_check.proofs.Common.{AllByRecursion, HasBytesAt, IsNumberPairAt, IsTrue, Kind, List, Map, Memory, Node}
use Rattle.image_check.proofs.Common.{None, NumberPair, Option, Pairs, Scalar, ScalarKind, Some, String, Tile, Tree}
use Rattle.image_check.proofs.Common.{Vector, [], and_from, and_parts, ap, are_pairs, are_spellings, cells_of, eqb-true}
use Rattle.image_check.proofs.Common.{false, false≢true, handle, int_lt, is_container, is_map_at, is_node_of}
use Rattle.image_check.proofs.Common.{is_number_pair, is_red_black, is_rising, is_some, is_value, is_value_in, key_at}
use Rattle.image_check.proofs.Common.{leads_to, length, length-map, link_at, list_all, map, nodes_of, reads_off, refl}
use Rattle.image_check.proofs.Common.{rise_by, serves, size_of, some_same, spelling, subst, sym, tile_of, ℕ, ℤ, ◌&&◌}
use Rattle.image_check.proofs.Common.{◌+◌, ◌==◌, ◌∙◌, ◌∷◌, ◌≡◌}
use Rattle.std.proofs.Common.{Bool}
use Rattle.raw_region.specs.Memory.{word_at}
use Rattle.link_tree.specs.Tree.{IsRedBlack}
use Rattle.best_fit.proofs.Laws.{extents_of as used}
use Rattle.seg_types.specs.declared.kinds.Kind.TheVariants.{Strings as StringsKind}
use Rattle.seg_map.specs.Map.{node_len}
use Rattle.image_check.proofs.bytes.Numbers.{AreSmall}
use Rattle.image_check.proofs.bytes.Members.{Mem}
use Rattle.image_check.proofs.read_off.Directory.{block_for, number_from, or_nothing, pair_from, pairs_at, tree_at}
use Rattle.image_check.proofs.read_off.Directory.{value_from}
use Rattle.image_check.proofs.read_off.Values.{node_handle, node_of}
use Rattle.image_check.proofs.read_off.Numbers.{leads-back, number-stands, one-good}
use Rattle.image_check.proofs.read_off.Vectors.{IsBack, container-room, scalar-back, text-back, texts-back, vector-back}

-- ---- maps

record IsPairBack (ts : List Tile) (m : Memory) (k v : ScalarKind) (n : ℕ) (p : NumberPair) : Type 0 where
  good : IsTrue (is_number_pair k v p)
  at : handle p.node ≡ n
  mem : Mem p.node (used ts)
  stands : IsNumberPairAt k v m p
  key : p.key ≡ key_at m k n

pair-back : (ts : List Tile) (m : Memory) (k v : ScalarKind) (n : ℕ) → AreSmall m → IsTrue (is_node_of m ts k v n)
    → IsPairBack ts m k v n (pair_from m ts k v n)
pair-back ts m k v n s h =
    let two = and_parts (leads_to ts Node (Some n) (16 + size_of k + size_of v) && are_spellings m k (n + 16) 1)
    (are_spellings m v (n + 16 + size_of k) 1) h in
    let one = and_parts (leads_to ts Node (Some n) (16 + size_of k + size_of v)) (are_spellings m k (n + 16) 1) two.0 in
    let l = leads-back ts Node (Some n) (16 + size_of k + size_of v) one.0 in
    let node : or_nothing (block_for ts Node (Some n)) ≡ l.extent = ap or_nothing l.block in
    let there : handle l.extent ≡ n = sym (some_same n (handle l.extent) l.leads) in
    let at : handle (or_nothing (block_for ts Node (Some n))) ≡ n = ap handle node ∙ there in
    let key : ℤ = number_from m k (n + 16) in
    let value : ℤ = number_from m v (n + 16 + size_of k) in
    record {
      good = and_from (is_value k key
          && is_value v value) (serves (or_nothing (block_for ts Node (Some n))) Node
          (node_len (size_of k) (size_of v)))
          (and_from (is_value k key) (is_value v value) (one-good m k (n + 16) one.1)
          (one-good m v (n + 16 + size_of k) two.1))
          (subst (λ x. IsTrue (serves x Node (node_len (size_of k) (size_of v)))) (sym node) l.serves);
      at = at;
      mem = subst (λ x. Mem x (used ts)) (sym node) l.mem;
      stands =
          subst (λ a. HasBytesAt m (a + 16) (spelling k key)
          × HasBytesAt m (a + 16 + size_of k) (spelling v value)) (sym at)
          (number-stands m k (n + 16) s, number-stands m v (n + 16 + size_of k) s);
      key = refl;
    }

record ArePairsBack (ts : List Tile) (m : Memory) (k v : ScalarKind) (ns : List ℕ) : Type 0 where
  good : IsTrue (list_all (is_number_pair k v) (map (pair_from m ts k v) ns))
  handles : map node_handle (map (pair_from m ts k v) ns) ≡ ns
  mem : AllByRecursion (λ x. Mem x (used ts)) (map node_of (map (pair_from m ts k v) ns))
  stand : AllByRecursion (IsNumberPairAt k v m) (map (pair_from m ts k v) ns)

pairs-all : (ts : List Tile) (m : Memory) (k v : ScalarKind) (ns : List ℕ) → AreSmall m
    → IsTrue (list_all (is_node_of m ts k v) ns) → ArePairsBack ts m k v ns
pairs-all ts m k v [] s h = record { good = refl; handles = refl; mem = tt; stand = tt }
pairs-all ts m k v (n ∷ ns) s h =
    let p = and_parts (is_node_of m ts k v n) (list_all (is_node_of m ts k v) ns) h in
    let first = pair-back ts m k v n s p.0 in
    let rest = pairs-all ts m k v ns s p.1 in
    let at = first.at in
    let handles = rest.handles in
    record {
      good = and_from (is_number_pair k v (pair_from m ts k v n))
          (list_all (is_number_pair k v) (map (pair_from m ts k v) ns)) first.good rest.good;
      handles = λ i. at i ∷ handles i;
      mem = (first.mem, rest.mem);
      stand = (first.stands, rest.stand);
    }

keys-back : (ts : List Tile) (m : Memory) (k v : ScalarKind) (ns : List ℕ)
    → IsTrue (rise_by (λ a b. int_lt (key_at m k a) (key_at m k b)) ns)
    → IsTrue (is_rising int_lt (map (pair_from m ts k v) ns))
keys-back ts m k v [] h = refl
keys-back ts m k v (n ∷ []) h = refl
keys-back ts m k v (n ∷ o ∷ ns) h =
    let p = and_parts (int_lt (key_at m k n) (key_at m k o))
    (rise_by (λ a b. int_lt (key_at m k a) (key_at m k b)) (o ∷ ns)) h in
    and_from (int_lt (key_at m k n) (key_at m k o)) (is_rising int_lt (map (pair_from m ts k v) (o ∷ ns))) p.0
    (keys-back ts m k v (o ∷ ns) p.1)

-- the parts of a map at an offset
record IsMapRead (ts : List Tile) (m : Memory) (k v : ScalarKind) (at : ℕ) (t : Tree) : Type 0 where
  found : tree_at m ts at ≡ Some t
  red_black : IsRedBlack t
  pairs : IsTrue (are_pairs m ts k v at (nodes_of t))

map-if : (ts : List Tile) (m : Memory) (k v : ScalarKind) (at : ℕ) (o : Option Tree) → tree_at m ts at ≡ o
    → IsTrue (elim o [ None ↦ false | Some t ↦ is_red_black t && are_pairs m ts k v at (nodes_of t) ])
    → (t : Tree) × IsMapRead ts m k v at t
map-if ts m k v at None e h = absurd (false≢true h)
map-if ts m k v at (Some t) e h =
    let p = and_parts (is_red_black t) (are_pairs m ts k v at (nodes_of t)) h in
    (t, record { found = e; red_black = (reads_off.red_black t).0 p.0; pairs = p.1 })

map-back : (ts : List Tile) (m : Memory) (k v : ScalarKind) (count at end : ℕ) → AreSmall m
    → IsTrue (is_value_in m (Map k v) count at end) → IsTrue (is_map_at m ts k v at)
    → IsBack ts m at end (Map k v) count (Pairs k v (pairs_at m ts k v at))
map-back ts m k v count at end s h c =
    let r = container-room m count at end h in
    let w = map-if ts m k v at (tree_at m ts at) refl c in
    let t : Tree = w.0 in
    let ns : List ℕ = nodes_of t in
    let less : ℕ → ℕ → Bool = λ a b. int_lt (key_at m k a) (key_at m k b) in
    let three = and_parts (list_all (is_node_of m ts k v) ns && rise_by less ns
    && (word_at m (at + 8) == length ns)) (word_at m (at + 16) == 0) w.1.pairs in
    let two = and_parts (list_all (is_node_of m ts k v) ns && rise_by less ns) (word_at m (at + 8) == length ns)
    three.0 in
    let one = and_parts (list_all (is_node_of m ts k v) ns) (rise_by less ns) two.0 in
    let all = pairs-all ts m k v ns s one.0 in
    let ps : List NumberPair = map (pair_from m ts k v) ns in
    let is : pairs_at m ts k v at ≡ ps =
    ap (λ o. elim o [ None ↦ [] | Some t ↦ map (pair_from m ts k v) (nodes_of t) ]) w.1.found in
    let linked = (reads_off.sound (length ts) (λ n.
    is_some (tile_of ts Node n)) (cells_of m) (link_at m at) t w.1.found).0 in
    let back : IsBack ts m at end (Map k v) count (Pairs k v ps) = record {
      kind = refl;
      count_is = sym r.0;
      good = and_from (is_rising int_lt ps) (list_all (is_number_pair k v) ps) (keys-back ts m k v ns one.1) all.good;
      stands = record {
        count = eqb-true (word_at m (at + 8)) (length ns) two.1 ∙ sym (length-map ns (pair_from m ts k v));
        third = eqb-true (word_at m (at + 16)) 0 three.1;
        tree = record { tree = t; linked = linked; red_black = w.1.red_black; lists = sym all.handles };
        pairs = all.stand;
      };
      mem = all.mem;
      tree = (t, w.1.found, sym all.handles);
      room = r.1;
    } in
    subst (λ qs. IsBack ts m at end (Map k v) count (Pairs k v qs)) (sym is) back

-- ---- all kinds

-- bytes that pass their tests encode a good value
pub value-back : (ts : List Tile) (m : Memory) (k : Kind) (count at end : ℕ) → AreSmall m
    → IsTrue (is_value_in m k count at end) → IsTrue (is_container m ts (k, at))
    → IsBack ts m at end k count (value_from m ts k count at)
value-back ts m (Scalar k) count at end s h c = scalar-back ts m k count at end s h
value-back ts m String count at end s h c = text-back ts m count at end s h c
value-back ts m (Vector k) count at end s h c = vector-back ts m k count at end s h c
value-back ts m (Map k v) count at end s h c = map-back ts m k v count at end s h c
value-back ts m StringsKind count at end s h c = texts-back ts m count at end s h c
