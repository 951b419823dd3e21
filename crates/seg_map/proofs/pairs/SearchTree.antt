-- The pairs of a map as a search tree.
use Rattle.seg_map.proofs.Common as common
use common.{◌≡◌, refl, sym, ap, ◌∙◌, ℕ, ◌+◌, ◌≤◌, ◌≢◌, inl, inr, Bool, true, ◌&&◌, not, List, ◌∷◌, length, map, arith}
use common.{◌==◌, Option, Some, None, find, option_map, AllByRecursion, list_all, reverse, and_parts, cases_Bool}
use common.{eq-eqb, le-leb, leb-true, Memory, HasBytesAt, bytes_of, read, WindowState, Node, link_at, Tree, IsTree}
use common.{nodes_of, is_sorted, first_not_before, is_in, last_before, leads, all_from, root_in, tree_same, Extent}
use common.{LiveSet, handle, cells_of, others, KeepsBlocks, SameBlock, extent_at, live_of, value_in, IsKeyTree, keys_in}
use common.{Pair, IsPairAt, is_rising, HoldsMap, IsPairIn, first_pair, is_passed, last_pair, nodes_of_pairs, pair_node}
use common.{before_key, comes_before, stands, is_pair_node, key_at, key_of, links_among, own_nodes, pair_cells}
use common.{stands_before, Chains, IsStrict, IsGoodNodeSet, In, PairNode-is_pair_node, cells_at, node_block, Plain, []}
use common.{length-map}
use Rattle.seg_map.proofs.pairs.Lists.{HaveKeys, all_reversed, each, each_both, find_mapped, map_reversed}
use Rattle.seg_map.proofs.{pairs.Lists.nodes_in as pairs_in, pairs.NodeBlocks.all_in, pairs.NodeBlocks.any_at}
use Rattle.seg_map.proofs.{pairs.NodeBlocks.in_others}
use Rattle.std.proofs.Common.{◌^◌}
use Rattle.link_tree.proofs.Laws.{above_more, bits_most, bounds_height, reads_off, tree_limit}
use Rattle.best_fit.specs.Table.{same_role, serves}
use Rattle.best_fit.proofs.Laws.{holds_closed}
use Rattle.seg_types.proofs.Laws.{value-spelled}
use Rattle.seg_map.specs.PairNodes.{is_block_in, nodes_in}
use Rattle.seg_map.specs.PairLaws.{comes_irreflexive, comes_transitive, few_extents, handles_length, in_handles}

-- the laws of a plain type
pub record Laws {T : Type 0} (p : Plain T) : Type 0 where
  pub spells : (x : T) → p.is_value x ≡ true → length (p.spelling x) ≡ p.SIZE
  pub reads : (x : T) → p.is_value x ≡ true → p.reading (p.spelling x) ≡ Some x
  pub irreflexive : IsStrict p.order
  pub transitive : Chains p.order

-- the value that bytes spell
abbrev pub value_of : {T : Type 0} → Plain T → List ℕ → Option T
value_of p = value_in p.reading p.is_value p.spelling

-- a value that is spelled is read
pub read_spelled : {T : Type 0} (p : Plain T) → Laws p → (m : Memory) (at : ℕ) (x : T) → p.is_value x ≡ true
    → HasBytesAt m at (p.spelling x) → value_of p (read m at p.SIZE) ≡ Some x
read_spelled p l m at x one h = value-spelled p.reading p.is_value p.spelling l.reads x (read m at p.SIZE) one
    (sym h ∙ ap (read m at) (l.spells x one))

-- a pair of a map: its key, its value, and the contents of its block
pub record PairParts {K V : Type 0} (kp : Plain K) (vp : Plain V) (p : Pair K V) : Type 0 where
  pub key : kp.is_value p.key ≡ true
  pub value : vp.is_value p.value ≡ true
  pub serves : serves p.node Node (16 + kp.SIZE + vp.SIZE) ≡ true
  pub role : same_role p.node.role Node ≡ true
  pub long : 16 + kp.SIZE + vp.SIZE + 16 ≤ p.node.len

-- a pair of a map, in its parts
pub pair_parts : {K V : Type 0} {kp : Plain K} {vp : Plain V} {live : LiveSet} {h : ℕ} {p : Pair K V}
    → IsPairIn kp vp live h p → PairParts kp vp p
pair_parts {kp = kp} {vp = vp} {p = p} i =
    let parts = and_parts _ _ i.good in let values = and_parts _ _ parts.0 in let two = and_parts _ _ parts.1 in
    record {
      key = values.0;
      value = values.1;
      serves = parts.1;
      role = two.0;
      long = leb-true (16 + kp.SIZE + vp.SIZE + 16) p.node.len two.1;
    }

-- the block that is found is in the list
pub found_in : (xs : List Extent) (h : ℕ) (x : Extent) → find (λ (y : Extent). handle y == h) xs ≡ Some x → In x xs
found_in [] h x e = absurd (cc)
found_in (y ∷ ys) h x e =
    elim (cases_Bool (handle y == h)) [
      | inl t ↦ let is : y ≡ x = cc in inl is
      | inr n ↦ inr (found_in ys h x (rw n at e))
    ]

-- a block stays where all but another do
pub other_block : {c d : WindowState} (live : LiveSet) (h g : ℕ) {x : Extent} → KeepsBlocks c d (others h live.extents)
    → extent_at live g ≡ Some x → handle x ≢ h → SameBlock (bytes_of c.bytes) (bytes_of d.bytes) x
other_block {c} {d} live h g {x} k f o = all_in (SameBlock (bytes_of c.bytes) (bytes_of d.bytes))
    (others h live.extents) x k.blocks (in_others h x live.extents (found_in live.extents g x f) o)

module _ {K V : Type 0} (less : K → K → Bool) where
  pub rising_nodes : Chains less → (keys : ℕ → Option K) (ps : List (Pair K V)) → HaveKeys keys ps
      → is_rising less ps ≡ true → is_sorted (comes_before less keys) (nodes_of_pairs ps) ≡ true
  rising_nodes on keys [] k r = refl
  rising_nodes on keys (p ∷ []) k r = refl
  rising_nodes on keys (p ∷ q ∷ qs) k r =
      let two = and_parts _ _ r in let rest = rising_nodes on keys (q ∷ qs) k.1 two.1 in
      let parts = and_parts _ _ rest in
      let below : comes_before less keys (pair_node p) (pair_node q) ≡ true =
      (λ i. before_key less (k.0 i) (k.1.0 i)) ∙ two.0 in
      rw (
        below,
        above_more (comes_before less keys) (comes_transitive less on keys) (pair_node p) (pair_node q)
            (nodes_of_pairs qs) below parts.0,
        rest,
      ) refl

  -- the first node is that of the first pair
  pub first_node : (keys : ℕ → Option K) (past : Bool) (key : K) (ps : List (Pair K V)) → HaveKeys keys ps
      → first_not_before (stands_before less keys past key) (nodes_of_pairs ps) ≡ option_map pair_node
      (first_pair less past key ps)
  first_node keys past key ps k = find_mapped pair_node (λ n. not (stands_before less keys past key n))
      (λ p. not (is_passed less past key p)) ps (each ps k (λ p e. ap (λ o. not (stands less past key o)) e))

  -- and the last node that of the last pair
  pub last_node : (keys : ℕ → Option K) (past : Bool) (key : K) (ps : List (Pair K V)) → HaveKeys keys ps
      → last_before (stands_before less keys past key) (nodes_of_pairs ps) ≡ option_map pair_node
      (last_pair less past key ps)
  last_node keys past key ps k = ap (find (stands_before less keys past key)) (map_reversed pair_node ps)
      ∙ find_mapped pair_node (stands_before less keys past key) (is_passed less past key) (reverse ps)
      (all_reversed (λ (p : Pair K V). stands_before less keys past key (pair_node p) ≡ is_passed less past key p) ps
      (each ps k (λ p e. ap (stands less past key) e)))

-- a property of each pair
pub pairs_all : {K V : Type 0} (P : ℕ → Bool) (Q : Pair K V → Type 0) (ps : List (Pair K V))
    → ((p : Pair K V) → Q p → P (pair_node p) ≡ true) → AllByRecursion Q ps → list_all P (nodes_of_pairs ps) ≡ true
pairs_all P Q [] f a = refl
pairs_all P Q (p ∷ ps) f a = rw (f p a.0, pairs_all P Q ps f a.1) refl

-- ---- the tree of a map

module _ {K V : Type 0} {kp : Plain K} {vp : Plain V} (laws : Laws kp) (c : WindowState) {h at : ℕ}
    {ps : List (Pair K V)} (s : HoldsMap kp vp c.bytes h at ps) where
  -- the block of a pair is a node block
  pub pair_block : (p : Pair K V) → IsPairIn kp vp (live_of c.bytes) h p
      → is_block_in (16 + kp.SIZE) (live_of c.bytes) (pair_node p) ≡ true
  pair_block p i =
      let q = pair_parts i in
      any_at (λ (x : Extent). (handle x == pair_node p) && serves x Node (16 + kp.SIZE))
      (live_of c.bytes).extents p.node (found_in (live_of c.bytes).extents (handle p.node) p.node i.listed)
      (rw (eq-eqb (handle p.node) (pair_node p) refl, q.role, le-leb (16 + kp.SIZE + 16) p.node.len (omega arith)) refl)

  -- the nodes of the map are good
  pub good : IsGoodNodeSet (16 + kp.SIZE) (nodes_of s.map.tree.tree) c
  good =
      let ns = nodes_of s.map.tree.tree in
      record {
        proper = s.heap.proper;
        blocks = rw s.map.tree.lists (pairs_all (is_block_in (16 + kp.SIZE) (live_of c.bytes))
            (IsPairIn kp vp (live_of c.bytes) h) ps pair_block s.pairs);
        links = all_from (links_among (bytes_of c.bytes) ns) ns (λ m i.
            let k = holds_closed (cells_of (bytes_of c.bytes)) s.map.tree.tree m s.map.tree.linked.holds i in
            rw (k.left, k.right) refl);
      }

-- the pairs with their bytes
pub with_bytes : {K V : Type 0} {kp : Plain K} {vp : Plain V} {b : List ℕ} {h at : ℕ} {ps : List (Pair K V)}
    → HoldsMap kp vp b h at ps → AllByRecursion (λ (p : Pair K V). IsPairIn kp vp (live_of b) h p
    × IsPairAt kp.SIZE kp.spelling vp.spelling (bytes_of b) p) ps
with_bytes {ps = ps} s = each_both ps s.pairs s.map.pairs (λ p i b. (i, b))

-- the key of a pair's node is the pair's
pub key_is : {K V : Type 0} {kp : Plain K} {vp : Plain V} → Laws kp
    → (own : List ℕ) (c : WindowState) {h : ℕ} {p : Pair K V}
    → is_pair_node (16 + kp.SIZE) own c (pair_node p) ≡ true → IsPairIn kp vp (live_of c.bytes) h p
    → IsPairAt kp.SIZE kp.spelling vp.spelling (bytes_of c.bytes) p → keys_in kp own c (pair_node p) ≡ Some p.key
unfolding key_of key_at
key_is {kp = kp} l own c {p = p} e i b =
    rw e (read_spelled kp l (bytes_of c.bytes) (handle p.node + 16) p.key (pair_parts i).key b.0)

-- the lent nodes can be more than the nodes of the tree
module _ {K V : Type 0} {kp : Plain K} {vp : Plain V} (laws : Laws kp) {c : WindowState} {h at : ℕ}
    {ps : List (Pair K V)} (s : HoldsMap kp vp c.bytes h at ps) {own : List ℕ} (g : IsGoodNodeSet (16 + kp.SIZE) own c)
    (among : (m : ℕ) → is_in m (nodes_of s.map.tree.tree) ≡ true → is_in m own ≡ true) where
  node_in : (n : ℕ) → is_in n (nodes_of s.map.tree.tree) ≡ true → is_pair_node (16 + kp.SIZE) own c n ≡ true
  node_in n i = PairNode-is_pair_node (16 + kp.SIZE) own c n (record { good = g; listed = among n i })

  -- the keys that are read from the nodes are the keys of the pairs
  pub keys_among : HaveKeys (keys_in kp own c) ps
  keys_among = each_both ps (pairs_in (nodes_of s.map.tree.tree) ps (λ m i. ap (is_in m) s.map.tree.lists ∙ i))
      (with_bytes s) (λ p i w. key_is laws own c (node_in (pair_node p) i) w.0 w.1)

  leads_among : (o : Option ℕ) → IsTree (cells_of (bytes_of c.bytes)) o s.map.tree.tree
      → leads (is_pair_node (16 + kp.SIZE) own c) o ≡ true
  leads_among None k = refl
  leads_among (Some n) k = node_in n (root_in (cells_of (bytes_of c.bytes)) n s.map.tree.tree k)

  -- the pairs make a search tree
  pub tree_among : IsKeyTree kp own c (link_at (bytes_of c.bytes) (h + at)) s.map.tree.tree
  tree_among =
      let root = link_at (bytes_of c.bytes) (h + at) in
      record {
        tree = record {
          tree = tree_same (cells_of (bytes_of c.bytes)) (pair_cells (16 + kp.SIZE) own c) root s.map.tree.tree
              (λ m i. cells_at (16 + kp.SIZE) own c m (node_in m i)) s.map.tree.linked;
          ordered = ap (is_sorted (comes_before kp.order (keys_in kp own c))) s.map.tree.lists
              ∙ rising_nodes kp.order laws.transitive (keys_in kp own c) ps keys_among s.rising;
          red_black = s.map.tree.red_black;
        };
        leads = leads_among root s.map.tree.linked;
      }

module _ {K V : Type 0} {kp : Plain K} {vp : Plain V} (laws : Laws kp) (c : WindowState) {h at : ℕ}
    {ps : List (Pair K V)} (s : HoldsMap kp vp c.bytes h at ps) where
  abbrev t : Tree
  t = s.map.tree.tree

  abbrev ns : List ℕ
  ns = nodes_of s.map.tree.tree

  abbrev by : ℕ → Option K
  by = keys_in kp (nodes_of s.map.tree.tree) c

  -- the keys are the keys of the pairs
  pub keys : HaveKeys by ps
  keys = keys_among laws s (good laws c s) (λ m i. i)

  -- the tree is ordered by these keys
  pub key_tree : IsKeyTree kp ns c (link_at (bytes_of c.bytes) (h + at)) t
  key_tree = tree_among laws s (good laws c s) (λ m i. i)

  pub few_pairs : length ns ≤ 2 ^ 30
  few_pairs =
      let xs = (live_of c.bytes).extents in
      let l = tree_limit (comes_before kp.order by) (comes_transitive kp.order laws.transitive by)
      (comes_irreflexive kp.order laws.irreflexive by) (map handle xs) t key_tree.tree.ordered (λ m i.
      let b = node_block (16 + kp.SIZE) ns c m (record { good = good laws c s; listed = i }) in
      in_handles xs b.extent m b.listed b.at) in
      let f = few_extents (live_of c.bytes) s.heap.proper in let e = handles_length xs in omega arith

  -- the nodes of the map are these
  pub own : own_nodes c.bytes (link_at (bytes_of c.bytes) (h + at)) None ≡ ns
  unfolding own_nodes
  own =
      let few = few_pairs in
      let tall = bounds_height t s.map.tree.red_black in let most = bits_most (length ns) (omega arith) in
      ap nodes_in (reads_off.whole 82 (λ n. true) (cells_of (bytes_of c.bytes)) (link_at (bytes_of c.bytes) (h + at)) t
      s.map.tree.linked (all_from (λ n. true) ns (λ m i. refl)) (omega arith))

-- a map has few pairs
pub few_in_map : {K V : Type 0} {kp : Plain K} {vp : Plain V} (kl : Laws kp) (c : WindowState) {h at : ℕ}
    {ps : List (Pair K V)} (s : HoldsMap kp vp c.bytes h at ps) → length ps ≤ 1073741824
few_in_map kl c {ps = ps} s = omega (arith, few_pairs kl c s, ap length s.map.tree.lists ∙ length-map ps pair_node)
