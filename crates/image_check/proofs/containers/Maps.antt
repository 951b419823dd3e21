-- The test of a map passes exactly if its pairs are an ordered red-black tree of as many nodes as its count.
use Rattle.image_check.proofs.Common.{AreBlocks, AreFollowed, Blocks, HasTiles, IsMarkedLink, IsSearchTree}
use Rattle.image_check.proofs.Common.{List, Node, None, Option, ScalarKind, Some, Tree, WindowState, all_at}
use Rattle.image_check.proofs.Common.{all_from, and_from, and_parts, ap, bytes_of, cases_Bool, cells_of, cond-false}
use Rattle.image_check.proofs.Common.{cond-true, eq-eqb, eqb-true, false, inl, inr, int_lt, is_in, is_map_at}
use Rattle.image_check.proofs.Common.{is_node_of, is_some, kept_link, key_at, leads, length, link_at, list_all}
use Rattle.image_check.proofs.Common.{nodes_of, refl, rise_by, root_of, subst, sym, tile_of, tree_from, true, ℕ, ◌&&◌}
use Rattle.image_check.proofs.Common.{◌+◌, ◌==◌, ◌≡◌}
use Rattle.std.proofs.Common.{Bool}
use Rattle.raw_region.specs.Memory.{word_at}
use Rattle.link_tree.proofs.Laws.{tree_same}
use Rattle.best_fit.proofs.Laws.{holds_closed}
use Rattle.image_check.specs.Passes.{tiles_in}
use Rattle.image_check.specs.MapNodes.{is_pair, key_before, pair_cells}
use Rattle.image_check.specs.MapLaws.{keys_irreflexive, keys_transitive, pairs_left, pairs_right}
use Rattle.image_check.proofs.containers.MapMeaning.{map-from, map-if}
use Rattle.image_check.proofs.containers.MapTests.{pair-node, tree-pairs}
use Rattle.image_check.proofs.containers.TreeCells.{is_sorted-from, is_sorted-next, nodes-good, same-cells}
use Rattle.image_check.proofs.free_tree.Meaning.{root_among}

-- the tree over the pairs, and the two words after the root link
pub record MapFound (c : WindowState) (es : Blocks) (k v : ScalarKind) (at : ℕ) : Type 0 where
  pub tree : Tree
  pub root : leads (is_pair c es at k v) (link_at (bytes_of c.bytes) at) ≡ true
  pub search : IsSearchTree (key_before (bytes_of c.bytes) k) (pair_cells c es at k v)
      (link_at (bytes_of c.bytes) at) tree
  pub count : length (nodes_of tree) ≡ word_at (bytes_of c.bytes) (at + 8)
  pub zero : word_at (bytes_of c.bytes) (at + 16) ≡ 0

-- ---- links that lead to pairs are read unchanged

kept-good : (good : ℕ → Bool) (n : ℕ) (o : Option ℕ) → leads good o ≡ true → kept_link good n o ≡ o
kept-good good n None h = refl
kept-good good n (Some x) h = ap Some (cond-true (good x) x n h)

kept-bad : (good : ℕ → Bool) (n : ℕ) (o : Option ℕ) → (kept_link good n o ≡ Some n → ⊥) → kept_link good n o ≡ o
kept-bad good n None h = refl
kept-bad good n (Some x) h = elim (cases_Bool (good x)) [
  | inl e ↦ ap Some (cond-true (good x) x n e)
  | inr e ↦ absurd (h (ap Some (cond-false (good x) x n e)))
]

both-cells : (c : WindowState) (es : Blocks) (root : ℕ) (k v : ScalarKind) (n : ℕ)
    → kept_link (is_pair c es root k v) n (link_at (bytes_of c.bytes) n) ≡ link_at (bytes_of c.bytes) n
    → kept_link (is_pair c es root k v) n (link_at (bytes_of c.bytes) (n + 8)) ≡ link_at (bytes_of c.bytes) (n + 8)
    → pair_cells c es root k v n ≡ cells_of (bytes_of c.bytes) n
unfolding pair_cells
both-cells c es root k v n l r = λ i. record { left = l i; right = r i; red = (cells_of (bytes_of c.bytes) n).red }

good-cells : (c : WindowState) (es : Blocks) (root : ℕ) (k v : ScalarKind) (n : ℕ)
    → leads (is_pair c es root k v) (link_at (bytes_of c.bytes) n) ≡ true
    → leads (is_pair c es root k v) (link_at (bytes_of c.bytes) (n + 8)) ≡ true
    → pair_cells c es root k v n ≡ cells_of (bytes_of c.bytes) n
good-cells c es root k v n l r =
    both-cells c es root k v n (kept-good (is_pair c es root k v) n (link_at (bytes_of c.bytes) n) l)
    (kept-good (is_pair c es root k v) n (link_at (bytes_of c.bytes) (n + 8)) r)

own-cells : (c : WindowState) (es : Blocks) (root : ℕ) (k v : ScalarKind) (n : ℕ)
    → ((pair_cells c es root k v n).left ≡ Some n → ⊥) → ((pair_cells c es root k v n).right ≡ Some n → ⊥)
    → pair_cells c es root k v n ≡ cells_of (bytes_of c.bytes) n
unfolding pair_cells
own-cells c es root k v n l r =
    both-cells c es root k v n (kept-bad (is_pair c es root k v) n (link_at (bytes_of c.bytes) n) l)
    (kept-bad (is_pair c es root k v) n (link_at (bytes_of c.bytes) (n + 8)) r)

-- a link among nodes that all are good
among-good : (good : ℕ → Bool) (ns : List ℕ) (o : Option ℕ) → ((n : ℕ) → is_in n ns ≡ true → good n ≡ true)
    → leads (λ n. is_in n ns) o ≡ true → leads good o ≡ true
among-good good ns None f h = refl
among-good good ns (Some n) f h = f n h

-- ---- where the test is passed, the tree is found

pub map-found : (c : WindowState) (es : Blocks) (k v : ScalarKind) (at : ℕ) → HasTiles c.bytes
    → AreFollowed (bytes_of c.bytes) (tiles_in c.bytes) es
    → IsMarkedLink (bytes_of c.bytes) (tiles_in c.bytes) es Node at at
    → is_map_at (bytes_of c.bytes) (tiles_in c.bytes) k v at ≡ true → MapFound c es k v at
map-found c es k v at tiles a noted h =
    let m = bytes_of c.bytes in
    let ts = tiles_in c.bytes in
    let is = map-if m ts k v at (tree_from (length ts) (λ n.
    is_some (tile_of ts Node n)) (cells_of m) (link_at m at)) refl h in
    let ns : List ℕ = nodes_of is.tree in
    let less : ℕ → ℕ → Bool = λ x y. int_lt (key_at m k x) (key_at m k y) in
    let three = and_parts (list_all (is_node_of m ts k v) ns && rise_by less ns
    && (word_at m (at + 8) == length ns)) (word_at m (at + 16) == 0) is.pairs in
    let two = and_parts (list_all (is_node_of m ts k v) ns && rise_by less ns) (word_at m (at + 8) == length ns)
    three.0 in
    let one = and_parts (list_all (is_node_of m ts k v) ns) (rise_by less ns) two.0 in
    let pairs : (n : ℕ) → is_in n ns ≡ true → is_pair c es at k v n ≡ true =
    tree-pairs c es at k v tiles a at is.tree is.linked.root is.linked.holds noted (λ n i.
    all_at (is_node_of m ts k v) ns n one.0 i) in
    let same : (n : ℕ) → is_in n ns ≡ true → pair_cells c es at k v n ≡ cells_of m n = λ n i.
    let closed = holds_closed (cells_of m) is.tree n is.linked.holds i in
    good-cells c es at k v n (among-good (is_pair c es at k v) ns (link_at m n) pairs closed.left)
    (among-good (is_pair c es at k v) ns (link_at m (n + 8)) pairs closed.right) in
    record {
      tree = is.tree;
      root = among-good (is_pair c es at k v) ns (link_at m at) pairs
          (root_among (cells_of m) (link_at m at) is.tree is.linked);
      search = record {
        tree = tree_same (cells_of m) (pair_cells c es at k v) (link_at m at) is.tree same is.linked;
        ordered = is_sorted-from less (keys_transitive m k) ns one.1;
        red_black = is.red_black;
      };
      count = sym (eqb-true (word_at m (at + 8)) (length ns) two.1);
      zero = eqb-true (word_at m (at + 16)) 0 three.1;
    }

-- ---- and where it is found, the test is passed

-- a map that was found passes the test
pub found-map : (c : WindowState) (es : Blocks) (k v : ScalarKind) (at : ℕ) → AreBlocks (tiles_in c.bytes) es
    → MapFound c es k v at → is_map_at (bytes_of c.bytes) (tiles_in c.bytes) k v at ≡ true
found-map c es k v at a f =
    let m = bytes_of c.bytes in
    let ts = tiles_in c.bytes in
    let ns : List ℕ = nodes_of f.tree in
    let less : ℕ → ℕ → Bool = λ x y. int_lt (key_at m k x) (key_at m k y) in
    let holds = f.search.tree.holds in
    let root : leads (is_pair c es at k v) (root_of f.tree) ≡ true =
    subst (λ o. leads (is_pair c es at k v) o ≡ true) f.search.tree.root f.root in
    let pairs : (n : ℕ) → is_in n ns ≡ true → is_pair c es at k v n ≡ true =
    nodes-good (is_pair c es at k v) (pair_cells c es at k v) (pairs_left c es at k v) (pairs_right c es at k v)
    f.tree holds root in
    let same : (n : ℕ) → is_in n ns ≡ true → cells_of m n ≡ pair_cells c es at k v n =
    same-cells (key_before m k) (keys_irreflexive m k) (pair_cells c es at k v) (cells_of m) f.tree holds
    f.search.ordered (λ n l r. sym (own-cells c es at k v n l r)) in
    map-from m ts k v at (record {
      tree = f.tree;
      linked = tree_same (pair_cells c es at k v) (cells_of m) (link_at m at) f.tree same f.search.tree;
      red_black = f.search.red_black;
      pairs = and_from (list_all (is_node_of m ts k v) ns && rise_by less ns && (word_at m (at + 8) == length ns))
          (word_at m (at + 16) == 0)
          (and_from (list_all (is_node_of m ts k v) ns && rise_by less ns) (word_at m (at + 8) == length ns)
          (and_from (list_all (is_node_of m ts k v) ns) (rise_by less ns) (all_from (is_node_of m ts k v) ns (λ n i.
          pair-node c es at k v n a (pairs n i))) (is_sorted-next less ns f.search.ordered))
          (eq-eqb (word_at m (at + 8)) (length ns) (sym f.count))) (eq-eqb (word_at m (at + 16)) 0 f.zero);
    })

-- a map that was not found fails the test
pub not-map : (c : WindowState) (es : Blocks) (k v : ScalarKind) (at : ℕ) → HasTiles c.bytes
    → AreFollowed (bytes_of c.bytes) (tiles_in c.bytes) es
    → IsMarkedLink (bytes_of c.bytes) (tiles_in c.bytes) es Node at at → (MapFound c es k v at → ⊥)
    → is_map_at (bytes_of c.bytes) (tiles_in c.bytes) k v at ≡ false
not-map c es k v at tiles a noted never = elim (cases_Bool (is_map_at (bytes_of c.bytes) (tiles_in c.bytes) k v at)) [
  | inl e ↦ absurd (never (map-found c es k v at tiles a noted e))
  | inr e ↦ e
]
