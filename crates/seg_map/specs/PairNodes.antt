-- The pairs of a map as the nodes of a tree. The handle of a pair's block is the node's name; the block contains its
-- two links, and the block's tag has its colour.
use Rattle.std.specs.Prelude.{ℕ, ◌+◌, ◌-◌, ◌%◌, Bool, true, false, ◌&&◌, ◌||◌, not, Option, Some, None, List, [], ◌∷◌}
use Rattle.std.specs.Prelude.{◌++◌, ◌==◌, nat_le, nat_lt, if◌then◌else◌}
use Rattle.std.specs.List.{list_all, list_any}
use Rattle.raw_region.specs.Memory.{Memory, WindowState, bytes_of, read, word_at}
use Rattle.block_tags.specs.declared.tile.Role.TheVariants.{Node}
use Rattle.link_tree.specs.{Tree.Cell, Tree.Tree, Tree.nodes_of, Tree.tree_from, Nodes.is_in, Nodes.leads}
use Rattle.best_fit.specs.Extents.{Extent, LiveSet, handle, end_of, is_proper}
use Rattle.best_fit.specs.{FreeTree.cells_of, Heap.is_live_in, Heap.live_of, Table.serves}

-- whether a node block in use with room for this many bytes has this handle
abbrev pub is_block_in : ℕ → LiveSet → ℕ → Bool
is_block_in len live n = list_any (λ (x : Extent). (handle x == n) && serves x Node len) live.extents

-- whether each of a node's two links is null or leads to a node of the list
abbrev pub links_among : Memory → List ℕ → ℕ → Bool
links_among m ns n = leads (λ k. is_in k ns) (cells_of m n).left && leads (λ k. is_in k ns) (cells_of m n).right

-- whether each number of the list is a node block whose links lead to nodes of the list
abbrev pub is_good : ℕ → List ℕ → WindowState → Bool
is_good len ns c =
    is_proper (live_of c.bytes) && list_all (is_block_in len (live_of c.bytes)) ns && list_all
    (links_among (bytes_of c.bytes) ns) ns

-- whether blocks and links are good, and the list contains the number
unfoldable pub is_pair_node : ℕ → List ℕ → WindowState → ℕ → Bool
is_pair_node len ns c n = is_good len ns c && is_in n ns

abbrev pub no_cell : Cell
no_cell = record { left = None; right = None; red = false }

-- the cell of a lent node
unfoldable pub pair_cells : ℕ → List ℕ → WindowState → ℕ → Cell
pair_cells len ns c n = if is_pair_node len ns c n then cells_of (bytes_of c.bytes) n else no_cell

-- the value that the bytes after a node's links encode, or none
unfoldable pub key_at : {K : Type 0} → (List ℕ → Option K) → ℕ → Memory → ℕ → Option K
key_at value size m n = value (read m (n + 16) size)

-- the key of a node, or none for a number that is no node
unfoldable pub key_of : {K : Type 0} → (List ℕ → Option K) → ℕ → List ℕ → WindowState → ℕ → Option K
key_of value size ns c n = if is_pair_node (16 + size) ns c n then key_at value size (bytes_of c.bytes) n else None

abbrev pub before_key : {K : Type 0} → (K → K → Bool) → Option K → Option K → Bool
before_key less None y = false
before_key less (Some x) None = false
before_key less (Some x) (Some y) = less x y

abbrev pub comes_before : {K : Type 0} → (K → K → Bool) → (ℕ → Option K) → ℕ → ℕ → Bool
comes_before less keys a b = before_key less (keys a) (keys b)

-- whether the key is below the other, or not above it if `past` is true
abbrev pub stands : {K : Type 0} → (K → K → Bool) → Bool → K → Option K → Bool
stands less past key None = false
stands less past key (Some x) = if past then not (less key x) else less x key

-- whether the key of a node is below another, or not above it if `past` is true
abbrev pub stands_before : {K : Type 0} → (K → K → Bool) → (ℕ → Option K) → Bool → K → ℕ → Bool
stands_before less keys past key n = stands less past key (keys n)

-- a key and a value, if both are there
abbrev pub both : {K V : Type 0} → Option K → Option V → Option (K × V)
both None y = None
both (Some x) None = None
both (Some x) (Some y) = Some (x, y)

-- ---- the state that a change of links and colours of nodes keeps

abbrev pub is_link_byte : List ℕ → ℕ → Bool
is_link_byte ns k = list_any (λ n. nat_le n k && nat_lt k (n + 16)) ns

abbrev pub lies_in_block : LiveSet → ℕ → Bool
lies_in_block live k = list_any (λ (x : Extent). nat_le (handle x) k && nat_lt k (end_of x)) live.extents

-- whether the byte lies in the header, except its word 24, or in the payload of a block, except the links of nodes
abbrev pub is_kept : List ℕ → LiveSet → ℕ → Bool
is_kept ns live k = (nat_lt k 24 || (nat_le 32 k && nat_lt k 128) || lies_in_block live k) && not (is_link_byte ns k)

-- whether the block is in use and no node
abbrev pub is_other : List ℕ → LiveSet → ℕ → Bool
is_other ns live h = is_live_in live h && not (is_in h ns)

-- the nodes, the bytes around the window, the blocks in use, and their bytes and colours except the nodes' links and
-- colours
pub record PairTreeFrame : Type 0 where
  pub own : List ℕ
  pub before : List ℕ
  pub after : List ℕ
  pub live : LiveSet
  pub byte : ℕ → ℕ
  pub colour : ℕ → ℕ

-- the state that a change of the map's tree keeps
unfoldable pub kept_of : List ℕ → WindowState → PairTreeFrame
kept_of ns c =
    record {
      own = ns;
      before = c.before;
      after = c.after;
      live = live_of c.bytes;
      byte = λ k. if is_kept ns (live_of c.bytes) k then bytes_of c.bytes k else 0;
      colour = λ h. if is_other ns (live_of c.bytes) h then word_at (bytes_of c.bytes) (h - 8) % 16 else 0;
    }

-- ---- the nodes of a map: the nodes of its tree, and the spare one

abbrev pub of_option : Option ℕ → List ℕ
of_option None = []
of_option (Some n) = n ∷ []

abbrev pub nodes_in : Option Tree → List ℕ
nodes_in None = []
nodes_in (Some t) = nodes_of t

-- the nodes of a map's tree, read down to the greatest height, and the spare node
unfoldable pub own_nodes : List ℕ → Option ℕ → Option ℕ → List ℕ
own_nodes b root spare = of_option spare ++ nodes_in (tree_from 82 (λ n. true) (cells_of (bytes_of b)) root)
