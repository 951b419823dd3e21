-- The pairs of one map of an image, as the nodes of a tree with links of any value.
use Rattle.std.specs.Prelude.{ℕ, ◌+◌, Bool, false, ◌&&◌, ◌==◌, nat_le, int_lt, Option, Some, None, if◌then◌else◌}
use Rattle.raw_region.specs.Memory.{Memory, WindowState, bytes_of, read}
use Rattle.offset_link.specs.Link.{link_at}
use Rattle.link_tree.specs.Tree.{Cell}
use Rattle.block_tags.specs.declared.tile.Role.TheVariants.{Node}
use Rattle.best_fit.specs.Table.{same_role}
use Rattle.best_fit.specs.FreeTree.{is_red}
use Rattle.seg_types.specs.declared.kinds.ScalarKind.{ScalarKind}
use Rattle.seg_types.specs.Kinds.{size_of, is_spelling}
use Rattle.image_check.specs.declared.owners.Block.{Block}
use Rattle.image_check.specs.declared.owners.Owner.{Owner}
use Rattle.image_check.specs.Fields.{key_at}
use Rattle.image_check.specs.FreeNodes.{is_target}
use Rattle.image_check.specs.Owners.{Blocks, block_at}

-- the length of a node with two links, a key and a value, including its tag
abbrev pub pair_len : ScalarKind → ScalarKind → ℕ
pair_len k v = 16 + size_of k + size_of v + 16

-- a link leads to the block, and the first link on the way is at this offset
abbrev pub is_rooted : ℕ → Option Owner → Bool
is_rooted root None = false
is_rooted root (Some o) = o.root == root

-- whether the block is a node of this many bytes, and its first link is at this offset
abbrev pub is_node_block : ℕ → ℕ → Option Block → Bool
is_node_block root len None = false
is_node_block root len (Some b) = same_role Node b.role && nat_le len b.len && is_rooted root b.owner

-- whether a node is a pair of the map whose root link is at this offset, with a valid key and a valid value
unfoldable pub is_pair : WindowState → Blocks → ℕ → ScalarKind → ScalarKind → ℕ → Bool
is_pair c es root k v n =
    is_target c n && is_node_block root (pair_len k v) (block_at es n)
    && is_spelling k (read (bytes_of c.bytes) (n + 16) (size_of k))
    && is_spelling v (read (bytes_of c.bytes) (n + 16 + size_of k) (size_of v))

-- the target of a link of a node: if it leads to no pair, the node itself, since no ordered tree has a node below
-- itself
abbrev pub kept_link : (ℕ → Bool) → ℕ → Option ℕ → Option ℕ
kept_link good n None = None
kept_link good n (Some target) = Some (if good target then target else n)

-- the cell of a pair's node
unfoldable pub pair_cells : WindowState → Blocks → ℕ → ScalarKind → ScalarKind → ℕ → Cell
pair_cells c es root k v n =
    record {
      left = kept_link (is_pair c es root k v) n (link_at (bytes_of c.bytes) n);
      right = kept_link (is_pair c es root k v) n (link_at (bytes_of c.bytes) (n + 8));
      red = is_red (bytes_of c.bytes) n;
    }

-- whether the key of one pair precedes the key of another
abbrev pub key_before : Memory → ScalarKind → ℕ → ℕ → Bool
key_before m k a b = int_lt (key_at m k a) (key_at m k b)
