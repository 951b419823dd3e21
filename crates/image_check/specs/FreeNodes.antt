-- The offsets of a window at which a payload can begin, as the nodes of a tree with links of any value.
use Rattle.std.specs.Prelude.{ℕ, ◌+◌, ◌-◌, ◌*◌, ◌/◌, Bool, true, ◌&&◌, not, Option, Some, None, List, length}
use Rattle.std.specs.Prelude.{if◌then◌else◌}
use Rattle.raw_region.specs.Memory.{Memory, WindowState, bytes_of, word_at}
use Rattle.offset_link.specs.Link.{is_handle_offset, link_at}
use Rattle.offset_link.specs.Relinked.{is_bad}
use Rattle.link_tree.specs.Tree.{Cell}
use Rattle.link_tree.specs.Nodes.{is_in}
use Rattle.block_tags.specs.declared.tile.Tile.{Tile}
use Rattle.block_tags.specs.Format.{is_legal_size}
use Rattle.block_tags.specs.Tiles.{is_free}
use Rattle.best_fit.specs.FreeTree.{is_red}
use Rattle.best_fit.specs.GapLaws.{comes}

-- whether a payload can begin at the offset
unfoldable pub is_target : WindowState → ℕ → Bool
is_target c n = is_legal_size (length c.bytes) && is_handle_offset (length c.bytes) n

-- the target of a link; none if no payload can begin there
unfoldable pub good_target : ℕ → Option ℕ → Option ℕ
good_target size None = None
good_target size (Some n) = if is_handle_offset size n then Some n else None

-- the links as cells: each offset at which a payload can begin is a node, and a link to any other offset is null
unfoldable pub target_cells : WindowState → ℕ → Cell
unfolding good_target
target_cells c n =
    record {
      left = good_target (length c.bytes) (link_at (bytes_of c.bytes) n);
      right = good_target (length c.bytes) (link_at (bytes_of c.bytes) (n + 8));
      red = is_red (bytes_of c.bytes) n;
    }

-- the length in the tag before a payload
abbrev pub len_at : Memory → ℕ → ℕ
len_at m n = word_at m (n - 8) / 16 * 16

-- one node precedes another: by length, and then by offset
abbrev pub stands_before : Memory → ℕ → ℕ → Bool
stands_before m a b = comes (len_at m a) a (len_at m b) b

-- whether a node precedes a node of this length at this offset
abbrev pub is_before : Memory → ℕ → ℕ → ℕ → Bool
is_before m len node n = comes (len_at m n) n len node

-- whether each of a node's two links is null or leads to an offset at which a payload can begin
abbrev pub has_good_links : WindowState → ℕ → Bool
has_good_links c n = not (is_bad (length c.bytes) (link_at (bytes_of c.bytes) n))
    && not (is_bad (length c.bytes) (link_at (bytes_of c.bytes) (n + 8)))

-- whether the tile is in use, or is one of these nodes with good links
abbrev pub is_planted : WindowState → List ℕ → Tile → Bool
is_planted c ns t = if is_free t then is_in (t.offset + 16) ns && has_good_links c (t.offset + 16) else true
