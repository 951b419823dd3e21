-- The gaps of a window as the nodes of a tree. The payload of a gap is its name and contains its two links; its tag has
-- the colour.
use Rattle.std.specs.Prelude.{ℕ, ◌+◌, Bool, false, ◌&&◌, ◌||◌, not, Option, Some, None, List, length, map, filter_map}
use Rattle.std.specs.Prelude.{find, ◌==◌, nat_le, nat_lt, if◌then◌else◌}
use Rattle.std.specs.List.{list_all, list_any}
use Rattle.raw_region.specs.Memory.{Memory, WindowState, bytes_of}
use Rattle.block_tags.specs.declared.tile.Tile.{Tile}
use Rattle.raw_region.specs.Format.{current}
use Rattle.block_tags.specs.Format.{is_legal_size}
use Rattle.block_tags.specs.Tiles.{has_tags, is_free, tiles_of}
use Rattle.link_tree.specs.Tree.{Cell}
use Rattle.link_tree.specs.Nodes.{is_in, leads}
use Rattle.best_fit.specs.Extents.{Gap}
use Rattle.best_fit.specs.FreeTree.{cells_of, payloads}
use Rattle.best_fit.specs.declared.heap.nodes.GapProbe.{GapProbe}

-- the tiles of a window's tags
abbrev pub tiles_in : WindowState → List Tile
tiles_in c = tiles_of (bytes_of c.bytes) (length c.bytes)

-- a free tile is a gap
abbrev pub gap_of : Tile → Gap
gap_of t = record { offset = t.offset; len = t.len }

abbrev pub as_gap : Tile → Option Gap
as_gap t = elim t.use_of [ None ↦ Some (gap_of t) | Some role ↦ None ]

-- the gaps among tiles
abbrev pub gaps_of : List Tile → List Gap
gaps_of ts = filter_map as_gap ts

-- the gaps of a window
abbrev pub gaps_in : WindowState → List Gap
gaps_in c = gaps_of (tiles_in c)

-- the length of the gap that has this payload, or 0
abbrev pub len_in : List Gap → ℕ → ℕ
len_in gs n = elim (find (λ (g : Gap). g.offset + 16 == n) gs) [ None ↦ 0 | Some g ↦ g.len ]

-- one gap precedes another: by length, and then by offset
abbrev pub comes_before : List Gap → ℕ → ℕ → Bool
comes_before gs a b = nat_lt (len_in gs a) (len_in gs b) || ((len_in gs a == len_in gs b) && nat_lt a b)

-- whether the gap is shorter than the probe, or as long and at a lesser offset
abbrev pub stands_before : List Gap → GapProbe → ℕ → Bool
stands_before gs sought n =
    nat_lt (len_in gs n) sought.len || ((len_in gs n == sought.len) && nat_lt n sought.from)

-- the probe for the first gap of at least some length
abbrev pub from_first : ℕ → GapProbe
from_first wanted = record { len = wanted; from = 0 }

-- the probe that finds a gap itself
abbrev pub own_probe : List Gap → ℕ → GapProbe
own_probe gs n = record { len = len_in gs n; from = n }

-- whether each of a node's two links is null or leads to a node
abbrev pub links_among : Memory → List ℕ → ℕ → Bool
links_among m ns n = leads (λ k. is_in k ns) (cells_of m n).left && leads (λ k. is_in k ns) (cells_of m n).right

abbrev pub has_links : WindowState → Bool
has_links c = list_all (links_among (bytes_of c.bytes) (payloads (gaps_in c))) (payloads (gaps_in c))

-- whether the tags are good, and each link of a gap is null or leads to a gap
abbrev pub is_good : WindowState → Bool
is_good c = is_legal_size (length c.bytes) && has_tags current (bytes_of c.bytes) (length c.bytes) && has_links c

-- whether the window has good tags and links, and the number is the payload of a gap
unfoldable pub is_gap_node : WindowState → ℕ → Bool
is_gap_node c n = is_good c && is_in n (payloads (gaps_in c))

abbrev pub no_cell : Cell
no_cell = record { left = None; right = None; red = false }

unfoldable pub gap_cells : WindowState → ℕ → Cell
unfolding is_gap_node
gap_cells c n = if is_good c && is_in n (payloads (gaps_in c)) then cells_of (bytes_of c.bytes) n else no_cell

-- ---- the state that a change of links and colours of gaps keeps

-- a tile, black if it is free
abbrev pub plain : Tile → Tile
plain t = record t { red = not (is_free t) && t.red }

-- the offset of a tile's bytes after its tag and, if it is free, its links
abbrev pub own_from : Tile → ℕ
own_from t = t.offset + (if is_free t then 32 else 16)

-- whether the byte is one of the bytes after the tags and links of these tiles
abbrev pub lies_behind : List Tile → ℕ → Bool
lies_behind ts k = list_any (λ (t : Tile). nat_le (own_from t) k && nat_lt k (t.offset + t.len)) ts

-- whether the byte lies in the header, in the payload of a block in use or in the free bytes of a gap
abbrev pub is_kept : List Tile → ℕ → Bool
is_kept ts k = nat_lt k 128 || lies_behind ts k

-- the bytes around the window, its tiles except the colours of gaps, the header, the payloads of blocks and the free
-- bytes of gaps
pub record GapTreeFrame : Type 0 where
  pub before : List ℕ
  pub after : List ℕ
  pub size : ℕ
  pub tiles : List Tile
  pub byte : ℕ → ℕ

-- the state that a change of the free tree keeps
unfoldable pub kept_of : WindowState → GapTreeFrame
kept_of c =
    record {
      before = c.before;
      after = c.after;
      size = length c.bytes;
      tiles = map plain (tiles_in c);
      byte = λ k. if is_kept (tiles_in c) k then bytes_of c.bytes k else 0;
    }
