-- Trees of gaps while a heap changes: the tree at word 24 contains some of the gaps.
use Rattle.std.specs.Prelude.{◌≡◌, ℕ, ◌+◌, ◌≤◌, ◌<◌, ◌⊎◌, Bool, true, Option, Some, None, IfSome, if◌then◌else◌, List}
use Rattle.std.specs.Prelude.{[], ◌∷◌, ◌++◌, length, map, IsTrue, nat_le, unwrap_or}
use Rattle.std.specs.List.{AllByRecursion}
use Rattle.raw_region.specs.Memory.{WindowState, SameSurroundings, bytes_of}
use Rattle.block_tags.specs.declared.tile.Tile.{Tile}
use Rattle.block_tags.specs.Tiles.{is_free, is_merged}
use Rattle.block_tags.specs.Windows.{EncodesTiles}
use Rattle.offset_link.specs.Link.{link_at}
use Rattle.link_tree.specs.Nodes.{is_in}
use Rattle.link_tree.specs.Ways.{remove_point_of}
use Rattle.best_fit.specs.Extents.{Gap}
use Rattle.best_fit.specs.FreeTree.{IsTreeOf, payloads, sorted_gaps}
use Rattle.best_fit.specs.GapNodes.{comes_before, gaps_in, gaps_of, is_good, is_kept, len_in, plain, tiles_in}

-- a gap as a node of the free tree: the offset of its payload
abbrev pub node_of : Gap → ℕ
node_of g = g.offset + 16

-- a gap is long enough
abbrev pub is_long : ℕ → Gap → Bool
is_long wanted g = nat_le wanted g.len

-- `len_in` of the first list returns the length of each gap of the second
abbrev pub HaveGapLengths : List Gap → List Gap → Type 0
HaveGapLengths gs hs = AllByRecursion (λ (h : Gap). len_in gs (h.offset + 16) ≡ h.len) hs

-- gaps in order of offset, from an offset on
abbrev pub AreAscending : ℕ → List Gap → Type 0
AreAscending at [] = Unit {0}
AreAscending at (h ∷ hs) = (at ≤ h.offset) × AreAscending (h.offset + 1) hs

-- the second list has some of the gaps of the first, in order of offset
pub record AreSomeGaps (gs hs : List Gap) : Type 0 where
  pub fits : HaveGapLengths gs hs
  pub rises : AreAscending 0 hs
  pub listed : (n : ℕ) → is_in n (payloads hs) ≡ true → is_in n (payloads gs) ≡ true
  pub few : length hs ≤ length gs

-- good tags and links, and a tree of some of the gaps
pub record HasGapTree (c : WindowState) (hs : List Gap) : Type 0 where
  pub good : IsTrue (is_good c)
  pub some : AreSomeGaps (gaps_in c) hs
  pub tree : IsTreeOf (bytes_of c.bytes) 24 (payloads (sorted_gaps hs))

-- the root of the tree of gaps
abbrev pub root_of_gaps : WindowState → Option ℕ
root_of_gaps c = link_at (bytes_of c.bytes) 24

-- the removal of the node can begin at `exit`, or at the root if `exit` is none
pub record CanBeginRemoval (c : WindowState) (node : ℕ) (exit : Option ℕ) : Type 0 where
  pub begins : (hs : List Gap) (h : HasGapTree c hs)
      → IfSome exit (λ n. remove_point_of (comes_before (gaps_in c)) node h.tree.tree ≡ Some n)

-- good tags, and a tree of all gaps except one, whose links are arbitrary
pub record LacksGap (c : WindowState) (xs : List Gap) (g : Gap) (ys : List Gap) : Type 0 where
  pub said : EncodesTiles c (tiles_in c)
  pub merged : IsTrue (is_merged (tiles_in c))
  pub gaps : gaps_in c ≡ xs ++ (g ∷ ys)
  pub tree : IsTreeOf (bytes_of c.bytes) 24 (payloads (sorted_gaps (xs ++ ys)))

-- only word 24, and the links and colours of gaps change
pub record ChangesGapTree (old new : WindowState) : Type 0 where
  pub place : SameSurroundings old new
  pub size : length new.bytes ≡ length old.bytes
  pub tiles : map plain (tiles_in new) ≡ map plain (tiles_in old)
  pub bytes : (k : ℕ) → is_kept (tiles_in old) k ≡ true → (k < 24) ⊎ (32 ≤ k)
      → bytes_of new.bytes k ≡ bytes_of old.bytes k

-- this gap is not in the tree, which contains all others
pub record IsUnlinkedGap (c : WindowState) (at len : ℕ) : Type 0 where
  pub front : List Tile
  pub tile : Tile
  pub back : List Tile
  pub list : tiles_in c ≡ front ++ (tile ∷ back)
  pub free : tile.use_of ≡ None
  pub offset : tile.offset ≡ at
  pub len_is : tile.len ≡ len
  pub tree : HasGapTree c (gaps_of front ++ gaps_of back)

-- a list of the tile, if there is one
abbrev pub tile_list : Option Tile → List Tile
tile_list None = []
tile_list (Some t) = t ∷ []

-- the offset of a tile, if there is one and it is free
abbrev pub gap_offset : Option Tile → Option ℕ
gap_offset None = None
gap_offset (Some t) = if is_free t then Some t.offset else None

-- the offset of the previous tile if it is free, and otherwise `at`
abbrev pub start_of : Option Tile → ℕ → ℕ
start_of before at = unwrap_or (gap_offset before) at

-- the offset of the first gap
abbrev pub offset_of : List Gap → Option ℕ
offset_of [] = None
offset_of (g ∷ gs) = Some g.offset
