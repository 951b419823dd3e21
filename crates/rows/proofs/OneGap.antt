-- Images with one gap: they denote a directory if a few equations hold, each of which a computation shows.
use Rattle.std.proofs.Common.{◌≡◌, refl, ℕ, List, [], ◌∷◌, map, Option, Some, None, true, false, length}
use Rattle.std.specs.List.{AllByRecursion, list_all}
use Rattle.raw_region.specs.Memory.{Memory, bytes_of, word_at}
use Rattle.offset_link.specs.Link.{link_at}
use Rattle.link_tree.specs.Tree.{leaf, fork}
use Rattle.block_tags.specs.Tiles.{has_tags, tiles_of}
use Rattle.best_fit.specs.Extents.{gaps, is_proper, spans}
use Rattle.best_fit.specs.FreeTree.{IsTreeOf, cells_of, payloads, sorted_gaps, span}
use Rattle.best_fit.specs.Table.{table_link}
use Rattle.seg_index.specs.Index.{AreIndexEntries}
use Rattle.segment_manager.specs.Directory.{Directory, live, is_object, is_index, rises_from, by_name, by_kind}
use Rattle.segment_manager.specs.Directory.{named_objects, unique_objects}
use Rattle.segment_manager.specs.Denotes.{Denotes, IsObjectAt, handles, magic_number}
use Rattle.rows.proofs.ZeroBytes.{are_zero, zero_bytes}

-- one black node is a tree
pub one_node : (m : Memory) (at n : ℕ) → link_at m at ≡ Some n
    → cells_of m n ≡ record { left = None; right = None; red = false } → IsTreeOf m at (n ∷ [])
one_node m at n root cell = record {
  tree = fork false leaf n leaf;
  linked = record { root = root; holds = (cell, tt, tt) };
  red_black = record { root = refl; no_red_pair = refl; black = (1, refl) };
  lists = refl;
}

-- what such images have in common: the tests of a directory, the zeros and the tags; the words and the links of the
-- header; and the gap
pub record IsFramed (image : List ℕ) (d : Directory) (gap : ℕ) : Type 0 where
  pub size : length image ≡ (live d).size
  pub tests : is_proper (live d) ∷ list_all (is_object 2) d.objects ∷ rises_from 0 d.objects
      ∷ is_index d.named (named_objects d) by_name
      ∷ is_index d.unique (unique_objects d) by_kind ∷ are_zero (bytes_of image) 80 48
      ∷ has_tags 2 (bytes_of image) (live d).size ∷ []
      ≡ true ∷ true ∷ true ∷ true ∷ true ∷ true ∷ true ∷ []
  pub numbers : word_at (bytes_of image) 0 ∷ word_at (bytes_of image) 8 ∷ word_at (bytes_of image) 16
      ∷ word_at (bytes_of image) 40 ∷ word_at (bytes_of image) 48 ∷ word_at (bytes_of image) 64
      ∷ word_at (bytes_of image) 72 ∷ []
      ≡ magic_number ∷ 2 ∷ d.size
      ∷ length (handles (named_objects d)) ∷ d.named.capacity ∷ length (handles (unique_objects d))
      ∷ d.unique.capacity ∷ []
  pub links : link_at (bytes_of image) 24 ∷ link_at (bytes_of image) 32 ∷ link_at (bytes_of image) 56 ∷ []
      ≡ Some gap ∷ table_link d.named ∷ table_link d.unique ∷ []
  pub tiles : map span (tiles_of (bytes_of image) (live d).size) ≡ spans (live d)
  pub node : cells_of (bytes_of image) gap ≡ record { left = None; right = None; red = false }
  pub listed : payloads (sorted_gaps (gaps (live d))) ≡ gap ∷ []

-- an image with one gap denotes its directory, by a few equations
pub denotes : (image : List ℕ) (d : Directory) (gap : ℕ) → IsFramed image d gap
    → AreIndexEntries (bytes_of image) d.named (handles (named_objects d))
    → AreIndexEntries (bytes_of image) d.unique (handles (unique_objects d))
    → AllByRecursion (IsObjectAt (bytes_of image)) d.objects → Denotes 2 image d
denotes image d gap f named unique objects = record {
  directory = record { proper = cc; objects = cc; by_offset = cc; named = cc; unique = cc };
  header = record { magic = cc; version = cc; size_word = cc; zeros = zero_bytes (bytes_of image) 80 48 (cc) };
  heap = record {
    size = f.size;
    proper = cc;
    tiles = record { tags = cc; tiles = f.tiles };
    free = rw f.listed (one_node (bytes_of image) 24 gap (cc) f.node);
  };
  named = record { link = cc; count = cc; capacity = cc; entries = named };
  unique = record { link = cc; count = cc; capacity = cc; entries = unique };
  objects = objects;
}
