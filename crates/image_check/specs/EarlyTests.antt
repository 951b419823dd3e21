-- The tests before the objects: of the front, of the tags and of the free tree.
use Rattle.std.specs.Prelude.{ℕ, zero, suc, Bool, false, ◌&&◌, ◌||◌, Some, None, List, ◌++◌, length, map, filter, ◌==◌}
use Rattle.std.specs.Prelude.{nat_lt, nat_le, nat_eq}
use Rattle.std.specs.List.{list_all, list_any}
use Rattle.std.specs.Cmp.Lexicographic.{pointwise}
use Rattle.raw_region.specs.Memory.{Memory, bytes_of, read, word_at, half_word_at}
use Rattle.offset_link.specs.Link.{link_at}
use Rattle.link_tree.specs.Tree.{nodes_of, tree_from, is_red_black}
use Rattle.block_tags.specs.Tiles.{has_tags, is_free, tiles_of}
use Rattle.block_tags.specs.declared.tile.Tile.{Tile}
use Rattle.best_fit.specs.Extents.{Gap}
use Rattle.block_tags.specs.Format.{is_legal_size}
use Rattle.best_fit.specs.FreeTree.{cells_of, sorted_gaps, payloads}
use Rattle.segment_manager.specs.Denotes.{magic_number}

-- the size in the header
abbrev pub size_word : List ℕ → ℕ
size_word b = word_at (bytes_of b) 16

-- whether the first word is the magic
abbrev pub has_magic : List ℕ → Bool
has_magic b = word_at (bytes_of b) 0 == magic_number

abbrev pub has_version : ℕ → List ℕ → Bool
has_version format b = half_word_at (bytes_of b) 8 == format

-- whether the bytes begin with the magic, the version and a legal size
abbrev pub has_front : ℕ → List ℕ → Bool
has_front format b = has_magic b && has_version format b && is_legal_size (size_word b)

-- ---- the classes before the tiles

-- whether the bytes are fewer than 144, or begin as an image of the format and are fewer than its size says
abbrev pub is_truncated : ℕ → List ℕ → Bool
is_truncated format b = nat_lt (length b) 144 || (has_front format b && nat_lt (length b) (size_word b))

-- whether the size is legal, and no bytes follow a segment of this size; there may be fewer bytes
abbrev pub has_size : List ℕ → Bool
has_size b = is_legal_size (size_word b) && nat_le (length b) (size_word b)

-- whether all numbers of the list are 0
abbrev pub is_zero : List ℕ → Bool
is_zero = list_all (λ c. c == 0)

-- whether the bytes at 12 to 15 and at 80 to 127 are 0
abbrev pub has_reserved : List ℕ → Bool
has_reserved b = is_zero (read (bytes_of b) 12 4 ++ read (bytes_of b) 80 48)

-- whether the tags are good
abbrev pub is_tiled : ℕ → List ℕ → Bool
is_tiled format b = has_tags format (bytes_of b) (size_word b)

-- ---- the free tree

-- the offsets and lengths of the free tiles, in the order of the offsets
abbrev pub free_gaps : List Tile → List Gap
free_gaps ts = map (λ (t : Tile). record { offset = t.offset; len = t.len }) (filter is_free ts)

-- the offsets at which the payloads of the free tiles begin: shorter tiles first, and of one length the lower first
abbrev pub free_payloads : List Tile → List ℕ
free_payloads ts = payloads (sorted_gaps (free_gaps ts))

-- whether the number is in the list
abbrev pub is_among : List ℕ → ℕ → Bool
is_among xs x = list_any (λ y. x == y) xs

-- whether the nodes behind word 24 are the free tiles in order, each once, in a red-black tree; format 0 has no tree
abbrev pub has_free_tree : ℕ → Memory → List Tile → Bool
has_free_tree zero m ts = word_at m 24 == 1
has_free_tree (suc format) m ts =
    elim (tree_from (length ts) (is_among (free_payloads ts)) (cells_of m) (link_at m 24)) [
      | None ↦ false
      | Some t ↦ is_red_black t && pointwise nat_eq (nodes_of t) (free_payloads ts)
    ]

-- ---- the header, the tags and the free tree together

-- whether the size word is a legal size, and is the number of bytes
abbrev pub has_whole_size : List ℕ → Bool
has_whole_size b = is_legal_size (size_word b) && (size_word b == length b)

-- whether the tree of the free tiles is valid
abbrev pub has_tree : ℕ → List ℕ → Bool
has_tree format b = has_free_tree format (bytes_of b) (tiles_of (bytes_of b) (size_word b))

-- whether the bytes show none of the classes before the eighth, in a format
unfoldable pub has_frame : ℕ → List ℕ → Bool
has_frame format b = has_magic b && has_version format b && has_whole_size b && has_reserved b && is_tiled format b
    && has_tree format b
