-- The offset in an image that shows why it is refused.
use Rattle.std.specs.Prelude.{◌≡◌, ℕ, List, Some, None, Result, MatchResult, length, codes}
use Rattle.raw_region.specs.Memory.{bytes_of}
use Rattle.block_tags.specs.Tiles.{tiles_of}
use Rattle.block_tags.specs.declared.tile.Tile.{Tile}
use Rattle.image_check.specs.declared.classes.ImageClass.{ImageClass}
use Rattle.image_check.specs.declared.classes.ImageClass.TheVariants.{Truncated, BadMagic, UnsupportedVersion, BadSize}
use Rattle.image_check.specs.declared.classes.ImageClass.TheVariants.{BadReserved, BadTag, BadFreeTree, BadIndex}
use Rattle.image_check.specs.declared.classes.ImageClass.TheVariants.{BadObject, SharedBlock, BadContainer, OrphanBlock}
use Rattle.image_check.specs.declared.verdict.Verdict.{Verdict}
use Rattle.image_check.specs.Classes.{class_of}
use Rattle.image_check.specs.Containers.{has_container}
use Rattle.image_check.specs.EarlyTests.{size_word}
use Rattle.image_check.specs.Fields.{counted_fields, is_left}
use Rattle.image_check.specs.HeaderOffsets.{IsFirstOther, IsFirstReserved, shown_size}
use Rattle.image_check.specs.IndexOffsets.{IsWrongIndex}
use Rattle.image_check.specs.ObjectOffsets.{IsFirstTile, IsFirstWrongTile, IsWrongObject}
use Rattle.image_check.specs.Owners.{IsSharedAt}
use Rattle.block_tags.specs.Checks.{StopsAt}

-- the tiles of the tags, by the size in the header
abbrev pub said_tiles : List ℕ → List Tile
said_tiles b = tiles_of (bytes_of b) (size_word b)

-- The offset that shows a class: the end of bytes that are too short; the first byte that differs from the magic; the
-- version; the size word if its size is not legal, otherwise the first
-- byte after this size; the first reserved byte that is not 0; the
-- first bad tag; the root link of the free tree; the wrong word or entry of an index; the first wrong object, otherwise
-- the first entry of an index out of order; a link with the target of another; the first object with a wrong container;
-- and the first block without an owner.
abbrev pub Shows : ℕ → List ℕ → ImageClass → ℕ → Type 0
Shows format b Truncated at = at ≡ length b
Shows format b BadMagic at = IsFirstOther b (codes "MSEGFILE") at
Shows format b UnsupportedVersion at = at ≡ 8
Shows format b BadSize at = at ≡ shown_size b
Shows format b BadReserved at = IsFirstReserved b at
Shows format b BadTag at = StopsAt format (bytes_of b) (size_word b) at
Shows format b BadFreeTree at = at ≡ 24
Shows format b BadIndex at = IsWrongIndex (bytes_of b) (said_tiles b) at
Shows format b BadObject at = IsWrongObject format (bytes_of b) (said_tiles b) at
Shows format b SharedBlock at = IsSharedAt format (bytes_of b) (said_tiles b) at
Shows format b BadContainer at = IsFirstWrongTile (has_container format (bytes_of b) (said_tiles b)) (said_tiles b) at
Shows format b OrphanBlock at =
    IsFirstTile (is_left (counted_fields format (bytes_of b) (said_tiles b))) (said_tiles b) at

-- the class of the bytes, and an offset that shows it
abbrev pub IsVerdict : ℕ → List ℕ → Verdict → Type 0
IsVerdict format b v = (class_of format b ≡ Some v.class) × Shows format b v.class v.place

-- a pass returns the verdict if the bytes show a class
abbrev pub AnswersVerdict : {A : Type 0} → ℕ → List ℕ → Result A Verdict → Type 0
AnswersVerdict format b result = MatchResult result (λ done. class_of format b ≡ None) (IsVerdict format b)
