-- The reasons why bytes denote no directory: twelve classes, each a test of the whole list, and the class of the bytes.
use Rattle.std.specs.Prelude.{◌≡◌, ℕ, Bool, not, ◌&&◌, Option, Some, List, [], ◌∷◌, ◌++◌, codes, find, IsTrue}
use Rattle.raw_region.specs.Memory.{Memory, are_bytes, bytes_of}
use Rattle.block_tags.specs.Tiles.{tiles_of}
use Rattle.block_tags.specs.declared.tile.Tile.{Tile}
use Rattle.image_check.specs.declared.classes.ImageClass.{ImageClass}
use Rattle.image_check.specs.declared.classes.ImageClass.TheVariants.{Truncated, BadMagic, UnsupportedVersion, BadSize}
use Rattle.image_check.specs.declared.classes.ImageClass.TheVariants.{BadReserved, BadTag, BadFreeTree, BadIndex}
use Rattle.image_check.specs.declared.classes.ImageClass.TheVariants.{BadObject, SharedBlock, BadContainer, OrphanBlock}
use Rattle.image_check.specs.EarlyTests.{size_word, has_magic, has_version, is_truncated, has_size, has_reserved}
use Rattle.image_check.specs.EarlyTests.{is_tiled, has_free_tree}
use Rattle.image_check.specs.ObjectTests.{has_indexes, has_objects}
use Rattle.image_check.specs.Fields.{is_shared, is_orphaned, has_containers}

-- ---- the classes

-- a test of the tiles of the tags
abbrev pub of_tiles : ℕ → List ℕ → (Memory → List Tile → Bool) → Bool
of_tiles format b test = is_tiled format b && test (bytes_of b) (tiles_of (bytes_of b) (size_word b))

-- whether the bytes show the class
abbrev pub holds : ℕ → List ℕ → ImageClass → Bool
holds format b Truncated = is_truncated format b
holds format b BadMagic = not (has_magic b)
holds format b UnsupportedVersion = not (has_version format b)
holds format b BadSize = not (has_size b)
holds format b BadReserved = not (has_reserved b)
holds format b BadTag = not (is_tiled format b)
holds format b BadFreeTree = of_tiles format b (λ m ts. not (has_free_tree format m ts))
holds format b BadIndex = of_tiles format b (λ m ts. not (has_indexes m ts))
holds format b BadObject = of_tiles format b (λ m ts. not (has_objects format m ts))
holds format b SharedBlock = of_tiles format b (is_shared format)
holds format b BadContainer = of_tiles format b (λ m ts. not (has_containers format m ts))
holds format b OrphanBlock = of_tiles format b (is_orphaned format)

-- the twelve classes, in their order
abbrev pub classes : List ImageClass
classes =
    Truncated ∷ BadMagic ∷ UnsupportedVersion ∷ BadSize ∷ BadReserved ∷ BadTag
    ∷ BadFreeTree ∷ BadIndex ∷ BadObject ∷ SharedBlock ∷ BadContainer ∷ OrphanBlock ∷ []

-- the class of the bytes: the first that they show
abbrev pub class_of : ℕ → List ℕ → Option ImageClass
class_of format b = find (holds format b) classes

-- the number of a class: its place among the twelve, from 1 on
abbrev pub number_of : ImageClass → ℕ
number_of Truncated = 1
number_of BadMagic = 2
number_of UnsupportedVersion = 3
number_of BadSize = 4
number_of BadReserved = 5
number_of BadTag = 6
number_of BadFreeTree = 7
number_of BadIndex = 8
number_of BadObject = 9
number_of SharedBlock = 10
number_of BadContainer = 11
number_of OrphanBlock = 12

-- the name of a class
abbrev pub name_of : ImageClass → List ℕ
name_of Truncated = codes "Truncated"
name_of BadMagic = codes "BadMagic"
name_of UnsupportedVersion = codes "UnsupportedVersion"
name_of BadSize = codes "BadSize"
name_of BadReserved = codes "BadReserved"
name_of BadTag = codes "BadTag"
name_of BadFreeTree = codes "BadFreeTree"
name_of BadIndex = codes "BadIndex"
name_of BadObject = codes "BadObject"
name_of SharedBlock = codes "SharedBlock"
name_of BadContainer = codes "BadContainer"
name_of OrphanBlock = codes "OrphanBlock"

-- the text of a class
abbrev pub message_of : ImageClass → List ℕ
message_of Truncated = codes "the image ends too early"
message_of BadMagic = codes "the image does not begin with the magic"
message_of UnsupportedVersion = codes "the version is not supported"
message_of BadSize = codes "the size is wrong"
message_of BadReserved = codes "a reserved byte is not zero"
message_of BadTag = codes "the tags are wrong"
message_of BadFreeTree = codes "the free tree is wrong"
message_of BadIndex = codes "an index is wrong"
message_of BadObject = codes "an object is wrong"
message_of SharedBlock = codes "two links lead to one block"
message_of BadContainer = codes "a container is wrong"
message_of OrphanBlock = codes "a block belongs to nothing"

-- what is wrong with an image of a class, after the offset of the byte that shows it
abbrev pub explanation_of : ImageClass → List ℕ
explanation_of Truncated = codes "the file ends before the image does"
explanation_of BadMagic = codes "this byte is not that of the magic, MSEGFILE"
explanation_of UnsupportedVersion = codes "the version is not the one that is read"
explanation_of BadSize = codes "the size that stands at 16 is none of a segment, or the file goes on behind it"
explanation_of BadReserved = message_of BadReserved
explanation_of BadTag = codes "the tag of a block or gap, or the end tag, is wrong"
explanation_of BadFreeTree = codes "the links from here on do not make up the tree of the gaps"
explanation_of BadIndex = codes "an index has a wrong count, capacity, block or entry"
explanation_of BadObject = codes "an object has a wrong kind, count, name, class, padding or value, or is not in its index"
explanation_of SharedBlock = message_of SharedBlock
explanation_of BadContainer = codes "the block, elements, pairs or counts of a container are wrong"
explanation_of OrphanBlock = message_of OrphanBlock

-- the bytes read so far decide the class: all inputs that begin with them have it
abbrev pub DecidesClass : ℕ → List ℕ → ImageClass → Type 0
DecidesClass format front c = (rest : List ℕ) → IsTrue (are_bytes rest) → class_of format (front ++ rest) ≡ Some c
