-- Images that denote a directory have no class, and images that do not have the first that holds.
use Rattle.std.proofs.Common.{◌≡◌, refl, ℕ, List, [], ◌∷◌, ◌++◌, map, Option, Some, None, take}
use Rattle.raw_region.specs.Memory.{patched, word_bytes, half_word_bytes, word_at, half_word_at, zeros}
use Rattle.seg_types.specs.Names.{is_text_name}
use Rattle.image_check.specs.declared.classes.ImageClass.{ImageClass}
use Rattle.image_check.specs.declared.classes.ImageClass.TheVariants.{Truncated, BadMagic, UnsupportedVersion, BadSize}
use Rattle.image_check.specs.declared.classes.ImageClass.TheVariants.{BadReserved, BadTag, BadFreeTree, BadIndex}
use Rattle.image_check.specs.declared.classes.ImageClass.TheVariants.{BadObject, SharedBlock, BadContainer, OrphanBlock}
use Rattle.image_check.specs.Classes.{class_of}
use Rattle.rows.proofs.Images.{words, magic_word, fresh_image, named_image, two_names_image, vectors_image, pair_image}
use Rattle.rows.proofs.Images.{map_image}

-- each image has the class that stands beside it
abbrev AreOf : ℕ → List (List ℕ × Option ImageClass) → Type 0
AreOf format rows = map (λ row. class_of format row.0) rows ≡ map (λ row. row.1) rows

-- ---- format 2

-- images of directories
directories : AreOf 2 (
    (fresh_image, None)
    ∷ (named_image, None)
    ∷ (two_names_image, None)
    ∷ (vectors_image, None)
    ∷ (pair_image, None)
    ∷ (map_image, None)
    ∷ []
    )
unfolding word_at half_word_at word_bytes half_word_bytes zeros is_text_name
directories = refl

-- images that end too early
cut : AreOf 2 (
    (take 143 fresh_image, Some Truncated)
    ∷ (take 1000 named_image, Some Truncated)
    ∷ []
    )
unfolding word_at half_word_at word_bytes half_word_bytes zeros is_text_name
cut = refl

-- a wrong magic, another version, a byte more, an illegal size, a reserved byte
headers : AreOf 2 (
    (patched fresh_image 0 (0 ∷ []), Some BadMagic)
    ∷ (patched fresh_image 8 (half_word_bytes 9), Some UnsupportedVersion)
    ∷ (patched fresh_image 8 (half_word_bytes 1), Some UnsupportedVersion)
    ∷ (fresh_image ++ 0 ∷ [], Some BadSize)
    ∷ (patched fresh_image 16 (word_bytes 160), Some BadSize)
    ∷ (patched fresh_image 80 (1 ∷ []), Some BadReserved)
    ∷ []
    )
unfolding word_at half_word_at word_bytes half_word_bytes zeros is_text_name
headers = refl

-- no end tag, a root that is its own link, a left link to its own node
blocks : AreOf 2 (
    (patched fresh_image 168 (word_bytes 0), Some BadTag)
    ∷ (patched fresh_image 24 (word_bytes 0), Some BadFreeTree)
    ∷ (patched fresh_image 144 (word_bytes 0), Some BadFreeTree)
    ∷ []
    )
unfolding word_at half_word_at word_bytes half_word_bytes zeros is_text_name
blocks = refl

-- two entries with one target, an unknown kind
objects : AreOf 2 (
    (patched two_names_image 152 (word_bytes 40), Some BadIndex)
    ∷ (patched named_image 192 (half_word_bytes 99), Some BadObject)
    ∷ []
    )
unfolding word_at half_word_at word_bytes half_word_bytes zeros is_text_name
objects = refl

-- two vectors with one block, a length above the capacity, a block of nothing
containers : AreOf 2 (
    (patched vectors_image 312 (word_bytes 18446744073709551560), Some SharedBlock)
    ∷ (patched vectors_image 224 (word_bytes 2), Some BadContainer)
    ∷ (patched vectors_image 216 (words (1 ∷ 0 ∷ 0 ∷ [])), Some OrphanBlock)
    ∷ []
    )
unfolding word_at half_word_at word_bytes half_word_bytes zeros is_text_name
containers = refl

-- a left link of a pair to its own node, one to an object, a wrong count
maps : AreOf 2 (
    (patched pair_image 256 (word_bytes 0), Some SharedBlock)
    ∷ (patched pair_image 256 (word_bytes 18446744073709551552), Some BadContainer)
    ∷ (patched pair_image 224 (word_bytes 2), Some BadContainer)
    ∷ []
    )
unfolding word_at half_word_at word_bytes half_word_bytes zeros is_text_name
maps = refl

-- two changes, of which the class that is looked at first is the answer: magic before tags, length before reserved
-- bytes, index before object, object before a block of nothing, object before a cycle
two_changes : AreOf 2 (
    (patched (patched fresh_image 0 (0 ∷ [])) 168 (word_bytes 0), Some BadMagic)
    ∷ (take 1000 (patched named_image 80 (1 ∷ [])), Some Truncated)
    ∷ (patched (patched two_names_image 152 (word_bytes 40)) 192 (half_word_bytes 99), Some BadIndex)
    ∷ (patched (patched vectors_image 192 (half_word_bytes 99)) 216 (words (1 ∷ 0 ∷ 0 ∷ [])), Some BadObject)
    ∷ (patched (patched pair_image 256 (word_bytes 0)) 209 (1 ∷ []), Some BadObject)
    ∷ []
    )
unfolding word_at half_word_at word_bytes half_word_bytes zeros is_text_name
two_changes = refl

-- ---- format 0: no free tree, and the null link at word 24

abbrev plain_image : List ℕ
plain_image =
    words (magic_word ∷ 0 ∷ 176 ∷ 1 ∷ 1 ∷ 0 ∷ 0 ∷ 1 ∷ []) ++ zeros 72 ++ words (32 ∷ 0 ∷ 0 ∷ 32 ∷ 1 ∷ [])

abbrev first_run_image : List ℕ
first_run_image =
    words (magic_word ∷ 0 ∷ 1024 ∷ 1 ∷ 1 ∷ 0 ∷ 0 ∷ 1 ∷ []) ++ zeros 72
    ++ words (49 ∷ 4294967300 ∷ 0 ∷ 5 ∷ 0 ∷ 48 ∷ 832 ∷ []) ++ zeros 816 ++ words (832 ∷ 1 ∷ [])

-- images of directories
plain : AreOf 0 (
    (plain_image, None)
    ∷ (first_run_image, None)
    ∷ []
    )
unfolding word_at half_word_at word_bytes half_word_bytes zeros is_text_name
plain = refl

-- the length, a wrong magic, another version, a byte more, an illegal size, a reserved byte, no end tag, another link
-- at word 24
plain_damaged : AreOf 0 (
    (take 143 plain_image, Some Truncated)
    ∷ (patched plain_image 0 (0 ∷ []), Some BadMagic)
    ∷ (patched plain_image 8 (half_word_bytes 9), Some UnsupportedVersion)
    ∷ (plain_image ++ 0 ∷ [], Some BadSize)
    ∷ (patched plain_image 16 (word_bytes 160), Some BadSize)
    ∷ (patched plain_image 80 (1 ∷ []), Some BadReserved)
    ∷ (patched plain_image 168 (word_bytes 0), Some BadTag)
    ∷ (patched plain_image 24 (word_bytes 0), Some BadFreeTree)
    ∷ []
    )
unfolding word_at half_word_at word_bytes half_word_bytes zeros is_text_name
plain_damaged = refl

-- ---- a vector of strings

abbrev texts_image : List ℕ
texts_image =
    words (magic_word ∷ 2 ∷ 1024 ∷ 344 ∷ 112 ∷ 1 ∷ 4 ∷ 1 ∷ []) ++ zeros 72
    ++ words (53 ∷ 48 ∷ 0 ∷ 0 ∷ 0 ∷ 48 ∷ 65 ∷ 4295229440 ∷ 4294967297 ∷ 118 ∷ 40 ∷ 2 ∷ 2 ∷ 64 ∷ 57 ∷ 48 ∷ 1 ∷ 64 ∷ 2
    ∷ 48 ∷ 41 ∷ 97 ∷ 0 ∷ 32 ∷ 41 ∷ 25186 ∷ 0 ∷ 32 ∷ 656 ∷ 1 ∷ 1 ∷ [])
    ++ zeros 624 ++ words (656 ∷ 1 ∷ [])

-- the image of a directory; two texts with one block, a text above its block, a text of nothing
texts : AreOf 2 (
    (texts_image, None)
    ∷ (patched texts_image 272 (word_bytes 32), Some SharedBlock)
    ∷ (patched texts_image 264 (word_bytes 17), Some BadContainer)
    ∷ (patched texts_image 256 (words (1 ∷ 0 ∷ [])), Some OrphanBlock)
    ∷ []
    )
unfolding word_at half_word_at word_bytes half_word_bytes zeros is_text_name
texts = refl

-- ---- format 1

-- the same images but for the version denote directories there, and it knows no vectors of strings
in_format_1 : AreOf 1 (
    (patched fresh_image 8 (half_word_bytes 1), None)
    ∷ (patched named_image 8 (half_word_bytes 1), None)
    ∷ (patched map_image 8 (half_word_bytes 1), None)
    ∷ (patched texts_image 8 (half_word_bytes 1), Some BadObject)
    ∷ (texts_image, Some UnsupportedVersion)
    ∷ []
    )
unfolding word_at half_word_at word_bytes half_word_bytes zeros is_text_name
in_format_1 = refl
