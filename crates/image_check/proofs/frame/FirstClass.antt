-- The first class that holds of an image whose first words are right: the parts of its frame in turn, and then the
-- tests of blocks.
use Rattle.image_check.proofs.Common.{BadContainer, BadFreeTree, BadIndex, BadMagic, BadObject, BadReserved, BadSize}
use Rattle.image_check.proofs.Common.{BadTag, HasFront, ImageClass, IsTrue, List, Memory, None, OrphanBlock}
use Rattle.image_check.proofs.Common.{SharedBlock, Some, Tile, Truncated, UnsupportedVersion, WindowState, [], and_from}
use Rattle.image_check.proofs.Common.{and_right, ap, arith, bytes_of, class_of, cond, false, has_containers, has_front}
use Rattle.image_check.proofs.Common.{has_indexes, has_magic, has_objects, has_reserved, has_size, has_version}
use Rattle.image_check.proofs.Common.{is_legal_size, is_orphaned, is_shared, is_tiled, le-leb, le-ltb, legal_size}
use Rattle.image_check.proofs.Common.{length, nat_le, nat_lt, not, not_from_false, not_from_true, or_from, refl}
use Rattle.image_check.proofs.Common.{size_word, tiles_of, true, ℕ, ◌&&◌, ◌∙◌, ◌∷◌, ◌≡◌}
use Rattle.std.proofs.Common.{Bool}
use Rattle.std.specs.Prelude.{find}
use Rattle.image_check.specs.Classes.{holds}
use Rattle.image_check.specs.Checking.{late_by, late_class}
use Rattle.image_check.specs.Passes.{tiles_in}
use Rattle.image_check.specs.EarlyTests.{has_frame}
use Rattle.image_check.proofs.reading.Deciding.{find-here, find-past}
use Rattle.image_check.proofs.reading.Buffer.{HasFront-IsRight}
use Rattle.image_check.proofs.frame.Tests.{frame-clean, has_frame-IsFrame, has_whole_size-HasWholeSize}
use Rattle.image_check.proofs.frame.Formats.{IsEarlyClean}

-- ---- the first four classes hold of no window whose first words are right

-- none of these classes holds
pub record IsFrontClean (format : ℕ) (b : List ℕ) : Type 0 where
  pub truncated : holds format b Truncated ≡ false
  pub magic : holds format b BadMagic ≡ false
  pub version : holds format b UnsupportedVersion ≡ false
  pub size : holds format b BadSize ≡ false

pub front-clean : (format : ℕ) (w : WindowState) → HasFront format w → IsFrontClean format w.bytes
front-clean format w h =
    let b = w.bytes in
    let r = HasFront-IsRight format w h in
    let says = r.says in
    let least = (legal_size (length b) r.legal).low in
    record {
      truncated = or_from (nat_lt (length b) 144) (has_front format b && nat_lt (length b) (size_word b))
          (le-ltb (length b) 144 (omega arith))
          (and_right (has_front format b) (nat_lt (length b) (size_word b))
          (le-ltb (length b) (size_word b) (omega arith)));
      magic = not_from_true (has_magic b) r.magic;
      version = not_from_true (has_version format b) r.version;
      size = not_from_true (has_size b)
          (and_from (is_legal_size (size_word b)) (nat_le (length b) (size_word b)) (ap is_legal_size says
          ∙ r.legal) (le-leb (length b) (size_word b) (omega arith)));
    }

-- ---- so one of the others is the first

-- the classes from the eighth on, and from the fifth on
abbrev late : List ImageClass
late = BadIndex ∷ BadObject ∷ SharedBlock ∷ BadContainer ∷ OrphanBlock ∷ []

abbrev later : List ImageClass
later = BadReserved ∷ BadTag ∷ BadFreeTree ∷ late

past-four : (format : ℕ) (b : List ℕ) → IsFrontClean format b → class_of format b ≡ find (holds format b) later
past-four format b f =
    find-past (holds format b) Truncated (BadMagic ∷ UnsupportedVersion ∷ BadSize ∷ later) f.truncated
    ∙ find-past (holds format b) BadMagic (UnsupportedVersion ∷ BadSize ∷ later) f.magic
    ∙ find-past (holds format b) UnsupportedVersion (BadSize ∷ later) f.version
    ∙ find-past (holds format b) BadSize later f.size

-- reserved bytes that are not zero are the first class
pub first-reserved : (format : ℕ) (w : WindowState) → HasFront format w → has_reserved w.bytes ≡ false
    → class_of format w.bytes ≡ Some BadReserved
first-reserved format w h e =
    past-four format w.bytes (front-clean format w h)
    ∙ find-here (holds format w.bytes) BadReserved (BadTag ∷ BadFreeTree ∷ late)
    (not_from_false (has_reserved w.bytes) e)

-- wrong tags are the class after it
pub first-tag : (format : ℕ) (w : WindowState) → HasFront format w → has_reserved w.bytes ≡ true
    → is_tiled format w.bytes ≡ false → class_of format w.bytes ≡ Some BadTag
first-tag format w h r e =
    past-four format w.bytes (front-clean format w h)
    ∙ find-past (holds format w.bytes) BadReserved (BadTag ∷ BadFreeTree ∷ late)
    (not_from_true (has_reserved w.bytes) r)
    ∙ find-here (holds format w.bytes) BadTag (BadFreeTree ∷ late) (not_from_false (is_tiled format w.bytes) e)

-- a wrong free tree is the class after that
pub first-tree : (format : ℕ) (w : WindowState) → HasFront format w → has_reserved w.bytes ≡ true
    → is_tiled format w.bytes ≡ true → IsTrue (holds format w.bytes BadFreeTree)
    → class_of format w.bytes ≡ Some BadFreeTree
first-tree format w h r t e =
    past-four format w.bytes (front-clean format w h)
    ∙ find-past (holds format w.bytes) BadReserved (BadTag ∷ BadFreeTree ∷ late)
    (not_from_true (has_reserved w.bytes) r)
    ∙ find-past (holds format w.bytes) BadTag (BadFreeTree ∷ late) (not_from_true (is_tiled format w.bytes) t)
    ∙ find-here (holds format w.bytes) BadFreeTree late e

-- ---- after a right frame, the tests of the blocks

-- the eight classes before do not hold
past-frame : (format : ℕ) (b : List ℕ) → IsEarlyClean format b → class_of format b ≡ find (holds format b) late
past-frame format b f =
    past-four format b (record { truncated = f.truncated; magic = f.magic; version = f.version; size = f.size })
    ∙ find-past (holds format b) BadReserved (BadTag ∷ BadFreeTree ∷ late) f.reserved
    ∙ find-past (holds format b) BadTag (BadFreeTree ∷ late) f.tags
    ∙ find-past (holds format b) BadFreeTree late f.free_tree

-- five tests one after another
five : (i o s c r : Bool) → cond (not i) (Some BadIndex)
    (cond (not o) (Some BadObject)
    (cond s (Some SharedBlock) (cond (not c) (Some BadContainer) (cond r (Some OrphanBlock) None)))) ≡ late_by i o s c r
five false o s c r = refl
five true false s c r = refl
five true true true c r = refl
five true true false false r = refl
five true true false true true = refl
five true true false true false = refl

found-late : (p : ImageClass → Bool) (i o s c r : Bool) → p BadIndex ≡ not i → p BadObject ≡ not o
    → p SharedBlock ≡ s → p BadContainer ≡ not c → p OrphanBlock ≡ r → find p late ≡ late_by i o s c r
found-late p i o s c r d e f g h =
    (λ k. cond (d k) (Some BadIndex)
    (cond (e k) (Some BadObject) (cond (f k) (Some SharedBlock)
    (cond (g k) (Some BadContainer) (cond (h k) (Some OrphanBlock) None))))) ∙ five i o s c r

-- a test of the tiles, for good tags and a size that is the length
of-tiles : (t : Bool) (test : List Tile → Bool) (m : Memory) (n k : ℕ) → t ≡ true → n ≡ k
    → (t && test (tiles_of m n)) ≡ test (tiles_of m k)
of-tiles t test m n k e f = (λ i. e i && test (tiles_of m (f i)))

-- the class of an image whose frame is right
pub late-class : (format : ℕ) (b : List ℕ) → IsTrue (has_frame format b)
    → class_of format b ≡ late_class format (bytes_of b) (tiles_in b)
unfolding late_class
late-class format b h =
    let f = has_frame-IsFrame format b h in
    let same = (has_whole_size-HasWholeSize b f.size).same in
    let m = bytes_of b in
    past-frame format b (frame-clean format b f)
    ∙ found-late (holds format b) (has_indexes m (tiles_in b)) (has_objects format m (tiles_in b))
    (is_shared format m (tiles_in b)) (has_containers format m (tiles_in b)) (is_orphaned format m (tiles_in b))
    (of-tiles (is_tiled format b) (λ ts. not (has_indexes m ts)) m (size_word b) (length b) f.tiled same)
    (of-tiles (is_tiled format b) (λ ts. not (has_objects format m ts)) m (size_word b) (length b) f.tiled same)
    (of-tiles (is_tiled format b) (λ ts. is_shared format m ts) m (size_word b) (length b) f.tiled same)
    (of-tiles (is_tiled format b) (λ ts. not (has_containers format m ts)) m (size_word b) (length b) f.tiled same)
    (of-tiles (is_tiled format b) (λ ts. is_orphaned format m ts) m (size_word b) (length b) f.tiled same)
