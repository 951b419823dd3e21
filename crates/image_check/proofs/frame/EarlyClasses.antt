-- The classes before the eighth: an image with a valid frame shows none of them, and each wrong part of a frame has its
-- own class.
use Rattle.image_check.proofs.Common.{BadFreeTree, BadMagic, BadReserved, BadSize, BadTag, IsTrue, List, Truncated}
use Rattle.image_check.proofs.Common.{UnsupportedVersion, and_from, false, has_early_class, has_front, has_magic}
use Rattle.image_check.proofs.Common.{has_version, is_legal_size, is_tiled, length, lt-ltb, nat_lt, not, not_from_false}
use Rattle.image_check.proofs.Common.{or_from, or_left, or_right, refl, size_word, ℕ, ◌&&◌, ◌<◌, ◌||◌, ◌≡◌}
use Rattle.std.proofs.Common.{Bool}
use Rattle.image_check.specs.Classes.{holds}
use Rattle.image_check.specs.EarlyTests.{has_frame, has_tree}
use Rattle.image_check.proofs.frame.Tests.{frame-clean, has_frame-IsFrame}

-- ---- a right frame has no early class

-- seven tests that fail, one after another
seven : (p q r s t u v : Bool) → p ≡ false → q ≡ false → r ≡ false → s ≡ false → t ≡ false → u ≡ false → v ≡ false
    → (p || (q || (r || (s || (t || (u || (v || false))))))) ≡ false
seven p q r s t u v a b c d e f g =
    or_from p (q || (r || (s || (t || (u || (v || false)))))) a
    (or_from q (r || (s || (t || (u || (v || false))))) b (or_from r (s || (t || (u || (v || false)))) c
    (or_from s (t || (u || (v || false))) d
    (or_from t (u || (v || false)) e (or_from u (v || false) f (or_from v false g refl))))))

-- an image whose frame is right has no early class
pub frame-no_early_class : (format : ℕ) (b : List ℕ) → IsTrue (has_frame format b) → has_early_class format b ≡ false
frame-no_early_class format b h =
    let c = frame-clean format b (has_frame-IsFrame format b h) in
    seven (holds format b Truncated) (holds format b BadMagic) (holds format b UnsupportedVersion)
    (holds format b BadSize) (holds format b BadReserved) (holds format b BadTag) (holds format b BadFreeTree)
    c.truncated c.magic c.version c.size c.reserved c.tags c.free_tree

-- ---- each wrong part of a frame has its class

-- fewer bytes than a header and an end tag
pub short-Truncated : (format : ℕ) (b : List ℕ) → length b < 144 → IsTrue (holds format b Truncated)
short-Truncated format b l = or_left (nat_lt (length b) 144) (has_front format b && nat_lt (length b) (size_word b))
    (lt-ltb (length b) 144 l)

-- a right magic, version and legal size, and fewer bytes than the size
pub cut-Truncated : (format : ℕ) (b : List ℕ) → IsTrue (has_magic b) → IsTrue (has_version format b)
    → IsTrue (is_legal_size (size_word b)) → length b < size_word b → IsTrue (holds format b Truncated)
cut-Truncated format b m v s l =
    or_right (nat_lt (length b) 144) (has_front format b && nat_lt (length b) (size_word b))
    (and_from (has_front format b) (nat_lt (length b) (size_word b))
    (and_from (has_magic b && has_version format b) (is_legal_size (size_word b))
    (and_from (has_magic b) (has_version format b) m v) s)
    (lt-ltb (length b) (size_word b) l))

-- the tree is not that of the free tiles, with whole tags
pub tree-BadFreeTree : (format : ℕ) (b : List ℕ) → IsTrue (is_tiled format b) → has_tree format b ≡ false
    → IsTrue (holds format b BadFreeTree)
tree-BadFreeTree format b t e =
    and_from (is_tiled format b) (not (has_tree format b)) t (not_from_false (has_tree format b) e)
