-- The frame of an image: header, tags and free tree. An image passes a test if and only if it has the tested property.
use Rattle.image_check.proofs.Common.{IsTrue, List, and_from, and_parts, and_right, arith, eq-eqb, eqb-true, has_front}
use Rattle.image_check.proofs.Common.{has_magic, has_reserved, has_size, has_version, is_legal_size, is_tiled, le-leb}
use Rattle.image_check.proofs.Common.{le-ltb, legal_size, length, nat_le, nat_lt, not, not_from_true, or_from}
use Rattle.image_check.proofs.Common.{size_word, ℕ, ◌&&◌, ◌==◌, ◌≡◌}
use Rattle.std.proofs.Common.{Bool}
use Rattle.image_check.specs.EarlyTests.{has_frame, has_tree, has_whole_size}
use Rattle.image_check.proofs.frame.Formats.{IsEarlyClean}

-- the tests of a frame, by name
pub record IsFrame (format : ℕ) (b : List ℕ) : Type 0 where
  pub magic : IsTrue (has_magic b)
  pub version : IsTrue (has_version format b)
  pub size : IsTrue (has_whole_size b)
  pub reserved : IsTrue (has_reserved b)
  pub tiled : IsTrue (is_tiled format b)
  pub tree : IsTrue (has_tree format b)

-- if the conjunction of six tests holds, each of them holds
six : (p q r s t u : Bool) → IsTrue (p && q && r && s && t && u) → IsTrue p × IsTrue q × IsTrue r × IsTrue s
    × IsTrue t × IsTrue u
six p q r s t u h =
    let five = and_parts (p && q && r && s && t) u h in
    let four = and_parts (p && q && r && s) t five.0 in
    let three = and_parts (p && q && r) s four.0 in
    let two = and_parts (p && q) r three.0 in
    let one = and_parts p q two.0 in
    (one.0, one.1, two.1, three.1, four.1, five.1)

-- if each of six tests holds, their conjunction holds
from_six : (p q r s t u : Bool) → IsTrue p → IsTrue q → IsTrue r → IsTrue s → IsTrue t → IsTrue u
    → IsTrue (p && q && r && s && t && u)
from_six p q r s t u a b c d e f =
    and_from (p && q && r && s && t) u
    (and_from (p && q && r && s) t (and_from (p && q && r) s (and_from (p && q) r (and_from p q a b) c) d) e) f

-- a frame passes each of its tests
pub has_frame-IsFrame : (format : ℕ) (b : List ℕ) → IsTrue (has_frame format b) → IsFrame format b
unfolding has_frame
has_frame-IsFrame format b h =
    let parts = six (has_magic b) (has_version format b) (has_whole_size b) (has_reserved b) (is_tiled format b)
    (has_tree format b) h in
    record { magic = parts.0; version = parts.1; size = parts.2; reserved = parts.3; tiled = parts.4; tree = parts.5 }

-- an image that passes each test has a frame
pub IsFrame-has_frame : (format : ℕ) (b : List ℕ) → IsFrame format b → IsTrue (has_frame format b)
unfolding has_frame
IsFrame-has_frame format b f =
    from_six (has_magic b) (has_version format b) (has_whole_size b) (has_reserved b) (is_tiled format b)
    (has_tree format b) f.magic f.version f.size f.reserved f.tiled f.tree

-- ---- the size

-- the size word of a whole image is a legal size, and equal to the length of the image
pub record HasWholeSize (b : List ℕ) : Type 0 where
  pub legal : IsTrue (is_legal_size (size_word b))
  pub same : size_word b ≡ length b

-- an image that passes the test of the size is whole
pub has_whole_size-HasWholeSize : (b : List ℕ) → IsTrue (has_whole_size b) → HasWholeSize b
has_whole_size-HasWholeSize b h =
    let parts = and_parts (is_legal_size (size_word b)) (size_word b == length b) h in
    record { legal = parts.0; same = eqb-true (size_word b) (length b) parts.1 }

-- a whole image passes the test of the size
pub HasWholeSize-has_whole_size : (b : List ℕ) → HasWholeSize b → IsTrue (has_whole_size b)
HasWholeSize-has_whole_size b s =
    and_from (is_legal_size (size_word b)) (size_word b == length b) s.legal (eq-eqb (size_word b) (length b) s.same)

-- ---- the classes that a frame excludes

-- none of the first seven classes holds of a frame
pub frame-clean : (format : ℕ) (b : List ℕ) → IsFrame format b → IsEarlyClean format b
frame-clean format b f =
    let s = has_whole_size-HasWholeSize b f.size in
    let least = (legal_size (size_word b) s.legal).low in
    let same = s.same in
    record {
      truncated = or_from (nat_lt (length b) 144) (has_front format b && nat_lt (length b) (size_word b))
          (le-ltb (length b) 144 (omega arith))
          (and_right (has_front format b) (nat_lt (length b) (size_word b))
          (le-ltb (length b) (size_word b) (omega arith)));
      magic = not_from_true (has_magic b) f.magic;
      version = not_from_true (has_version format b) f.version;
      size = not_from_true (has_size b)
          (and_from (is_legal_size (size_word b)) (nat_le (length b) (size_word b)) s.legal
          (le-leb (length b) (size_word b) (omega arith)));
      reserved = not_from_true (has_reserved b) f.reserved;
      tags = not_from_true (is_tiled format b) f.tiled;
      free_tree = and_right (is_tiled format b) (not (has_tree format b)) (not_from_true (has_tree format b) f.tree);
    }
