-- What the check of a whole image finds: its first class, or a directory.
use Rattle.image_check.proofs.Common.{BadContainer, BadFreeTree, BadIndex, BadObject, BadTag, Err, HasFront, HasTiles}
use Rattle.image_check.proofs.Common.{ImageClass, IsImage, IsTrue, List, None, Option, OrphanBlock, Result, Role}
use Rattle.image_check.proofs.Common.{SharedBlock, Some, Tile, WindowState, [], ap, are_bytes, arith, bytes_of}
use Rattle.image_check.proofs.Common.{cases_Bool, class_of, entries_of, false, has_block, has_containers, has_free_tree}
use Rattle.image_check.proofs.Common.{has_indexes, has_objects, has_reserved, has_tags, inl, inr, is_legal_size}
use Rattle.image_check.proofs.Common.{is_orphaned, is_shared, is_some, is_tiled, length, list_any, not, refl, subst}
use Rattle.image_check.proofs.Common.{sym, tiles_of, true, ℕ, ◌||◌, ◌∙◌, ◌∷◌, ◌≡◌, ◌≤◌}
use Rattle.std.proofs.Common.{Bool}
use Rattle.std.specs.Prelude.{IsOk}
use Rattle.image_check.specs.Checking.{late_by, late_class}
use Rattle.image_check.specs.EarlyTests.{has_frame}
use Rattle.image_check.specs.Meaning.{HasOneDirectory}
use Rattle.image_check.specs.Passes.{tiles_in}
use Rattle.image_check.specs.Verdicts.{IsVerdict, said_tiles}
use Rattle.block_tags.specs.Checks.{StopsAt}
use Rattle.image_check.proofs.frame.EarlyClasses.{tree-BadFreeTree}
use Rattle.image_check.proofs.reading.Buffer.{HasFront-IsRight}
use Rattle.image_check.proofs.frame.FormatTags.{good-has_tags}
use Rattle.image_check.proofs.frame.FirstClass.{first-tag, first-tree, late-class}
use Rattle.image_check.proofs.frame.Tests.{HasWholeSize-has_whole_size, IsFrame-has_frame, has_frame-IsFrame}
use Rattle.image_check.proofs.frame.Tests.{has_whole_size-HasWholeSize}
use Rattle.image_check.proofs.law.OneDirectory.{one_directory}

-- ---- the frame

-- the facts of the check after the tags have passed
pub record IsChecked (format : ℕ) (w : WindowState) : Type 0 where
  pub front : HasFront format w
  pub reserved : has_reserved w.bytes ≡ true
  pub tags : has_tags format (bytes_of w.bytes) (length w.bytes) ≡ true

-- the tags fit the size in the first words
checked-tiled : (format : ℕ) (w : WindowState) → IsChecked format w → is_tiled format w.bytes ≡ true
checked-tiled format w h = ap (has_tags format (bytes_of w.bytes)) h.front.says ∙ h.tags

-- a frame that was checked has its tiles
pub checked-tiles : (format : ℕ) (w : WindowState) → IsChecked format w → HasTiles w.bytes
checked-tiles format w h = record {
  size = (HasFront-IsRight format w h.front).legal;
  tags = good-has_tags format (bytes_of w.bytes) (length w.bytes) h.tags;
}

-- the tags are wrong
pub checked-tags : (format : ℕ) (w : WindowState) (at : ℕ) → HasFront format w → has_reserved w.bytes ≡ true
    → has_tags format (bytes_of w.bytes) (length w.bytes) ≡ false
    → StopsAt format (bytes_of w.bytes) (length w.bytes) at
    → IsVerdict format w.bytes (record { class = BadTag; place = at })
checked-tags format w at h r e s = (
  first-tag format w h r (ap (has_tags format (bytes_of w.bytes)) h.says ∙ e),
  subst (λ n. StopsAt format (bytes_of w.bytes) n at) (sym h.says) s,
)

-- the free tree is not right
pub checked-tree : (format : ℕ) (w : WindowState) → IsChecked format w
    → has_free_tree format (bytes_of w.bytes) (tiles_in w.bytes) ≡ false
    → IsVerdict format w.bytes (record { class = BadFreeTree; place = 24 })
checked-tree format w h e =
    let holds = tree-BadFreeTree format w.bytes (checked-tiled format w h)
    (ap (λ n. has_free_tree format (bytes_of w.bytes) (tiles_of (bytes_of w.bytes) n)) h.front.says ∙ e) in
    (first-tree format w h.front h.reserved (checked-tiled format w h) holds, refl)

-- or it is
pub checked-frame : (format : ℕ) (w : WindowState) → IsChecked format w
    → has_free_tree format (bytes_of w.bytes) (tiles_of (bytes_of w.bytes) (length w.bytes)) ≡ true
    → IsTrue (has_frame format w.bytes)
checked-frame format w h e =
    let r = HasFront-IsRight format w h.front in
    IsFrame-has_frame format w.bytes (record {
      magic = r.magic;
      version = r.version;
      size = HasWholeSize-has_whole_size w.bytes (record { legal = ap is_legal_size r.says ∙ r.legal; same = r.says });
      reserved = h.reserved;
      tiled = checked-tiled format w h;
      tree = ap (λ n. has_free_tree format (bytes_of w.bytes) (tiles_of (bytes_of w.bytes) n)) h.front.says ∙ e;
    })

-- good tags are a part of a frame
pub frame-tiles : (format : ℕ) (b : List ℕ) → IsTrue (has_frame format b) → HasTiles b
frame-tiles format b h =
    let f = has_frame-IsFrame format b h in
    let s = has_whole_size-HasWholeSize b f.size in
    record {
      size = ap is_legal_size (sym s.same) ∙ s.legal;
      tags = good-has_tags format (bytes_of b) (length b) (ap (has_tags format (bytes_of b)) (sym s.same) ∙ f.tiled);
    }

-- ---- the blocks

unshared : (s : Bool) → not s ≡ true → s ≡ false
unshared false e = refl
unshared true e = sym e

shares : (s : Bool) → not s ≡ false → s ≡ true
shares true e = refl
shares false e = sym e

module _ (format : ℕ) (b : List ℕ) where
  abbrev i : Bool
  i = has_indexes (bytes_of b) (tiles_in b)

  abbrev o : Bool
  o = has_objects format (bytes_of b) (tiles_in b)

  abbrev s : Bool
  s = is_shared format (bytes_of b) (tiles_in b)

  abbrev c : Bool
  c = has_containers format (bytes_of b) (tiles_in b)

  abbrev r : Bool
  r = is_orphaned format (bytes_of b) (tiles_in b)

  abbrev class : Option ImageClass
  class = late_class format (bytes_of b) (tiles_in b)

  -- wrong indexes are the first late class
  pub late-index : i ≡ false → class ≡ Some BadIndex
  unfolding late_class
  late-index e = ap (λ x. late_by x o s c r) e

  -- wrong objects are the class after it
  pub late-object : i ≡ true → o ≡ false → class ≡ Some BadObject
  unfolding late_class
  late-object d e = λ k. late_by (d k) (e k) s c r

  -- shared blocks are the next class
  pub late-shared : i ≡ true → o ≡ true → not s ≡ false → class ≡ Some SharedBlock
  unfolding late_class
  late-shared d e f = λ k. late_by (d k) (e k) (shares s f k) c r

  -- wrong containers are the next class
  pub late-container : i ≡ true → o ≡ true → not s ≡ true → c ≡ false → class ≡ Some BadContainer
  unfolding late_class
  late-container d e f g = λ k. late_by (d k) (e k) (unshared s f k) (g k) r

  -- orphan blocks are the last class
  pub late-orphan : i ≡ true → o ≡ true → not s ≡ true → c ≡ true → not r ≡ false → class ≡ Some OrphanBlock
  unfolding late_class
  late-orphan d e f g h = λ k. late_by (d k) (e k) (unshared s f k) (g k) (shares r h k)

  -- no late class holds
  pub late-none : i ≡ true → o ≡ true → not s ≡ true → c ≡ true → not r ≡ true → class ≡ None
  unfolding late_class
  late-none d e f g h = λ k. late_by (d k) (e k) (unshared s f k) (g k) (unshared r h k)

-- ---- the memory

-- tiles of which none is in use have no blocks
one-more : (offset len : ℕ) (u : Option Role) (red : Bool) (ts : List Tile) (x : Bool) → (is_some u || x) ≡ false
    → (x ≡ false → entries_of ts ≡ [])
    → entries_of (record { offset = offset; len = len; use_of = u; red = red } ∷ ts) ≡ []
one-more offset len None red ts x e h = h e
one-more offset len (Some r) red ts x e h = absurd (cc)

no-entries : (ts : List Tile) → list_any (λ (t : Tile). is_some t.use_of) ts ≡ false → entries_of ts ≡ []
no-entries [] e = refl
no-entries (t ∷ ts) e = one-more t.offset t.len t.use_of t.red ts (list_any (λ (u : Tile). is_some u.use_of) ts) e
    (no-entries ts)

no_answer : {A E : Type 0} (r : Result A E) (e : E) → IsOk r → r ≡ Err e → ⊥
no_answer r e h n = absurd (cc)

-- so memory was refused only if a tile is in use
pub no-memory-used : {A E : Type 0} (b : List ℕ) (r : Result A E) (e : E) → (entries_of (tiles_in b) ≡ [] → IsOk r)
    → r ≡ Err e → IsTrue (has_block b)
no-memory-used b r e h n = elim (cases_Bool (has_block b)) [
  | inl u ↦ u
  | inr u ↦ absurd (no_answer r e (h (no-entries (tiles_in b) u)) n)
]

-- ---- the whole

-- after a right frame, the first class of the blocks is that of the image
module _ (format : ℕ) (b : List ℕ) (h : IsTrue (has_frame format b)) where
  -- the first late class is the image's class, if its frame is right
  pub blocks-class : (o : Option ImageClass) → late_class format (bytes_of b) (tiles_in b) ≡ o → class_of format b ≡ o
  blocks-class o e = late-class format b h ∙ e

  -- a property of the tiles holds by the size in the header
  pub of-tiles : (Is : List Tile → Type 0) → Is (tiles_in b) → Is (said_tiles b)
  of-tiles Is i =
      let s = has_whole_size-HasWholeSize b (has_frame-IsFrame format b h).size in
      subst (λ n. Is (tiles_of (bytes_of b) n)) (sym s.same) i

-- or no class holds, so the bytes denote a directory
pub blocks-image : (format : ℕ) (b : List ℕ) → format ≤ 2 → IsTrue (are_bytes b) → class_of format b ≡ None
    → IsImage format b
blocks-image format b few small e = let law : HasOneDirectory format b = one_directory format b (omega arith) small
    in law.some e
