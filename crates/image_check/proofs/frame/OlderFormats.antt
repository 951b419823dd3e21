-- An image of an older format: its tags and free tree are changed to the current format, and then its version.
use Rattle.image_check.proofs.Common.{AllByRecursion, AreZero, Denotes, Directory, EncodesLiveSet, IsImage, IsTrue}
use Rattle.image_check.proofs.Common.{List, LiveSet, Memory, RebuildsFreeTree, SameSurroundings, UpgradesFormat}
use Rattle.image_check.proofs.Common.{WindowState, [], ap, arith, bytes_of, cases_eq, cases_lt, has_tags, inl, inr}
use Rattle.image_check.proofs.Common.{is_legal_size, lay_out_one, length, refl, subst, suc, sym, zero, ℕ, ◌<◌, ◌∙◌, ◌≡◌}
use Rattle.image_check.proofs.Common.{◌≢◌, ◌≤◌, ◌⊎◌}
use Rattle.raw_region.specs.Memory.{SameBytes, SameBytesExcept, half_word_at, word_at}
use Rattle.raw_region.specs.Format.{current}
use Rattle.raw_region.proofs.Laws.{SameBytes-half_word, SameBytes-part}
use Rattle.best_fit.specs.Extents.{gaps}
use Rattle.best_fit.specs.Heap.{ChangesBytes, IsHeap, SameBlock, live_of}
use Rattle.best_fit.specs.Rebuilding.{IsBesideGap}
use Rattle.best_fit.proofs.Laws.{blocks-trans, changed-header_blocks, free-refl, header_changed, is_proper-IsProper}
use Rattle.best_fit.proofs.Laws.{keeps-refl}
use Rattle.segment_manager.specs.State.{DenotesCurrent, IsSegment}
use Rattle.segment_manager.proofs.Laws.{denotes-heap, denotes-later, denotes-live, directory-later}
use Rattle.image_check.specs.Upgrading.{NewVersionsStand, OlderDirectoriesStand, RebuildsTree, ReplantedStand}
use Rattle.image_check.specs.Upgrading.{UpgradesVersion}
use Rattle.image_check.proofs.bytes.Numbers.{AreZero-half_word_at, half_word_at-AreZero}
use Rattle.image_check.proofs.frame.FormatTags.{later-has_tags}
use Rattle.image_check.proofs.bytes.Words.{word_at-halves}

-- ---- the heap

-- from format 1 on a heap is a heap of the current format
pub later-heap : (format : ℕ) (b : List ℕ) → 0 < format → IsHeap format b → IsHeap current b
unfolding current
later-heap zero b l h = absurd (omega arith)
later-heap (suc f) b l h = record {
  size = h.size;
  proper = h.proper;
  tiles = record {
    tags = sym (later-has_tags (suc f) (bytes_of b) (live_of b).size (omega arith)) ∙ h.tiles.tags;
    tiles = h.tiles.tiles;
  };
  free = h.free;
}

-- the properties of a heap in format 0
pub heap-legal : (format : ℕ) (b : List ℕ) → IsHeap format b → IsTrue (is_legal_size (length b))
unfolding live_of
heap-legal format b h = (is_proper-IsProper (live_of b) h.proper).size

-- a heap of the first format has its tags
pub heap-tags : (format : ℕ) (b : List ℕ) → format ≡ 0 → IsHeap format b → IsTrue (has_tags 0 (bytes_of b) (length b))
unfolding live_of
heap-tags format b e h = subst (λ (f : ℕ). IsTrue (has_tags f (bytes_of b) (length b))) e h.tiles.tags

-- an image is a heap
pub image-heap : (format : ℕ) (b : List ℕ) → IsImage format b → IsHeap format b
image-heap format b image = denotes-heap format b image.0 image.1

-- a heap stays one
pub rebuilt-same : (c : WindowState) → IsHeap current c.bytes → RebuildsFreeTree current c c
unfolding current
rebuilt-same c h = record {
  live = h;
  keeps = keeps-refl c (live_of c.bytes).extents;
  rest = λ k inside root free. refl;
  free = free-refl c;
}

-- ---- the word of the version

-- its upper half is zero where it is small
upper-zero : (m : Memory) (n : ℕ) → word_at m 8 ≡ n → n < 256 → AreZero m 12 16
upper-zero m n e l =
    let both = word_at-halves m 8 in
    half_word_at-AreZero m 12 (omega arith)

lower-half : (m : Memory) (n : ℕ) → word_at m 8 ≡ n → n < 256 → half_word_at m 8 ≡ n
lower-half m n e l = let both = word_at-halves m 8 in omega arith

-- so if another small number is written there, only the lower half changes
version-alone : (m m' : Memory) (n k : ℕ) → word_at m 8 ≡ n → n < 256 → word_at m' 8 ≡ k → k < 256
    → SameBytesExcept m m' 8 8 → SameBytesExcept m m' 8 4
version-alone m m' n k e l f g s =
    let was = upper-zero m n e l in
    let is = upper-zero m' k f g in
    record { at = λ j x. alone-cases j x (cases_lt j 16) was is }
  where
    alone-cases : (j : ℕ) → (j < 8) ⊎ (12 ≤ j) → (j < 16) ⊎ (16 ≤ j) → AreZero m 12 16 → AreZero m' 12 16 → m' j ≡ m j
    alone-cases j (inl low) c was is = s.at j (inl low)
    alone-cases j (inr high) (inl low) was is = is.at j high low ∙ sym (was.at j high low)
    alone-cases j (inr high) (inr past) was is = s.at j (inr past)

-- ---- the whole

module _ (format : ℕ) (old mid new : WindowState) (few : format ≤ 2) (image : IsImage format old.bytes)
    (r : RebuildsFreeTree current old mid)
    (c : ChangesBytes current mid new 8 8) (w : word_at (bytes_of new.bytes) 8 ≡ 2) where
  m : Memory
  m = bytes_of old.bytes

  m' : Memory
  m' = bytes_of new.bytes

  live-mid : live_of mid.bytes ≡ live_of old.bytes
  live-mid = lay_out_one current mid.bytes (live_of old.bytes) r.live

  laid : EncodesLiveSet current new.bytes (live_of old.bytes)
  laid = subst (EncodesLiveSet current new.bytes) live-mid c.live

  blocks : AllByRecursion (SameBlock m m') (live_of old.bytes).extents
  unfolding m m'
  blocks =
      blocks-trans m (bytes_of mid.bytes) m' (live_of old.bytes).extents r.keeps.blocks
      (subst (λ (s : LiveSet). AllByRecursion (SameBlock (bytes_of mid.bytes) m') s.extents) live-mid
      (changed-header_blocks current mid new 8 8 c (omega arith)))

  -- a part of the header but the version
  part-same : (from to : ℕ) → SameBytes m (bytes_of mid.bytes) from to → (to ≤ 8) ⊎ (16 ≤ from) → SameBytes m m' from to
  unfolding m m'
  part-same from to s (inl low) = record { at = λ j a b. c.rest.at j (inl (omega arith)) ∙ s.at j a b }
  part-same from to s (inr high) = record { at = λ j a b. c.rest.at j (inr (omega arith)) ∙ s.at j a b }

  magic : SameBytes m m' 0 8
  unfolding m m'
  magic = part-same 0 8 (SameBytes-part m (bytes_of mid.bytes) 0 24 0 8 r.keeps.front (omega arith) (omega arith))
      (inl (omega arith))

  size : SameBytes m m' 16 24
  unfolding m m'
  size = part-same 16 24 (SameBytes-part m (bytes_of mid.bytes) 0 24 16 24 r.keeps.front (omega arith)
      (omega arith)) (inr (omega arith))

  behind : SameBytes m m' 32 128
  unfolding m m'
  behind = part-same 32 128 r.keeps.behind (inr (omega arith))

  long : length new.bytes ≡ length old.bytes
  unfolding live_of
  long = laid.size

  renewed-denotes : (d : Directory) → Denotes format old.bytes d → DenotesCurrent new.bytes d
  unfolding current m m'
  renewed-denotes d h =
      let same = denotes-live format old.bytes d h in
      record {
        denotes = denotes-later format old.bytes new.bytes d h
            (record {
              magic = magic;
              version = w;
              size = size;
              behind = behind;
              blocks = subst (λ (s : LiveSet). AllByRecursion (SameBlock m m') s.extents) same blocks;
            })
            (subst (EncodesLiveSet current new.bytes) same laid);
      }

  was-version : word_at m 8 ≡ format
  unfolding m
  was-version = image.1.header.version

  replanted : RebuildsTree old.bytes new.bytes
  unfolding current m m'
  replanted =
      let was = upper-zero m format was-version (omega arith) in
      let is = upper-zero m' 2 w (omega arith) in
      record {
        version = lower-half m' 2 w (omega arith);
        front = magic;
        middle = record { at = λ j a b. middle-cases j a b (cases_lt j 16) was is };
        behind = behind;
        heap = laid;
        blocks = blocks;
        rest = λ j inside version root free. rest-cases j inside version root (cases_lt j 16) free was is;
      }
    where
      middle-cases : (j : ℕ) → 12 ≤ j → j < 24 → (j < 16) ⊎ (16 ≤ j) → AreZero m 12 16 → AreZero m' 12 16 → m' j ≡ m j
      middle-cases j a b (inl low) was is = is.at j a low ∙ sym (was.at j a low)
      middle-cases j a b (inr high) was is = size.at j high b

      rest-cases : (j : ℕ) → j < length old.bytes → (j < 8) ⊎ (12 ≤ j) → (j < 24) ⊎ (32 ≤ j) → (j < 16) ⊎ (16 ≤ j)
          → AllByRecursion (IsBesideGap j) (gaps (live_of old.bytes)) → AreZero m 12 16 → AreZero m' 12 16 → m' j ≡ m j
      rest-cases j inside (inl low) root half free was is = c.rest.at j (inl low) ∙ r.rest j inside root free
      rest-cases j inside (inr high) root (inl half) free was is = is.at j high half ∙ sym (was.at j high half)
      rest-cases j inside (inr high) root (inr half) free was is = c.rest.at j (inr half) ∙ r.rest j inside root free

  -- the case in which only the version is written
  versioned : mid ≡ old → UpgradesVersion old.bytes new.bytes
  unfolding current m m'
  versioned e = record {
    version = lower-half m' 2 w (omega arith);
    rest = version-alone m m' format 2 was-version (omega arith) w (omega arith)
        (subst (λ (v : WindowState). SameBytesExcept (bytes_of v.bytes) m' 8 8) e c.rest);
  }

  -- the image is upgraded to the current format
  pub renewed : (0 < format → mid ≡ old) → (format ≡ 2 → ⊥) → UpgradesFormat format old.bytes new.bytes
  unfolding current
  renewed e n = record {
    size = long;
    denotes = renewed-denotes;
    same = λ two. absurd (n two);
    version = λ one. versioned (e (omega arith));
    replanted = λ none. replanted;
  }

-- an image of the current format stays as it is
pub renewed-same : (b : List ℕ) → IsImage current b → UpgradesFormat current b b
unfolding current
renewed-same b image = record {
  size = refl;
  denotes = λ d h. record { denotes = h };
  same = λ e. refl;
  version = λ e. absurd (omega arith);
  replanted = λ e. absurd (omega arith);
}

-- from each format
pub upgraded : (format : ℕ) (old mid new : WindowState) → format ≤ 2 → IsImage format old.bytes
    → RebuildsFreeTree current old mid → (0 < format → mid ≡ old) → (format ≡ 2 → new ≡ mid)
    → (format ≢ 2 → ChangesBytes current mid new 8 8) → (format ≢ 2 → word_at (bytes_of new.bytes) 8 ≡ 2)
    → UpgradesFormat format old.bytes new.bytes
unfolding current
upgraded format old mid new few image r same stays changes word = elim (cases_eq format 2) [
  | inl two ↦
      subst (λ (v : WindowState). UpgradesFormat format old.bytes v.bytes) (sym (stays two ∙ same (omega arith)))
      (subst (λ (f : ℕ). UpgradesFormat f old.bytes old.bytes) (sym two)
      (renewed-same old.bytes (subst (λ (f : ℕ). IsImage f old.bytes) two image)))
  | inr n ↦ renewed format old mid new few image r (changes n) (word n) same n
]

-- with the same blocks
pub upgraded-live : (format : ℕ) (old mid new : WindowState) → RebuildsFreeTree current old mid
    → (format ≡ 2 → new ≡ mid) → (format ≢ 2 → ChangesBytes current mid new 8 8)
    → live_of new.bytes ≡ live_of old.bytes
upgraded-live format old mid new r stays changes =
    (elim (cases_eq format 2) [
      | inl two ↦ ap (λ (v : WindowState). live_of v.bytes) (stays two)
      | inr n ↦ lay_out_one current new.bytes (live_of mid.bytes) (changes n).live
    ]) ∙ lay_out_one current mid.bytes (live_of old.bytes) r.live

-- in the same place
pub upgraded-place : (format : ℕ) (old mid new : WindowState) → RebuildsFreeTree current old mid
    → (format ≡ 2 → new ≡ mid) → (format ≢ 2 → ChangesBytes current mid new 8 8) → SameSurroundings old new
upgraded-place format old mid new r stays changes = elim (cases_eq format 2) [
  | inl two ↦ subst (SameSurroundings old) (sym (stays two)) r.keeps.place
  | inr n ↦
      let first = r.keeps.place in
      let then = (changes n).place in
      record { before = then.before ∙ first.before; after = then.after ∙ first.after }
]

-- ---- the laws

-- a window of its own
abbrev alone : List ℕ → WindowState
alone b = record { before = []; bytes = b; after = [] }

-- the word of a version, by its lower half
version-word : (m m' : Memory) (n : ℕ) → word_at m 8 ≡ n → n < 256 → half_word_at m' 8 ≡ current
    → SameBytes m m' 12 16 → word_at m' 8 ≡ current
version-word m m' n e l v s =
    let was = AreZero-half_word_at m 12 (upper-zero m n e l) in
    let is = SameBytes-half_word m m' 12 16 12 s (omega arith) (omega arith) in
    let both = word_at-halves m' 8 in
    omega arith

-- law: directories of older formats are directories of the current one
pub older_directories_stand : OlderDirectoriesStand
older_directories_stand format d h = directory-later format d h

-- law: directories stay when the free tree is rebuilt
pub replanted_stand : ReplantedStand
replanted_stand b b' d h r =
    let same = denotes-live 0 b d h in
    record {
      denotes = denotes-later 0 b b' d h
          (record {
            magic = r.front;
            version = version-word (bytes_of b) (bytes_of b') 0 h.header.version (omega arith) r.version
                (SameBytes-part (bytes_of b) (bytes_of b') 12 24 12 16 r.middle (omega arith) (omega arith));
            size = SameBytes-part (bytes_of b) (bytes_of b') 12 24 16 24 r.middle (omega arith) (omega arith);
            behind = r.behind;
            blocks = subst (λ (s : LiveSet). AllByRecursion (SameBlock (bytes_of b) (bytes_of b')) s.extents) same
                r.blocks;
          })
          (subst (EncodesLiveSet current b') same r.heap);
    }

-- if only the version changes, only its word does
word-alone : (m m' : Memory) → SameBytesExcept m m' 8 4 → SameBytesExcept m m' 8 8
word-alone m m' s = record { at = λ k beside. s.at k (weaker k beside) }
  where
    weaker : (k : ℕ) → (k < 8) ⊎ (16 ≤ k) → (k < 8) ⊎ (12 ≤ k)
    weaker k (inl low) = inl low
    weaker k (inr high) = inr (omega arith)

-- law: directories stay when the version becomes the current one
pub new_versions_stand : NewVersionsStand
unfolding current
new_versions_stand b b' d h size v =
    let heap : IsHeap current b = later-heap 1 b (omega arith) (denotes-heap 1 b d h) in
    let changed : ChangesBytes current (alone b) (alone b') 8 8 =
    header_changed (alone b) (alone b') 8 heap (record { before = refl; after = refl }) size (omega arith)
    (omega arith) (λ e. absurd (omega arith)) (word-alone (bytes_of b) (bytes_of b') v.rest) in
    let upper : SameBytes (bytes_of b) (bytes_of b') 12 16 = record { at = λ k low high. v.rest.at k (inr low) } in
    let word = version-word (bytes_of b) (bytes_of b') 1 h.header.version (omega arith) v.version upper in
    renewed-denotes 1 (alone b) (alone b) (alone b') (omega arith) (d, h) (rebuilt-same (alone b) heap) changed word d h

-- a segment that denotes a directory in an older format denotes one
pub renewed-segment : (format : ℕ) (old new : List ℕ) → IsImage format old → UpgradesFormat format old new
    → IsSegment new
renewed-segment format old new image r = (image.0, r.denotes image.0 image.1)
