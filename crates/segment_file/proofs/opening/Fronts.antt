-- What the first 24 bytes of an image state, and that bytes after them do not change it.
use Rattle.std.proofs.Common.{◌≡◌, ◌<◌, ◌≤◌, ◌-◌, ◌&&◌, ◌||◌, ap₂, find, ℕ, Bool, true, false, List, length, drop}
use Rattle.std.proofs.Common.{Some, None, Ok, Err, IsTrue, nat_lt, refl, sym, subst, ◌∙◌, arith, eq-eqb}
use Rattle.std.specs.Prelude.{nat_le, if◌then◌else◌}
use Rattle.std.proofs.lemmas.Bool.{and_from, and_parts, and_right, le-leb, le-ltb, lt-leb, ltb-false}
use Rattle.std.proofs.lemmas.Bool.Decides.{nat_tests}
use Rattle.std.proofs.lemmas.List.{get_or_append_left, length-append}
use Rattle.raw_region.specs.Device.{ReadDelta, AppendsBytes}
use Rattle.raw_region.specs.Format.{current}
use Rattle.raw_region.specs.Memory.{Memory, SameBytes, bytes_of, half_word_at, word_at}
use Rattle.raw_region.proofs.Laws.{SameBytes-half_word, SameBytes-word}
use Rattle.block_tags.specs.Format.{is_legal_size}
use Rattle.best_fit.specs.Extents.{LiveSet, is_proper, proper_from}
use Rattle.segment_manager.specs.Directory.{live}
use Rattle.segment_manager.specs.Denotes.{magic_number}
use Rattle.segment_manager.proofs.Laws.{live-size}
use Rattle.image_check.specs.declared.classes.ImageClass.{ImageClass}
use Rattle.image_check.specs.declared.classes.ImageClass.TheVariants.{BadMagic, BadSize, Truncated, UnsupportedVersion}
use Rattle.image_check.specs.declared.versions.AcceptedVersions.{AcceptedVersions}
use Rattle.image_check.specs.declared.versions.AcceptedVersions.TheVariants.{Current, All}
use Rattle.image_check.specs.EarlyTests.{has_front, has_magic, has_size, has_version, size_word}
use Rattle.image_check.specs.Deciding.{decided, decided_by}
use Rattle.image_check.specs.Classes.{class_of, classes, holds}
use Rattle.image_check.specs.Formats.{format_in}
use Rattle.image_check.specs.HeaderOffsets.{shown_size}
use Rattle.image_check.specs.Opening.{IsImage, IsTooSmallFor}
use Rattle.segment_file.specs.ReadingOn.{Says, said_by, size_or_0}

-- ---- bytes that follow

module _ (old new : List ℕ) (grows : AppendsBytes old new) (long : 24 ≤ length old) where
  front_same : SameBytes (bytes_of old) (bytes_of new) 0 24
  front_same = record {
    at = λ k from below. subst (λ (x : List ℕ). bytes_of x k ≡ bytes_of old k) (sym grows)
        (get_or_append_left old (drop (length old) new) 0 k (omega arith));
  }

  size-stays : size_word new ≡ size_word old
  size-stays = SameBytes-word (bytes_of old) (bytes_of new) 0 24 16 front_same (omega arith) (omega arith)

  magic-stays : word_at (bytes_of new) 0 ≡ word_at (bytes_of old) 0
  magic-stays = SameBytes-word (bytes_of old) (bytes_of new) 0 24 0 front_same (omega arith) (omega arith)

  version-stays : half_word_at (bytes_of new) 8 ≡ half_word_at (bytes_of old) 8
  version-stays = SameBytes-half_word (bytes_of old) (bytes_of new) 0 24 8 front_same (omega arith) (omega arith)

  long-stays : 24 ≤ length new
  long-stays = subst (λ (x : List ℕ). 24 ≤ length x) (sym grows) (let sum = length-append old (drop (length old) new)
      in omega (arith, sum, long))

  -- the versions that are read stay with more bytes after the front
  pub format-stays : (versions : AcceptedVersions) → format_in versions new ≡ format_in versions old
  format-stays Current = refl
  format-stays All = rw version-stays refl

  -- the front of an image stays one
  pub says-stays : (versions : AcceptedVersions) (said : ℕ) → Says (format_in versions old) old said
      → Says (format_in versions new) new said
  says-stays versions said s = record {
    long = long-stays;
    front = rw (format-stays versions, magic-stays, version-stays, size-stays) s.front;
    size = size-stays ∙ s.size;
  }

  -- the size that is said stays, if none is said too
  pub said-stays : (versions : AcceptedVersions) → said_by versions new ≡ said_by versions old
  said-stays versions =
      rw (
        le-ltb (length new) 24 long-stays,
        le-ltb (length old) 24 long,
        format-stays versions,
        magic-stays,
        version-stays,
        size-stays,
      ) refl

-- ---- the size that is said

picked : (short m v l : Bool) (n : ℕ)
    → 0 < (if short then 0 else size_or_0 (if m then (if v then (if l then Ok n else Err BadSize)
    else Err UnsupportedVersion) else Err BadMagic)) → (short ≡ false) × ((m && v && l) ≡ true)
picked true m v l n h = absurd (omega arith)
picked false false v l n h = absurd (omega arith)
picked false true false l n h = absurd (omega arith)
picked false true true false n h = absurd (omega arith)
picked false true true true n h = (refl, refl)

given : (short m v l : Bool) (n : ℕ) → short ≡ false → (m && v && l) ≡ true
    → (if short then 0 else size_or_0 (if m then (if v then (if l then Ok n else Err BadSize)
    else Err UnsupportedVersion) else Err BadMagic)) ≡ n
given true m v l n s e = absurd (cc)
given false false v l n s e = absurd (cc)
given false true false l n s e = absurd (cc)
given false true true false n s e = absurd (cc)
given false true true true n s e = refl

-- a front that is one says its size
pub said-is : (versions : AcceptedVersions) (b : List ℕ) → 24 ≤ length b → has_front (format_in versions b) b ≡ true
    → said_by versions b ≡ size_word b
said-is versions b long front =
    given (nat_lt (length b) 24) (has_magic b) (has_version (format_in versions b) b) (is_legal_size (size_word b))
    (size_word b) (le-ltb (length b) 24 long) front

-- and no other bytes do
pub said-says : (versions : AcceptedVersions) (b : List ℕ) → 0 < said_by versions b
    → Says (format_in versions b) b (said_by versions b)
said-says versions b some =
    let p = picked (nat_lt (length b) 24) (has_magic b) (has_version (format_in versions b) b)
    (is_legal_size (size_word b)) (size_word b) some in
    let long = ltb-false (length b) 24 p.0 in
    record { long = long; front = p.1; size = sym (said-is versions b long p.1) }

-- ---- a region that is too small

is_true : (a : Bool) → IsTrue a → a ≡ true
is_true true h = refl
is_true false h = absurd (cc)

-- the front says a size for which there is no room
pub too-small-says : (format : ℕ) (image : ReadDelta) (capacity : ℕ) → IsTooSmallFor format image 0 capacity
    → Says format image.bytes (size_word image.bytes)
too-small-says format image capacity h = record { long = h.read; front = is_true _ h.front; size = refl }

legal-most : (n : ℕ) → is_legal_size n ≡ true → n ≤ 1073741824
legal-most n e = grind (arith, nat_tests)

legal-least : (n : ℕ) → is_legal_size n ≡ true → 144 ≤ n
legal-least n e = grind (arith, nat_tests)

-- ---- the class, by the number of bytes

below : (m n : ℕ) → m < n → nat_lt m n ≡ true
below m n h = grind (arith, nat_tests)

second : (a b : Bool) → b ≡ true → (a || b) ≡ true
second true b e = refl
second false b e = e

find-first : (p : ImageClass → Bool) → p Truncated ≡ true → find p classes ≡ Some Truncated
find-first p e = rw e refl

undecided_by : (short : Bool) → decided_by short true true true ≡ None
undecided_by true = refl
undecided_by false = refl

-- fewer than 144 bytes decide no class
pub few-undecided : (format : ℕ) (b : List ℕ) → length b < 144 → decided format b ≡ None
unfolding decided
few-undecided format b few = rw (below (length b) 144 few) refl

module _ (format : ℕ) (b : List ℕ) (said : ℕ) (s : Says format b said) where
  words : (has_magic b ≡ true) × (has_version format b ≡ true)
  words = and_parts (has_magic b) (has_version format b)
      (and_parts (has_magic b && has_version format b) (is_legal_size (size_word b)) s.front).0

  legal : is_legal_size (size_word b) ≡ true
  legal = (and_parts (has_magic b && has_version format b) (is_legal_size (size_word b)) s.front).1

  -- the size that is said is at most 1 GiB
  pub said-most : said ≤ 1073741824
  said-most = let size = s.size in let most = legal-most (size_word b) legal in omega (arith, size, most)

  -- as many bytes as the front states, or fewer, decide no class
  pub undecided : length b ≤ said → decided format b ≡ None
  unfolding decided
  undecided few =
      let size = s.size in
      let fits : has_size b ≡ true =
      and_from (is_legal_size (size_word b)) (nat_le (length b) (size_word b)) legal
      (le-leb (length b) (size_word b) (omega (arith, few, size))) in
      rw (words.0, words.1, fits) (undecided_by (nat_lt (length b) 144))

  -- more bytes than the front states decide the class `BadSize`
  pub goes-past : said < length b → decided format b ≡ Some BadSize
  unfolding decided
  goes-past more =
      let size = s.size in
      let least = legal-least (size_word b) legal in
      let whole : nat_lt (length b) 144 ≡ false = le-ltb (length b) 144 (omega (arith, more, size, least)) in
      let other : has_size b ≡ false =
      and_right (is_legal_size (size_word b)) (nat_le (length b) (size_word b))
      (lt-leb (length b) (size_word b) (omega (arith, more, size))) in
      rw (whole, words.0, words.1, other) refl

  -- an image with fewer bytes than its front states has the class `Truncated`
  pub ends-early : length b < said → class_of format b ≡ Some Truncated
  ends-early less =
      let size = s.size in
      find-first (holds format b) (second (nat_lt (length b) 144) _
      (ap₂ ◌&&◌ s.front (below (length b) (size_word b) (omega (arith, less, size)))))

  -- the size that is shown is the one that is said
  pub shown-is : shown_size b ≡ said
  shown-is = let same : shown_size b ≡ size_word b = rw legal refl in same ∙ s.size

-- ---- an image has a front

-- the version is the lower half of its word
half-of : (m : Memory) (n : ℕ) → n < 4294967296 → word_at m 8 ≡ n → half_word_at m 8 ≡ n
unfolding word_at half_word_at
half-of m n small e = omega arith

legal-of : (l : LiveSet) → IsTrue (is_proper l) → IsTrue (is_legal_size l.size)
unfolding is_proper
legal-of l p = (and_parts (is_legal_size l.size) (proper_from 128 l.extents (l.size - 16)) p).0

small-format : (versions : AcceptedVersions) (b : List ℕ) → format_in versions b < 4294967296
unfolding current
small-format Current b = omega arith
small-format All b = grind (arith, nat_tests)

-- its size is the number of its bytes
pub image-size : (format : ℕ) (b : List ℕ) → IsImage format b → size_word b ≡ length b
image-size format b i = i.1.header.size_word ∙ (sym (i.1.heap.size ∙ live-size i.0))

-- and its front says it
pub image-said : (versions : AcceptedVersions) (b : List ℕ) → IsImage (format_in versions b) b
    → said_by versions b ≡ size_word b
image-said versions b i =
    let format = format_in versions b in
    let size = i.1.header.size_word in
    let legal : is_legal_size (size_word b) ≡ true =
    is_true _ (subst (λ (n : ℕ). IsTrue (is_legal_size n)) (live-size i.0 ∙ sym size)
    (legal-of (live i.0) i.1.directory.proper)) in
    let magic : has_magic b ≡ true = eq-eqb (word_at (bytes_of b) 0) magic_number i.1.header.magic in
    let version : has_version format b ≡ true =
    eq-eqb (half_word_at (bytes_of b) 8) format (half-of (bytes_of b) format (small-format versions b)
    i.1.header.version) in
    let least = legal-least (size_word b) legal in
    let whole = image-size format b i in
    said-is versions b (omega (arith, least, whole)) (and_from (has_magic b && has_version format b)
    (is_legal_size (size_word b)) (and_from (has_magic b) (has_version format b) magic version) legal)
