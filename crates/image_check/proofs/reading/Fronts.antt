-- The first 24 bytes of an image: the size in them, and the words that the code reads.
use Rattle.image_check.proofs.Common.{BadMagic, BadSize, Err, ImageClass, IsTrue, List, Ok, Result, Some}
use Rattle.image_check.proofs.Common.{UnsupportedVersion, and_from, and_left, and_parts, ap, arith, bytes_of}
use Rattle.image_check.proofs.Common.{decided_by, drop, eq-eqb, false, front_of, has_front, has_magic, has_size}
use Rattle.image_check.proofs.Common.{has_version, if◌then◌else◌, is_legal_size, le-ltb, length, length-take}
use Rattle.image_check.proofs.Common.{little_number, magic_number, nat_le, ne_eqb, part}
use Rattle.image_check.proofs.Common.{read-part, refl, size_word, sym, take, true, ℕ, ◌&&◌, ◌++◌, ◌+◌, ◌∙◌, ◌≡◌}
use Rattle.image_check.proofs.Common.{◌≤◌}
use Rattle.std.proofs.Common.{Bool}
use Rattle.std.proofs.lemmas.List.{length-append, take-append-drop}
use Rattle.raw_region.specs.Memory.{half_word_at, word_at}
use Rattle.image_check.specs.Deciding.{decided}
use Rattle.image_check.proofs.reading.Deciding.{has_magic-front, has_version-front, size_word-front}

-- ---- the words that the code reads

-- a half word is the number in four bytes
pub half_word-part : (b : List ℕ) (at : ℕ) → at + 4 ≤ length b
    → little_number 4 (part b at 4) ≡ half_word_at (bytes_of b) at
unfolding half_word_at
half_word-part b at h = ap (little_number 4) (sym (read-part b at 4 h))

-- the size by the three tests
abbrev front_by : Bool → Bool → Bool → ℕ → Result ℕ ImageClass
front_by magic version legal size =
    if magic then (if version then (if legal then Ok size else Err BadSize) else Err UnsupportedVersion) else Err
    BadMagic

-- the numbers that the code reads of the front
pub record IsReadOf (b : List ℕ) (magic version size : ℕ) : Type 0 where
  pub long : 24 ≤ length b
  pub magic_is : magic ≡ word_at (bytes_of b) 0
  pub version_is : version ≡ half_word_at (bytes_of b) 8
  pub size_is : size ≡ word_at (bytes_of b) 16

-- a right magic
magic-true : (b : List ℕ) (m v n : ℕ) → IsReadOf b m v n → m ≡ magic_number → has_magic b ≡ true
magic-true b m v n r e = eq-eqb (word_at (bytes_of b) 0) magic_number (sym r.magic_is ∙ e)

-- another version
pub front-version : (format : ℕ) (b : List ℕ) (m v : ℕ) → 24 ≤ length b → m ≡ word_at (bytes_of b) 0
    → v ≡ half_word_at (bytes_of b) 8 → m ≡ magic_number → (v ≡ format → ⊥)
    → Err UnsupportedVersion ≡ front_of format b
front-version format b m v long p q e d =
    let r : IsReadOf b m v (word_at (bytes_of b) 16) =
    record { long = long; magic_is = p; version_is = q; size_is = refl } in
    let f : has_version format b ≡ false = ne_eqb (half_word_at (bytes_of b) 8) format (λ h. d (q ∙ h)) in
    let g = magic-true b m v (word_at (bytes_of b) 16) r e in
    sym (λ i. front_by (g i) (f i) (is_legal_size (size_word b)) (size_word b))

-- a size that no segment has
pub front-size : (format : ℕ) (b : List ℕ) (m v n : ℕ) → IsReadOf b m v n → m ≡ magic_number → v ≡ format
    → is_legal_size n ≡ false → Err BadSize ≡ front_of format b
front-size format b m v n r e d l =
    let f : has_version format b ≡ true = eq-eqb (half_word_at (bytes_of b) 8) format (sym r.version_is ∙ d) in
    let g = magic-true b m v n r e in
    let h : is_legal_size (size_word b) ≡ false = sym (ap is_legal_size r.size_is) ∙ l in
    sym (λ i. front_by (g i) (f i) (h i) (size_word b))

-- all right
pub front-right : (format : ℕ) (b : List ℕ) (m v n : ℕ) → IsReadOf b m v n → m ≡ magic_number → v ≡ format
    → is_legal_size n ≡ true → Ok n ≡ front_of format b
front-right format b m v n r e d l =
    let size = sym r.size_is in
    let f : has_version format b ≡ true = eq-eqb (half_word_at (bytes_of b) 8) format (sym r.version_is ∙ d) in
    let g = magic-true b m v n r e in
    let h : is_legal_size (size_word b) ≡ true = sym (ap is_legal_size r.size_is) ∙ l in
    sym (λ i. front_by (g i) (f i) (h i) (size i))

-- ---- the bytes that follow

-- bytes that follow do not change the meaning of the front
pub front_of-append : (format : ℕ) (b rest : List ℕ) → 24 ≤ length b → front_of format (b ++ rest) ≡ front_of format b
front_of-append format b rest l =
    let m = has_magic-front b rest l in
    let v = has_version-front format b rest l in
    let s = size_word-front b rest l in
    λ i. front_by (m i) (v i) (is_legal_size (s i)) (s i)

-- a front without a legal size is wrong
wrong_by : (m v l : Bool) (n : ℕ) (c : ImageClass) → front_by m v l n ≡ Err c → (m && v && l) ≡ false
wrong_by true true true n c e = absurd (cc)
wrong_by true true false n c e = refl
wrong_by true false l n c e = refl
wrong_by false v l n c e = refl

-- a front with a class has no right frame
pub front-wrong : (format : ℕ) (b : List ℕ) (c : ImageClass) → front_of format b ≡ Err c → has_front format b ≡ false
front-wrong format b c e = wrong_by (has_magic b) (has_version format b) (is_legal_size (size_word b)) (size_word b) c e

-- the class of a wrong front is the class that it decides
decided_wrong : (m v l s : Bool) (n : ℕ) (c : ImageClass) → (l ≡ false → s ≡ false) → front_by m v l n ≡ Err c
    → decided_by false m v s ≡ Some c
decided_wrong true true true s n c f e = absurd (cc)
decided_wrong true true false s n c f e = let same : BadSize ≡ c = cc
    in ap (decided_by false true true) (f refl) ∙ ap Some same
decided_wrong true false l s n c f e = let same : UnsupportedVersion ≡ c = cc in ap Some same
decided_wrong false v l s n c f e = let same : BadMagic ≡ c = cc in ap Some same

-- a front with a class decides it
pub front-decided : (format : ℕ) (b : List ℕ) (c : ImageClass) → 144 ≤ length b → front_of format b ≡ Err c
    → decided format b ≡ Some c
unfolding decided
front-decided format b c l e =
    ap (λ s. decided_by s (has_magic b) (has_version format b) (has_size b)) (le-ltb (length b) 144 l)
    ∙ decided_wrong (has_magic b) (has_version format b) (is_legal_size (size_word b)) (has_size b) (size_word b) c
    (and_left (is_legal_size (size_word b)) (nat_le (length b) (size_word b))) e

-- ---- a right front

-- the bytes begin with the magic, the version and a legal size
pub record IsRight (format : ℕ) (b : List ℕ) (size : ℕ) : Type 0 where
  pub long : 24 ≤ length b
  pub magic : has_magic b ≡ true
  pub version : has_version format b ≡ true
  pub legal : is_legal_size size ≡ true
  pub says : size_word b ≡ size

-- a right front as a test, and as a property
pub has_front-IsRight : (format : ℕ) (b : List ℕ) (size : ℕ) → 24 ≤ length b → IsTrue (has_front format b)
    → size_word b ≡ size → IsRight format b size
has_front-IsRight format b size l h e =
    let two = and_parts (has_magic b && has_version format b) (is_legal_size (size_word b)) h in
    let one = and_parts (has_magic b) (has_version format b) two.0 in
    record { long = l; magic = one.0; version = one.1; legal = sym (ap is_legal_size e) ∙ two.1; says = e }

-- a right front as a property, and as a test
pub IsRight-has_front : (format : ℕ) (b : List ℕ) (size : ℕ) → IsRight format b size → IsTrue (has_front format b)
IsRight-has_front format b size r =
    and_from (has_magic b && has_version format b) (is_legal_size (size_word b))
    (and_from (has_magic b) (has_version format b) r.magic r.version) (ap is_legal_size r.says ∙ r.legal)

-- a right front stays right with more bytes after it
pub IsRight-append : (format : ℕ) (b rest : List ℕ) (size : ℕ) → IsRight format b size → IsRight format (b ++ rest) size
IsRight-append format b rest size r =
    let long = r.long in
    let more = length-append b rest in
    record {
      long = omega arith;
      magic = has_magic-front b rest r.long ∙ r.magic;
      version = has_version-front format b rest r.long ∙ r.version;
      legal = r.legal;
      says = size_word-front b rest r.long ∙ r.says;
    }

-- the first 24 bytes tell
pub IsRight-take : (format : ℕ) (b : List ℕ) (size : ℕ) → IsRight format b size → IsRight format (take 24 b) size
IsRight-take format b size r =
    let long = r.long in
    let cut = length-take 24 b in
    let some : 24 ≤ length (take 24 b) = omega arith in
    let both = sym (take-append-drop 24 b) in
    record {
      long = some;
      magic = sym (ap has_magic both ∙ has_magic-front (take 24 b) (drop 24 b) some) ∙ r.magic;
      version = sym (ap (has_version format) both ∙ has_version-front format (take 24 b) (drop 24 b) some) ∙ r.version;
      legal = r.legal;
      says = sym (ap size_word both ∙ size_word-front (take 24 b) (drop 24 b) some) ∙ r.says;
    }
