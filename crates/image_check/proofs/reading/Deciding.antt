-- The bytes read so far, and the bytes that can follow: which class they decide.
use Rattle.image_check.proofs.Common.{small_size}
use Rattle.image_check.proofs.Common.{BadContainer, BadFreeTree, BadIndex, BadMagic, BadObject, BadReserved, BadSize}
use Rattle.image_check.proofs.Common.{BadTag, ImageClass, IsTrue, List, None, OrphanBlock, SharedBlock, Some, Truncated}
use Rattle.image_check.proofs.Common.{UnsupportedVersion, [], and_from, and_left, and_parts, and_right, ap, are_bytes}
use Rattle.image_check.proofs.Common.{arith, both_ways, bytes_of, cases_Bool, cases_lt, class_of, classes, cond-false}
use Rattle.image_check.proofs.Common.{cond-true, decided_by, false, has_front, has_magic, has_size}
use Rattle.image_check.proofs.Common.{has_version, is_legal_size, le-leb, le-ltb, leb-true, length, length-replicate}
use Rattle.image_check.proofs.Common.{little_number, lt-ltb, ltb-false, ltb-true, magic_number, nat_le, nat_lt}
use Rattle.image_check.proofs.Common.{not_from_false, not_from_true, or_from, or_left, or_right, read, refl}
use Rattle.image_check.proofs.Common.{size_word, subst, suc, sym, true, zero, ℕ, ◌&&◌, ◌++◌, ◌+◌, ◌-◌, ◌<◌, ◌==◌}
use Rattle.image_check.proofs.Common.{◌∙◌, ◌∷◌, ◌≡◌, ◌≤◌}
use Rattle.std.proofs.Common.{Bool, append-nil, length-append}
use Rattle.std.specs.Prelude.{find}
use Rattle.std.proofs.lemmas.Bool.{and_cases, leb-false, lt-leb}
use Rattle.std.proofs.lemmas.List.{get_or_append_left}
use Rattle.raw_region.specs.Memory.{half_word_at, word_at, zeros}
use Rattle.image_check.specs.Classes.{DecidesClass, holds}
use Rattle.image_check.specs.Deciding.{AllDecided, decided}
use mathlib.Core.Logic.{◌⊎◌, inl, inr}

-- ---- the first class that holds

-- the first element is found where it passes
pub find-here : (p : ImageClass → Bool) (c : ImageClass) (cs : List ImageClass) → p c ≡ true → find p (c ∷ cs) ≡ Some c
find-here p c cs e = cond-true (p c) (Some c) (find p cs) e

-- and passed over where it does not
pub find-past : (p : ImageClass → Bool) (c : ImageClass) (cs : List ImageClass) → p c ≡ false
    → find p (c ∷ cs) ≡ find p cs
find-past p c cs e = cond-false (p c) (Some c) (find p cs) e

-- the first class whose test passes
found_if : (p : ImageClass → Bool) (b : Bool) (d c : ImageClass) (cs : List ImageClass) → p d ≡ b
    → find p (d ∷ cs) ≡ Some c → (find p cs ≡ Some c → p c ≡ true) → p c ≡ true
found_if p true d c cs e f k = let same : d ≡ c = cc (find-here p d cs e) in subst (λ x. p x ≡ true) same e
found_if p false d c cs e f k = k (sym (find-past p d cs e) ∙ f)

-- the class that is found holds
find-holds : (p : ImageClass → Bool) (c : ImageClass) (cs : List ImageClass) → find p cs ≡ Some c → p c ≡ true
find-holds p c [] f = absurd (cc)
find-holds p c (d ∷ cs) f = found_if p (p d) d c cs refl f (find-holds p c cs)

-- the classes after the first four
abbrev later : List ImageClass
later = BadReserved ∷ BadTag ∷ BadFreeTree ∷ BadIndex ∷ BadObject ∷ SharedBlock ∷ BadContainer ∷ OrphanBlock ∷ []

-- the first class is the one of the bytes where it holds
pub first_class : (p : ImageClass → Bool) → p Truncated ≡ true → find p classes ≡ Some Truncated
first_class p a = find-here p Truncated (BadMagic ∷ UnsupportedVersion ∷ BadSize ∷ later) a

-- the second is where the first does not hold
second_class : (p : ImageClass → Bool) → p Truncated ≡ false → p BadMagic ≡ true → find p classes ≡ Some BadMagic
second_class p a b = find-past p Truncated (BadMagic ∷ UnsupportedVersion ∷ BadSize ∷ later) a
    ∙ find-here p BadMagic (UnsupportedVersion ∷ BadSize ∷ later) b

-- the third where neither of the two before does
third_class : (p : ImageClass → Bool) → p Truncated ≡ false → p BadMagic ≡ false → p UnsupportedVersion ≡ true
    → find p classes ≡ Some UnsupportedVersion
third_class p a b c =
    find-past p Truncated (BadMagic ∷ UnsupportedVersion ∷ BadSize ∷ later) a
    ∙ find-past p BadMagic (UnsupportedVersion ∷ BadSize ∷ later) b
    ∙ find-here p UnsupportedVersion (BadSize ∷ later) c

-- the fourth class, if none of the three before holds
fourth_class : (p : ImageClass → Bool) → p Truncated ≡ false → p BadMagic ≡ false → p UnsupportedVersion ≡ false
    → p BadSize ≡ true → find p classes ≡ Some BadSize
fourth_class p a b c d =
    find-past p Truncated (BadMagic ∷ UnsupportedVersion ∷ BadSize ∷ later) a
    ∙ find-past p BadMagic (UnsupportedVersion ∷ BadSize ∷ later) b
    ∙ find-past p UnsupportedVersion (BadSize ∷ later) c ∙ find-here p BadSize later d

-- ---- bytes that follow change no word before them

-- the bytes of the front
read-front : (b rest : List ℕ) (at n : ℕ) → at + n ≤ length b
    → read (bytes_of (b ++ rest)) at n ≡ read (bytes_of b) at n
read-front b rest at zero l = refl
read-front b rest at (suc n) l =
    let first = get_or_append_left b rest 0 at (omega arith) in
    let more = read-front b rest (at + 1) n (omega arith) in
    λ i. first i ∷ more i

-- a word of the front
word_at-front : (b rest : List ℕ) (at : ℕ) → at + 8 ≤ length b
    → word_at (bytes_of (b ++ rest)) at ≡ word_at (bytes_of b) at
unfolding word_at
word_at-front b rest at l = ap (little_number 8) (read-front b rest at 8 l)

-- a half word of the front
pub half_word_at-front : (b rest : List ℕ) (at : ℕ) → at + 4 ≤ length b
    → half_word_at (bytes_of (b ++ rest)) at ≡ half_word_at (bytes_of b) at
unfolding half_word_at
half_word_at-front b rest at l = ap (little_number 4) (read-front b rest at 4 l)

-- the magic stays
pub has_magic-front : (b rest : List ℕ) → 24 ≤ length b → has_magic (b ++ rest) ≡ has_magic b
has_magic-front b rest l = ap (λ w. w == magic_number) (word_at-front b rest 0 (omega arith))

-- the version stays
pub has_version-front : (format : ℕ) (b rest : List ℕ) → 24 ≤ length b
    → has_version format (b ++ rest) ≡ has_version format b
has_version-front format b rest l = ap (λ w. w == format) (half_word_at-front b rest 8 (omega arith))

-- the size stays
pub size_word-front : (b rest : List ℕ) → 24 ≤ length b → size_word (b ++ rest) ≡ size_word b
size_word-front b rest l = word_at-front b rest 16 (omega arith)

-- ---- where an image is not too short

-- with 144 bytes and a front that is wrong
not_truncated-front : (format : ℕ) (b : List ℕ) → 144 ≤ length b → has_front format b ≡ false
    → holds format b Truncated ≡ false
not_truncated-front format b l e =
    or_from (nat_lt (length b) 144) (has_front format b && nat_lt (length b) (size_word b))
    (le-ltb (length b) 144 l) (and_left (has_front format b) (nat_lt (length b) (size_word b)) e)

-- a length of at least the size
not_truncated-size : (format : ℕ) (b : List ℕ) → 144 ≤ length b → size_word b ≤ length b
    → holds format b Truncated ≡ false
not_truncated-size format b l m =
    or_from (nat_lt (length b) 144) (has_front format b && nat_lt (length b) (size_word b)) (le-ltb (length b) 144 l)
    (and_right (has_front format b) (nat_lt (length b) (size_word b)) (le-ltb (length b) (size_word b) m))

-- a wrong magic is a wrong front
front-magic : (format : ℕ) (b : List ℕ) → has_magic b ≡ false → has_front format b ≡ false
front-magic format b e = and_left (has_magic b && has_version format b) (is_legal_size (size_word b))
    (and_left (has_magic b) (has_version format b) e)

-- a wrong version is a wrong front
front-version : (format : ℕ) (b : List ℕ) → has_version format b ≡ false → has_front format b ≡ false
front-version format b e = and_left (has_magic b && has_version format b) (is_legal_size (size_word b))
    (and_right (has_magic b) (has_version format b) e)

-- a size that no segment has is a wrong front
front-size : (format : ℕ) (b : List ℕ) → is_legal_size (size_word b) ≡ false → has_front format b ≡ false
front-size format b e = and_right (has_magic b && has_version format b) (is_legal_size (size_word b)) e

-- ---- a decided class stays decided

-- a list is at least as long as its front
longer : (b rest : List ℕ) (n : ℕ) → n ≤ length b → n ≤ length (b ++ rest)
longer b rest n l = let e = length-append b rest in omega arith

-- a wrong magic in 144 bytes decides class 2
magic-decides : (format : ℕ) (b : List ℕ) → 144 ≤ length b → has_magic b ≡ false → DecidesClass format b BadMagic
magic-decides format b l e rest h =
    let f : has_magic (b ++ rest) ≡ false = has_magic-front b rest (omega arith) ∙ e in
    second_class (holds format (b ++ rest))
    (not_truncated-front format (b ++ rest) (longer b rest 144 l) (front-magic format (b ++ rest) f))
    (not_from_false (has_magic (b ++ rest)) f)

-- a wrong version after a right magic decides class 3
version-decides : (format : ℕ) (b : List ℕ) → 144 ≤ length b → has_magic b ≡ true → has_version format b ≡ false
    → DecidesClass format b UnsupportedVersion
version-decides format b l e f rest h =
    let m : has_magic (b ++ rest) ≡ true = has_magic-front b rest (omega arith) ∙ e in
    let v : has_version format (b ++ rest) ≡ false = has_version-front format b rest (omega arith) ∙ f in
    third_class (holds format (b ++ rest))
    (not_truncated-front format (b ++ rest) (longer b rest 144 l) (front-version format (b ++ rest) v))
    (not_from_true (has_magic (b ++ rest)) m) (not_from_false (has_version format (b ++ rest)) v)

-- a size class after a right magic and version
size-class : (format : ℕ) (b : List ℕ) → has_magic b ≡ true → has_version format b ≡ true
    → holds format b Truncated ≡ false → has_size b ≡ false → class_of format b ≡ Some BadSize
size-class format b m v t s = fourth_class (holds format b) t (not_from_true (has_magic b) m)
    (not_from_true (has_version format b) v) (not_from_false (has_size b) s)

-- a size that no segment has, or fewer bytes than were read, decides class 4
size-decides : (format : ℕ) (b : List ℕ) → 144 ≤ length b → has_magic b ≡ true → has_version format b ≡ true
    → (is_legal_size (size_word b) ≡ false) ⊎ (nat_le (length b) (size_word b) ≡ false) → DecidesClass format b BadSize
size-decides format b l e f (inl g) rest h =
    let m = has_magic-front b rest (omega arith) ∙ e in
    let v = has_version-front format b rest (omega arith) ∙ f in
    let s : is_legal_size (size_word (b ++ rest)) ≡ false =
    ap is_legal_size (size_word-front b rest (omega arith)) ∙ g in
    size-class format (b ++ rest) m v
    (not_truncated-front format (b ++ rest) (longer b rest 144 l) (front-size format (b ++ rest) s))
    (and_left (is_legal_size (size_word (b ++ rest))) (nat_le (length (b ++ rest)) (size_word (b ++ rest))) s)
size-decides format b l e f (inr g) rest h =
    let m = has_magic-front b rest (omega arith) ∙ e in
    let v = has_version-front format b rest (omega arith) ∙ f in
    let less = leb-false (length b) (size_word b) g in
    let same = size_word-front b rest (omega arith) in
    let more = length-append b rest in
    let s : size_word (b ++ rest) < length (b ++ rest) = omega arith in
    size-class format (b ++ rest) m v (not_truncated-size format (b ++ rest) (longer b rest 144 l) (omega arith))
    (and_right (is_legal_size (size_word (b ++ rest))) (nat_le (length (b ++ rest)) (size_word (b ++ rest)))
    (lt-leb (length (b ++ rest)) (size_word (b ++ rest)) s))

-- ---- where nothing is decided

-- the length of n zeros is n
pub zeros-length : (n : ℕ) → length (zeros n) ≡ n
unfolding zeros
zeros-length n = length-replicate n 0

-- zeros are bytes
pub zeros-are_bytes : (n : ℕ) → IsTrue (are_bytes (zeros n))
unfolding zeros
zeros-are_bytes zero = refl
zeros-are_bytes (suc n) = zeros-are_bytes n

-- an image of 2 ^ 30 bytes is not too short
long_cases : (format : ℕ) (b : List ℕ) → 1073741824 ≤ length b → (is_legal_size (size_word b) ≡ true)
    ⊎ (is_legal_size (size_word b) ≡ false) → holds format b Truncated ≡ false
long_cases format b l (inl e) = let most = small_size (size_word b) e
    in not_truncated-size format b (omega arith) (omega arith)
long_cases format b l (inr e) = not_truncated-front format b (omega arith) (front-size format b e)

-- with nothing after it, the front has the class
alone : (format : ℕ) (b : List ℕ) (c : ImageClass) → DecidesClass format b c → class_of format b ≡ Some c
alone format b c d = subst (λ x. class_of format x ≡ Some c) (append-nil b) (d [] refl)

-- a front that is too short alone, and not with some bytes after it, decides nothing
not_both : (format : ℕ) (b rest : List ℕ) (c : ImageClass) → holds format b Truncated ≡ true
    → IsTrue (are_bytes rest) → holds format (b ++ rest) Truncated ≡ false → DecidesClass format b c → ⊥
not_both format b rest c t h n d =
    let first : Some c ≡ Some Truncated = sym (alone format b c d) ∙ first_class (holds format b) t in
    let found : holds format (b ++ rest) Truncated ≡ true =
    find-holds (holds format (b ++ rest)) Truncated classes (d rest h ∙ first) in
    both_ways (holds format (b ++ rest) Truncated) n found

-- fewer than 144 bytes decide nothing: zeros can follow
short_undecided : (format : ℕ) (b : List ℕ) (n : ℕ) (c : ImageClass) → 1073741824 ≤ n → length b < 144
    → DecidesClass format b c → ⊥
short_undecided format b n c m l d =
    let more = length-append b (zeros n) in
    let many = zeros-length n in
    not_both format b (zeros n) c (or_left (nat_lt (length b) 144) (has_front format b
    && nat_lt (length b) (size_word b)) (lt-ltb (length b) 144 l)) (zeros-are_bytes n)
    (long_cases format (b ++ zeros n) (omega arith) (cases_Bool (is_legal_size (size_word (b ++ zeros n))))) d

-- the front's tests that do not decide
record IsOpen (format : ℕ) (b : List ℕ) : Type 0 where
  long : 144 ≤ length b
  magic : has_magic b ≡ true
  version : has_version format b ≡ true
  legal : is_legal_size (size_word b) ≡ true

-- fewer bytes than the size decide no class: zeros can follow
cut_undecided : (format : ℕ) (b : List ℕ) (c : ImageClass) → IsOpen format b → length b < size_word b
    → DecidesClass format b c → ⊥
cut_undecided format b c o l d =
    let n : ℕ = size_word b - length b in
    let long = o.long in
    let more = length-append b (zeros n) in
    let many = zeros-length n in
    let same = size_word-front b (zeros n) (omega arith) in
    let front : has_front format b ≡ true =
    and_from (has_magic b && has_version format b) (is_legal_size (size_word b))
    (and_from (has_magic b) (has_version format b) o.magic o.version) o.legal in
    not_both format b (zeros n) c
    (or_right (nat_lt (length b) 144) (has_front format b && nat_lt (length b) (size_word b))
    (and_from (has_front format b) (nat_lt (length b) (size_word b)) front (lt-ltb (length b) (size_word b) l)))
    (zeros-are_bytes n)
    (not_truncated-size format (b ++ zeros n) (omega arith) (omega arith)) d

-- as many bytes as the size decide no class: one more can follow
whole_undecided : (format : ℕ) (b : List ℕ) (c : ImageClass) → IsOpen format b → length b ≡ size_word b
    → DecidesClass format b c → ⊥
whole_undecided format b c o l d =
    let rest : List ℕ = 0 ∷ [] in
    let long = o.long in
    let more : length (b ++ rest) ≡ length b + 1 = length-append b rest in
    let same = size_word-front b rest (omega arith) in
    let big : class_of format (b ++ rest) ≡ Some BadSize =
    size-class format (b ++ rest) (has_magic-front b rest (omega arith)
    ∙ o.magic) (has_version-front format b rest (omega arith) ∙ o.version)
    (not_truncated-size format (b ++ rest) (omega arith) (omega arith))
    (and_right (is_legal_size (size_word (b ++ rest))) (nat_le (length (b ++ rest)) (size_word (b ++ rest)))
    (lt-leb (length (b ++ rest)) (size_word (b ++ rest)) (omega arith))) in
    let first : class_of format b ≡ Some BadSize = alone format b c d ∙ sym (d rest refl) ∙ big in
    let found : holds format b BadSize ≡ true = find-holds (holds format b) BadSize classes first in
    both_ways (holds format b BadSize)
    (not_from_true (has_size b) (and_from (is_legal_size (size_word b)) (nat_le (length b) (size_word b)) o.legal
    (le-leb (length b) (size_word b) (omega arith)))) found

-- both together
open_cases : (format : ℕ) (b : List ℕ) (c : ImageClass) → IsOpen format b → length b ≤ size_word b
    → (length b < size_word b) ⊎ (size_word b ≤ length b) → DecidesClass format b c → ⊥
open_cases format b c o m (inl l) d = cut_undecided format b c o l d
open_cases format b c o m (inr l) d = whole_undecided format b c o (omega arith) d

-- ---- the test

-- the decided class, by the four tests
some_cases : (format : ℕ) (b : List ℕ) (c : ImageClass) (p q r s : Bool) → nat_lt (length b) 144 ≡ p
    → has_magic b ≡ q → has_version format b ≡ r → has_size b ≡ s
    → decided_by p q r s ≡ Some c → DecidesClass format b c
some_cases format b c true q r s e f g h k = absurd (cc)
some_cases format b c false false r s e f g h k =
    let same : BadMagic ≡ c = cc in subst (DecidesClass format b) same
    (magic-decides format b (ltb-false (length b) 144 e) f)
some_cases format b c false true false s e f g h k =
    let same : UnsupportedVersion ≡ c = cc
    in subst (DecidesClass format b) same (version-decides format b (ltb-false (length b) 144 e) f g)
some_cases format b c false true true true e f g h k = absurd (cc)
some_cases format b c false true true false e f g h k =
    let same : BadSize ≡ c = cc in
    subst (DecidesClass format b) same
    (size-decides format b (ltb-false (length b) 144 e) f g
    (and_cases (is_legal_size (size_word b)) (nat_le (length b) (size_word b)) h))

-- no decided class, by the four tests
none_cases : (format : ℕ) (b : List ℕ) (n : ℕ) (c : ImageClass) (p q r s : Bool) → 1073741824 ≤ n
    → nat_lt (length b) 144 ≡ p → has_magic b ≡ q → has_version format b ≡ r → has_size b ≡ s
    → decided_by p q r s ≡ None → DecidesClass format b c → ⊥
none_cases format b n c true q r s m e f g h k d = short_undecided format b n c m (ltb-true (length b) 144 e) d
none_cases format b n c false false r s m e f g h k d = absurd (cc)
none_cases format b n c false true false s m e f g h k d = absurd (cc)
none_cases format b n c false true true false m e f g h k d = absurd (cc)
none_cases format b n c false true true true m e f g h k d =
    let parts = and_parts (is_legal_size (size_word b)) (nat_le (length b) (size_word b)) h in
    let o : IsOpen format b = record { long = ltb-false (length b) 144 e; magic = f; version = g; legal = parts.0 } in
    open_cases format b c o (leb-true (length b) (size_word b) parts.1) (cases_lt (length b) (size_word b)) d

-- the class that the test finds is decided
pub decided-some : (format : ℕ) (front : List ℕ) (c : ImageClass) → decided format front ≡ Some c
    → DecidesClass format front c
unfolding decided
decided-some format front c e =
    some_cases format front c (nat_lt (length front) 144) (has_magic front) (has_version format front)
    (has_size front) refl refl refl refl e

-- if the test finds no class, none is decided
pub decided-none : (format : ℕ) (front : List ℕ) → decided format front ≡ None → (c : ImageClass)
    → DecidesClass format front c → ⊥
unfolding decided
decided-none format front e c d =
    none_cases format front 1073741824 c (nat_lt (length front) 144) (has_magic front) (has_version format front)
    (has_size front) (omega arith) refl refl refl refl e d

-- the law
pub all_decided : AllDecided
all_decided format front = record { some = decided-some format front; none = decided-none format front }
