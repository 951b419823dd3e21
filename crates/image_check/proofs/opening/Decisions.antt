-- What is decided of images of any of the three formats.
use Rattle.image_check.proofs.Common.{ImageClass, ReadDelta, [], refl, subst, IsTrue, List, None, Some, and_from}
use Rattle.image_check.proofs.Common.{ap, are_bytes, arith, cases_lt, class_of, format_of, inl, inr, length}
use Rattle.image_check.proofs.Common.{list_all-append, sym, ℕ, ◌++◌, ◌<◌, ◌∙◌, ◌≡◌, ◌≤◌, ◌⊎◌}
use Rattle.std.proofs.lemmas.List.{append-nil, append_assoc, length-append}
use Rattle.raw_region.specs.Memory.{zeros}
use Rattle.image_check.specs.Classes.{DecidesClass}
use Rattle.image_check.specs.Opening.{IsRefusedAs}
use Rattle.image_check.specs.Deciding.{AllDecidedAny, decided}
use Rattle.image_check.specs.Formats.{DecidesAny, class_of_any}
use Rattle.image_check.proofs.reading.Deciding.{decided-none, decided-some, zeros-are_bytes, zeros-length}
use Rattle.image_check.proofs.reading.Formats.{format_of-front}
use Rattle.image_check.proofs.reading.Stops.{short-undecided}

-- ---- where the version is read, all that begins with it is of one format

class-any : (b : List ℕ) (c : ImageClass) → 12 ≤ length b → DecidesClass (format_of b) b c → DecidesAny b c
class-any b c l d = λ rest h. ap (λ (f : ℕ). class_of f (b ++ rest)) (format_of-front b rest l) ∙ d rest h

any-class : (b : List ℕ) (c : ImageClass) → 12 ≤ length b → DecidesAny b c → DecidesClass (format_of b) b c
any-class b c l d = λ rest h. sym (ap (λ (f : ℕ). class_of f (b ++ rest)) (format_of-front b rest l)) ∙ d rest h

-- a decided class stays decided with more bytes
more-any : (b more : List ℕ) (c : ImageClass) → IsTrue (are_bytes more) → DecidesAny b c → DecidesAny (b ++ more) c
more-any b more c h d = λ rest k.
    ap class_of_any (append_assoc b more rest)
    ∙ d (more ++ rest) (list_all-append _ more rest ∙ and_from (are_bytes more) (are_bytes rest) h k)

-- ---- few bytes decide nothing

-- with a version
few-said : (b : List ℕ) (c : ImageClass) → 12 ≤ length b → length b < 144 → DecidesAny b c → ⊥
few-said b c l s d = decided-none (format_of b) b (short-undecided (format_of b) b s) c (any-class b c l d)

-- or without them: zeros can follow
few-unsaid : (b : List ℕ) (n : ℕ) (c : ImageClass) → n ≡ 12 → length b < 12 → DecidesAny b c → ⊥
few-unsaid b n c e l d =
    let both = length-append b (zeros n) in
    let many = zeros-length n in
    few-said (b ++ zeros n) c (omega arith) (omega arith) (more-any b (zeros n) c (zeros-are_bytes n) d)

few-cases : (b : List ℕ) (c : ImageClass) → (length b < 12) ⊎ (12 ≤ length b) → length b < 144 → DecidesAny b c → ⊥
few-cases b c (inl l) s d = few-unsaid b 12 c (omega arith) l d
few-cases b c (inr l) s d = few-said b c l s d

few-any : (b : List ℕ) (c : ImageClass) → length b < 144 → DecidesAny b c → ⊥
few-any b c s d = few-cases b c (cases_lt (length b) 12) s d

-- ---- the law

some-cases : (b : List ℕ) (c : ImageClass) → (length b < 144) ⊎ (144 ≤ length b) → decided (format_of b) b ≡ Some c
    → DecidesAny b c
some-cases b c (inl s) e = absurd (let none = short-undecided (format_of b) b s in cc)
some-cases b c (inr l) e = class-any b c (omega arith) (decided-some (format_of b) b c e)

none-cases : (b : List ℕ) (c : ImageClass) → (length b < 144) ⊎ (144 ≤ length b) → decided (format_of b) b ≡ None
    → DecidesAny b c → ⊥
none-cases b c (inl s) e d = few-any b c s d
none-cases b c (inr l) e d = decided-none (format_of b) b e c (any-class b c (omega arith) d)

-- law: each image of any format is accepted or refused by one class
pub all_decided_any : AllDecidedAny
all_decided_any front = record {
  some = λ c e. some-cases front c (cases_lt (length front) 144) e;
  none = λ e c d. none-cases front c (cases_lt (length front) 144) e d;
}

-- ---- the class of a refused image

-- the decided class is the class of the bytes, as if nothing followed
pub refused-class : (format : ℕ) (image : ReadDelta) (c : ImageClass) → IsRefusedAs format image c
    → class_of format image.bytes ≡ Some c
refused-class format image c r = elim r.right [
  | inl e ↦ e.1
  | inr d ↦ subst (λ (b : List ℕ). class_of format b ≡ Some c) (append-nil image.bytes) (d [] refl)
]
