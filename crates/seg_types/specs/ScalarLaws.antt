-- Each value of a kind is encoded in the bytes of one number, and in no other bytes; the bytes are read back as the
-- value. The laws of the scalar types follow from this.
use Rattle.std.proofs.Common.{◌≡◌, sym, ap, subst, ◌∙◌, ℕ, zero, suc, ◌+◌, ◌-◌, ◌*◌, ◌/◌, ◌%◌, ◌^◌, ◌<◌, ◌≤◌, ◌⊎◌, inl}
use Rattle.std.proofs.Common.{inr, refl, List, [], ◌∷◌, length, arith, append-nil, lit≤, Bool, true, false}
use Rattle.std.proofs.Math.Nat.{div-div-eq-div-mul, div-one, pow-succ'}
use Rattle.std.specs.Prelude.{IsTrue, nat_lt, ℤ, pos, negsuc, int_lt, Option, Some, if◌then◌else◌, ◌==◌}
use Rattle.std.specs.List.{AllByRecursion}
use Rattle.std.proofs.lemmas.Bool.{cases_lt, cond-true, cond-false, lt-ltb, le-ltb}
use Rattle.std.specs.Int.{byte_at, bytes_low_first}
use Rattle.byteorder.specs.Endian.{little_number}
use Rattle.byteorder.specs.Numbers.{little_from-cons, little_number-reads_back}
use Rattle.seg_types.specs.declared.kinds.ScalarKind.{ScalarKind}
use Rattle.seg_types.specs.declared.kinds.ScalarKind.TheVariants.{Bool as BoolKind, U8, I32, I64, U64}
use Rattle.seg_types.specs.Kinds.{size_of, is_value, value_of, complement, spelling, truth_number, AllSpellOne}

-- ---- the ranges

bool-fits : (x : ℕ) → IsTrue (is_value BoolKind (pos x)) → x < 2
bool-fits x h = grind arith

u8-fits : (x : ℕ) → IsTrue (is_value U8 (pos x)) → x < 256
u8-fits x h = grind arith

i32-fits : (x : ℕ) → IsTrue (is_value I32 (pos x)) → x < 2 ^ 31
i32-fits x h = grind arith

i32-fits_below : (x : ℕ) → IsTrue (is_value I32 (negsuc x)) → x < 2 ^ 31
i32-fits_below x h = grind arith

pub i64-fits : (x : ℕ) → IsTrue (is_value I64 (pos x)) → x < 2 ^ 63
i64-fits x h = grind arith

pub i64-fits_below : (x : ℕ) → IsTrue (is_value I64 (negsuc x)) → x < 2 ^ 63
i64-fits_below x h = grind arith

u64-fits : (x : ℕ) → IsTrue (is_value U64 (pos x)) → x < 2 ^ 64
u64-fits x h = grind arith

-- ---- the number that encodes a value

-- the value's number fits in the bytes of its kind, and is read as the value
record IsReadBack (k : ScalarKind) (z : ℤ) : Type 0 where
  small : complement (size_of k) z < 256 ^ size_of k
  reads : value_of k (complement (size_of k) z) ≡ z

i32-low : (x : ℕ) → x < 2 ^ 31 → value_of I32 x ≡ pos x
i32-low x l = cond-true (nat_lt x (2 ^ 31)) (pos x) (negsuc (2 ^ 32 - 1 - x)) (lt-ltb x (2 ^ 31) l)

i32-high : (x : ℕ) → 2 ^ 31 ≤ x → value_of I32 x ≡ negsuc (2 ^ 32 - 1 - x)
i32-high x l = cond-false (nat_lt x (2 ^ 31)) (pos x) (negsuc (2 ^ 32 - 1 - x)) (le-ltb x (2 ^ 31) l)

pub i64-low : (x : ℕ) → x < 2 ^ 63 → value_of I64 x ≡ pos x
i64-low x l = cond-true (nat_lt x (2 ^ 63)) (pos x) (negsuc (2 ^ 64 - 1 - x)) (lt-ltb x (2 ^ 63) l)

pub i64-high : (x : ℕ) → 2 ^ 63 ≤ x → value_of I64 x ≡ negsuc (2 ^ 64 - 1 - x)
i64-high x l = cond-false (nat_lt x (2 ^ 63)) (pos x) (negsuc (2 ^ 64 - 1 - x)) (le-ltb x (2 ^ 63) l)

read_back : (k : ScalarKind) (z : ℤ) → IsTrue (is_value k z) → IsReadBack k z
read_back BoolKind (pos x) h = let l = bool-fits x h in record { small = omega arith; reads = refl }
read_back BoolKind (negsuc x) h = absurd (cc)
read_back U8 (pos x) h = let l = u8-fits x h in record { small = omega arith; reads = refl }
read_back U8 (negsuc x) h = absurd (cc)
read_back I32 (pos x) h = let l = i32-fits x h in record { small = omega arith; reads = i32-low x l }
read_back I32 (negsuc x) h =
    let l = i32-fits_below x h in
    let e : 2 ^ 32 - 1 - (256 ^ 4 - (x + 1)) ≡ x = omega arith in
    record { small = omega arith; reads = i32-high (256 ^ 4 - (x + 1)) (omega arith) ∙ ap negsuc e }
read_back I64 (pos x) h = let l = i64-fits x h in record { small = omega arith; reads = i64-low x l }
read_back I64 (negsuc x) h =
    let l = i64-fits_below x h in
    let e : 2 ^ 64 - 1 - (256 ^ 8 - (x + 1)) ≡ x = omega arith in
    record { small = omega arith; reads = i64-high (256 ^ 8 - (x + 1)) (omega arith) ∙ ap negsuc e }
read_back U64 (pos x) h = let l = u64-fits x h in record { small = omega arith; reads = refl }
read_back U64 (negsuc x) h = absurd (cc)

-- ---- the bytes of a value

pub bytes_low_first-length : (i k n : ℕ) → length (bytes_low_first i k n) ≡ k
bytes_low_first-length i zero n = refl
bytes_low_first-length i (suc k) n = ap suc (bytes_low_first-length (suc i) k n)

-- the bytes of a number that fits in them encode it
reads-bytes : (n x : ℕ) → x < 256 ^ n → little_number n (bytes_low_first 0 n x) ≡ x
reads-bytes n x l = ap (little_number n) (sym (append-nil (bytes_low_first 0 n x))) ∙ little_number-reads_back n x [] l

-- ---- the bytes of a number are the only bytes that encode it

-- a byte of a number, by division
pub byte_at-is : (k x : ℕ) → byte_at k x ≡ x / 256 ^ k % 256
byte_at-is zero x = ap (λ (y : ℕ). y % 256) (sym (div-one x))
byte_at-is (suc k) x = refl

-- the next byte of a number is a byte of the number with a byte put before it
pub byte_at-next : (k a x : ℕ) → a < 256 → byte_at (suc k) (a + 256 * x) ≡ byte_at k x
byte_at-next k a x small =
    let up : (a + 256 * x) / 256 ≡ x = omega arith in
    let split : (a + 256 * x) / 256 ^ suc k ≡ (a + 256 * x) / 256 / 256 ^ k =
    ap (λ (p : ℕ). (a + 256 * x) / p) (pow-succ' 256 k) ∙ sym (div-div-eq-div-mul (a + 256 * x) 256 (256 ^ k)) in
    ap (λ (y : ℕ). y % 256) (split ∙ ap (λ (y : ℕ). y / 256 ^ k) up) ∙ sym (byte_at-is k x)

-- all bytes of a number with a byte put before it
pub bytes_low_first-next : (i n a x : ℕ) → a < 256 → bytes_low_first (suc i) n (a + 256 * x) ≡ bytes_low_first i n x
bytes_low_first-next i zero a x small = refl
bytes_low_first-next i (suc n) a x small =
    let e = byte_at-next i a x small in
    let ih = bytes_low_first-next (suc i) n a x small in
    λ j. e j ∷ ih j

-- bytes are the encoding of the number that they encode
pub bytes-back : (bs : List ℕ) → AllByRecursion (λ b. b < 256) bs
    → bytes_low_first 0 (length bs) (little_number (length bs) bs) ≡ bs
bytes-back [] small = refl
bytes-back (b ∷ bs) small =
    let here = small.0 in
    let n : ℕ = length bs in
    let low : (b + 256 * little_number n bs) % 256 ≡ b = omega arith in
    let up = bytes_low_first-next 0 n b (little_number n bs) here ∙ bytes-back bs small.1 in
    ap (λ (x : ℕ). bytes_low_first 0 (suc n) (b + 256 * x)) (little_from-cons 0 n b bs) ∙ (λ j. low j ∷ up j)

-- the number that bytes encode fits in these bytes
pub number-small : (bs : List ℕ) → AllByRecursion (λ b. b < 256) bs → little_number (length bs) bs < 256 ^ length bs
number-small [] small = omega arith
number-small (b ∷ bs) small =
    let here = small.0 in
    let rest = number-small bs small.1 in
    let e = little_from-cons 0 (length bs) b bs in
    rw (pow-succ' 256 (length bs)) (omega arith)

-- the encoding of a value that was read from a number is this number
pub i32-back : (x : ℕ) → x < 256 ^ 4 → (x < 2 ^ 31) ⊎ (2 ^ 31 ≤ x) → complement 4 (value_of I32 x) ≡ x
i32-back x s (inl l) = ap (complement 4) (i32-low x l)
i32-back x s (inr l) = let e : 256 ^ 4 - (2 ^ 32 - 1 - x + 1) ≡ x = omega arith in ap (complement 4) (i32-high x l) ∙ e

pub i64-back : (x : ℕ) → x < 256 ^ 8 → (x < 2 ^ 63) ⊎ (2 ^ 63 ≤ x) → complement 8 (value_of I64 x) ≡ x
i64-back x s (inl l) = ap (complement 8) (i64-low x l)
i64-back x s (inr l) = let e : 256 ^ 8 - (2 ^ 64 - 1 - x + 1) ≡ x = omega arith in ap (complement 8) (i64-high x l) ∙ e

pub number-back : (k : ScalarKind) (x : ℕ) → x < 256 ^ size_of k → complement (size_of k) (value_of k x) ≡ x
number-back BoolKind x s = refl
number-back U8 x s = refl
number-back I32 x s = i32-back x s (cases_lt x (2 ^ 31))
number-back I64 x s = i64-back x s (cases_lt x (2 ^ 63))
number-back U64 x s = refl

-- bytes that are read as a value are its encoding
only-spelling : (k : ScalarKind) (z : ℤ) (bs : List ℕ) → AllByRecursion (λ b. b < 256) bs → length bs ≡ size_of k
    → value_of k (little_number (size_of k) bs) ≡ z → bs ≡ spelling k z
only-spelling k z bs small len is =
    let fits : little_number (size_of k) bs < 256 ^ size_of k =
    subst (λ (n : ℕ). little_number n bs < 256 ^ n) len (number-small bs small) in
    let back : bytes_low_first 0 (size_of k) (little_number (size_of k) bs) ≡ bs =
    subst (λ (n : ℕ). bytes_low_first 0 n (little_number n bs) ≡ bs) len (bytes-back bs small) in
    sym back ∙ ap (bytes_low_first 0 (size_of k)) (sym (number-back k (little_number (size_of k) bs) fits)
    ∙ ap (complement (size_of k)) is)

-- ---- the law

-- a value has one encoding, with the number of bytes of its kind, and no other bytes encode it
pub all_spell_one : AllSpellOne
all_spell_one k z h =
    let r : IsReadBack k z = read_back k z h in
    let reads = ap (value_of k) (reads-bytes (size_of k) (complement (size_of k) z) r.small) ∙ r.reads in
    record {
      len = bytes_low_first-length 0 (size_of k) (complement (size_of k) z);
      is_one = subst (λ (v : ℤ). IsTrue (is_value k v)) (sym reads) h;
      reads = reads;
      only = only-spelling k z;
    }

-- ---- the scalar types

pub sizes : (k : ScalarKind) → (1 ≤ size_of k) × (size_of k ≤ 4096)
sizes BoolKind = (lit≤ tt, lit≤ tt)
sizes U8 = (lit≤ tt, lit≤ tt)
sizes I32 = (lit≤ tt, lit≤ tt)
sizes I64 = (lit≤ tt, lit≤ tt)
sizes U64 = (lit≤ tt, lit≤ tt)

pub spells : (k : ScalarKind) (z : ℤ) → is_value k z ≡ true → length (spelling k z) ≡ size_of k
spells k z h = (all_spell_one k z h).len

pub differs : (k : ScalarKind) (y z : ℤ) → is_value k y ≡ true → is_value k z ≡ true → spelling k y ≡ spelling k z
    → y ≡ z
differs k y z h i e = sym (all_spell_one k y h).reads ∙ ap (λ bs. value_of k (little_number (size_of k) bs)) e
    ∙ (all_spell_one k z i).reads

-- the value that bytes encode
abbrev pub whole-reading : ScalarKind → List ℕ → Option ℤ
whole-reading k b = Some (value_of k (little_number (size_of k) b))

pub whole-reads : (k : ScalarKind) (z : ℤ) → is_value k z ≡ true → whole-reading k (spelling k z) ≡ Some z
whole-reads k z h = ap Some (all_spell_one k z h).reads

pub irreflexive : (x : ℤ) → int_lt x x ≡ false
irreflexive (pos x) = grind arith
irreflexive (negsuc x) = grind arith

pub transitive : (x y z : ℤ) → int_lt x y ≡ true → int_lt y z ≡ true → int_lt x z ≡ true
transitive x y z h i = grind arith

pub total : (x y : ℤ) → int_lt x y ≡ false → int_lt y x ≡ false → x ≡ y
total x y h i = grind arith

-- ---- u8 and u64

pub same_number : (x y : ℕ) → pos x ≡ pos y → x ≡ y
same_number x y e = cc

abbrev pub u8-reading : List ℕ → Option ℕ
u8-reading b = Some (little_number 1 b)

pub u8-reads : (x : ℕ) → is_value U8 (pos x) ≡ true → u8-reading (spelling U8 (pos x)) ≡ Some x
u8-reads x h = ap Some (same_number (little_number 1 (spelling U8 (pos x))) x (all_spell_one U8 (pos x) h).reads)

abbrev pub u64-reading : List ℕ → Option ℕ
u64-reading b = Some (little_number 8 b)

pub u64-reads : (x : ℕ) → is_value U64 (pos x) ≡ true → u64-reading (spelling U64 (pos x)) ≡ Some x
u64-reads x h = ap Some (same_number (little_number 8 (spelling U64 (pos x))) x (all_spell_one U64 (pos x) h).reads)

pub reached-u8 : (z : ℤ) → is_value U8 z ≡ true → (x : ℕ) × (pos x ≡ z)
reached-u8 (pos x) h = (x, refl)
reached-u8 (negsuc x) h = absurd (cc)

pub reached-u64 : (z : ℤ) → is_value U64 z ≡ true → (x : ℕ) × (pos x ≡ z)
reached-u64 (pos x) h = (x, refl)
reached-u64 (negsuc x) h = absurd (cc)

-- ---- bool

pub truth-value : (x : Bool) → is_value BoolKind (truth_number x) ≡ true
truth-value false = refl
truth-value true = refl

pub truth-values : (x : Bool) → true ≡ is_value BoolKind (truth_number x)
truth-values x = sym (truth-value x)

pub same_truth : (x y : Bool) → truth_number x ≡ truth_number y → x ≡ y
same_truth false false e = refl
same_truth true true e = refl
same_truth false true e = grind arith
same_truth true false e = grind arith

abbrev pub bool-reading : List ℕ → Option Bool
bool-reading b = if little_number 1 b == 0 then Some false else Some true

pub bool-reads : (x : Bool) → true ≡ true → bool-reading (spelling BoolKind (truth_number x)) ≡ Some x
bool-reads false h = refl
bool-reads true h = refl

pub reached-bool : (z : ℤ) → is_value BoolKind z ≡ true → (x : Bool) × (truth_number x ≡ z)
reached-bool (pos zero) h = (false, refl)
reached-bool (pos (suc zero)) h = (true, refl)
reached-bool (pos (suc (suc n))) h = absurd (grind arith)
reached-bool (negsuc n) h = absurd (cc)
