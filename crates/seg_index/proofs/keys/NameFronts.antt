-- Fronts of names: if two differ, the names have their order; and reading the front of a name in a block.
use Rattle.seg_index.proofs.Common.{◌≡◌, ◌≢◌, refl, sym, ap, subst, ◌∙◌, ℕ, zero, suc, ◌+◌, ◌-◌, ◌*◌, ◌/◌, ◌%◌, ◌^◌}
use Rattle.seg_index.proofs.Common.{◌<◌, ◌≤◌, inl, inr, List, [], ◌∷◌, length, bit_and, arith, slice_cmp, slice_range}
use Rattle.seg_index.proofs.Common.{nat_cmp, ordering_reverse, Ordering, Less, Equal, Greater, cases_lt}
use Rattle.seg_index.proofs.Common.{nat_list_cmp_total, big_number, Memory, bytes_of, read, AreBytes, prefix}
use Rattle.std.proofs.{Math.Nat.add-mul, Math.Nat.mul-le-mul_right, Math.Nat.mul_assoc, Common.drop, Common.slice_index}
use Rattle.std.proofs.lemmas.{List.get_or-drop, List.get_or-take, List.get_or_past, List.length-take, Nat.Bits.ones_shr}
use Rattle.std.proofs.lemmas.Nat.{and_mask, mod_low, pow-add}
use Rattle.std.specs.{Ordering.ordering_then, Cmp.nat_cmp_is}
use Rattle.byteorder.proofs.Bytes.{pow256}
use Rattle.byteorder.specs.{Numbers.big_from-cons, Numbers.big_from-lt, Endian.big_from}

-- ---- numbers of bytes
big_from-same : (i n : ℕ) (xs ys : List ℕ) → ((k : ℕ) → i ≤ k → k < i + n → slice_index xs k ≡ slice_index ys k)
    → big_from i n xs ≡ big_from i n ys
big_from-same i zero xs ys same = refl
big_from-same i (suc n) xs ys same =
    let here = same i (omega arith) (omega arith) in
    let rest = big_from-same (suc i) n xs ys (λ k low high. same k (omega arith) (omega arith)) in
    rw (here, rest) refl

big_from-zeros : (i n : ℕ) (xs : List ℕ) → ((k : ℕ) → i ≤ k → slice_index xs k ≡ 0) → big_from i n xs ≡ 0
big_from-zeros i zero xs none = refl
big_from-zeros i (suc n) xs none =
    let here = none i (omega arith) in let rest = big_from-zeros (suc i) n xs (λ k low. none k (omega arith)) in
    rw (here, rest) (omega arith)

big_from-split : (i a k : ℕ) (xs : List ℕ) → big_from i (a + k) xs ≡ big_from i a xs * 256 ^ k + big_from (i + a) k xs
big_from-split i zero k xs =
    let e : i ≡ i + 0 = omega arith in let f : 0 + k ≡ k = omega arith in
    let moved : big_from i (0 + k) xs ≡ big_from (i + 0) k xs =
    ap (λ (n : ℕ). big_from i n xs) f ∙ ap (λ (j : ℕ). big_from j k xs) e in
    omega (arith, moved)
big_from-split i (suc a) k xs =
    let b = slice_index xs i in let p = 256 ^ a in let q = 256 ^ k in let r = big_from (suc i) a xs in
    let ih = big_from-split (suc i) a k xs in let e : suc i + a ≡ i + suc a = omega arith in
    let moved : big_from (suc i + a) k xs ≡ big_from (i + suc a) k xs = ap (λ (j : ℕ). big_from j k xs) e in
    let worth : b * 256 ^ (a + k) ≡ b * p * q = ap (λ (n : ℕ). b * n) (pow-add 256 a k) ∙ sym (mul_assoc b p q) in
    let all : (b * p + r) * q ≡ b * p * q + r * q = add-mul (b * p) r q in
    let f : suc a + k ≡ suc (a + k) = omega arith in
    let step : b * 256 ^ (a + k) + big_from (suc i) (a + k) xs ≡ (b * p + r) * q + big_from (i + suc a) k xs =
    omega (arith, ih, moved, worth, all) in
    ap (λ (n : ℕ). big_from i n xs) f ∙ step

-- ---- fronts in order

big_cons : (n x : ℕ) (xs : List ℕ) → big_from 0 (suc n) (x ∷ xs) ≡ x * 256 ^ n + big_from 0 n xs
big_cons n x xs = ap (λ k. x * 256 ^ n + k) (big_from-cons 0 n x xs)

-- a higher first byte makes a higher number
higher : (n x y : ℕ) (xs ys : List ℕ) → AreBytes (x ∷ xs) → x < y
    → big_from 0 (suc n) (x ∷ xs) < big_from 0 (suc n) (y ∷ ys)
higher n x y xs ys bytes l =
    let rises : (x + 1) * 256 ^ n ≤ y * 256 ^ n = mul-le-mul_right (256 ^ n) (omega arith) in
    let parts : (x + 1) * 256 ^ n ≡ x * 256 ^ n + 1 * 256 ^ n = add-mul x 1 (256 ^ n) in
    let small = big_from-lt 0 n xs (λ k. bytes (suc k)) in
    omega (arith, big_cons n x xs, big_cons n y ys, rises, parts, small)

then_rest : (x y : ℕ) (xs ys : List ℕ) (r : Ordering) → r ≡ nat_cmp x y
    → slice_cmp nat_cmp (x ∷ xs) (y ∷ ys) ≡ ordering_then r (slice_cmp nat_cmp xs ys)
then_rest x y xs ys r e = ap (λ (o : Ordering). ordering_then o (slice_cmp nat_cmp xs ys)) (sym e)

prefix_less : (n : ℕ) (xs ys : List ℕ) → AreBytes xs → AreBytes ys → big_from 0 n xs < big_from 0 n ys
    → slice_cmp nat_cmp xs ys ≡ Less
prefix_less zero xs ys bx by l = absurd (omega arith)
prefix_less (suc n) [] [] bx by l = absurd (omega arith)
prefix_less (suc n) [] (y ∷ ys) bx by l = refl
prefix_less (suc n) (x ∷ xs) [] bx by l = absurd (omega (arith, big_from-zeros 0 (suc n) [] (λ k low. refl)))
prefix_less (suc n) (x ∷ xs) (y ∷ ys) bx by l = elim (cases_lt x y) [
  | inl before ↦ then_rest x y xs ys Less (nat_cmp_is x y Less before)
  | inr not_before ↦ elim (cases_lt y x) [
    | inl behind ↦ absurd (omega (arith, l, higher n y x ys xs by behind))
    | inr not_behind ↦
        let level : x ≡ y = omega arith in let worth : x * 256 ^ n ≡ y * 256 ^ n = ap (λ (z : ℕ). z * 256 ^ n) level in
        then_rest x y xs ys Equal (nat_cmp_is x y Equal level) ∙ prefix_less n xs ys (λ k. bx (suc k)) (λ k. by (suc k))
        (omega (arith, l, big_cons n x xs, big_cons n y ys, worth))
  ]
]

-- and no two names of one length up to n have one front
pub prefix_equal : (n : ℕ) (xs ys : List ℕ) → AreBytes xs → AreBytes ys → length xs ≡ length ys → length xs ≤ n
    → big_from 0 n xs ≡ big_from 0 n ys → slice_cmp nat_cmp xs ys ≡ Equal
prefix_equal n [] [] bx by e few l = refl
prefix_equal n [] (y ∷ ys) bx by e few l = absurd (omega (arith, e))
prefix_equal n (x ∷ xs) [] bx by e few l = absurd (omega (arith, e))
prefix_equal zero (x ∷ xs) (y ∷ ys) bx by e few l = absurd (omega (arith, few))
prefix_equal (suc n) (x ∷ xs) (y ∷ ys) bx by e few l = elim (cases_lt x y) [
  | inl before ↦ absurd (omega (arith, l, higher n x y xs ys bx before))
  | inr not_before ↦ elim (cases_lt y x) [
    | inl behind ↦ absurd (omega (arith, l, higher n y x ys xs by behind))
    | inr not_behind ↦
        let level : x ≡ y = omega arith in let worth : x * 256 ^ n ≡ y * 256 ^ n = ap (λ (z : ℕ). z * 256 ^ n) level in
        then_rest x y xs ys Equal (nat_cmp_is x y Equal level) ∙ prefix_equal n xs ys (λ k. bx (suc k)) (λ k. by
        (suc k))
        (omega (arith, e)) (omega (arith, few)) (omega (arith, l, big_cons n x xs, big_cons n y ys, worth))
  ]
]

-- fronts that differ have the order of the names
pub prefix_order : (xs ys : List ℕ) → AreBytes xs → AreBytes ys → prefix xs ≢ prefix ys
    → nat_cmp (prefix xs) (prefix ys) ≡ slice_cmp nat_cmp xs ys
prefix_order xs ys bx by apart = elim (cases_lt (prefix xs) (prefix ys)) [
  | inl before ↦ sym (nat_cmp_is (prefix xs) (prefix ys) Less before) ∙ sym (prefix_less 8 xs ys bx by before)
  | inr not_before ↦ elim (cases_lt (prefix ys) (prefix xs)) [
    | inl behind ↦ sym (nat_cmp_is (prefix xs) (prefix ys) Greater behind)
        ∙ sym (nat_list_cmp_total.antisymm xs ys ∙ ap ordering_reverse (prefix_less 8 ys xs by bx behind))
    | inr not_behind ↦ absurd (apart (omega arith))
  ]
]

-- ---- a name in memory
read_here : (m : Memory) (at n k : ℕ) → k < n → slice_index (read m at n) k ≡ m (at + k)
read_here m at zero k l = absurd (omega arith)
read_here m at (suc n) zero l = let e : at ≡ at + 0 = omega arith in ap m e
read_here m at (suc n) (suc k) l =
    let e : at + 1 + k ≡ at + suc k = omega arith in read_here m (at + 1) n k (omega arith) ∙ ap m e

read_past : (m : Memory) (at n k : ℕ) → n ≤ k → slice_index (read m at n) k ≡ 0
read_past m at zero k l = refl
read_past m at (suc n) zero l = absurd (omega arith)
read_past m at (suc n) (suc k) l = read_past m (at + 1) n k (omega arith)

-- eight bytes of a list
range_here : (b : List ℕ) (at k : ℕ) → k < 8 → slice_index (slice_range b at (at + 8)) k ≡ slice_index b (at + k)
range_here b at k l = get_or-take (at + 8 - at) (drop at b) k 0 (omega arith) ∙ get_or-drop at b k 0

range_bytes : (b : List ℕ) (at : ℕ) → AreBytes b → AreBytes (slice_range b at (at + 8))
range_bytes b at bytes k = elim (cases_lt k 8) [
  | inl few ↦ let e = range_here b at k few in let small = bytes (at + k) in omega arith
  | inr past ↦
      let long = length-take (at + 8 - at) (drop at b) in
      let e = get_or_past (slice_range b at (at + 8)) k 0 (omega arith) in omega arith
]

module _ (b : List ℕ) (bytes : AreBytes b) (h len word : ℕ)
    (is : word ≡ big_number 8 (slice_range b (h + 16) (h + 16 + 8))) where
  abbrev name : List ℕ
  name = read (bytes_of b) (h + 16) len

  abbrev eight : List ℕ
  eight = slice_range b (h + 16) (h + 16 + 8)

  same : (k : ℕ) → k < len → k < 8 → slice_index name k ≡ slice_index eight k
  same k within few = read_here (bytes_of b) (h + 16) len k within ∙ sym (range_here b (h + 16) k few)

  -- the word of a long name is its front
  pub long_prefix : 8 ≤ len → word ≡ prefix name
  long_prefix long = is ∙ sym (big_from-same 0 8 name eight (λ k low high. same k (omega arith) (omega arith)))

  module _ (short : len < 8) where
    abbrev rest : ℕ
    rest = 8 - len

    split : (xs : List ℕ) → big_number 8 xs ≡ big_from 0 len xs * 256 ^ rest + big_from len rest xs
    split xs =
        let e : 8 ≡ len + rest = omega arith in let f : 0 + len ≡ len = omega arith in
        ap (λ (n : ℕ). big_from 0 n xs) e ∙ big_from-split 0 len rest xs
        ∙ ap (λ (i : ℕ). big_from 0 len xs * 256 ^ rest + big_from i rest xs) f

    behind : bit_and word ((2 ^ 64 - 1) / 2 ^ (8 * len)) ≡ big_from len rest eight
    behind =
        let ones = ones_shr 64 (8 * len) (omega arith) in let e : 64 - 8 * len ≡ 8 * rest = omega arith in
        let size = pow256 rest in
        let small : big_from len rest eight < 2 ^ (8 * rest) = subst (λ (n : ℕ). big_from len rest eight < n) size
        (big_from-lt len rest eight (range_bytes b (h + 16) bytes)) in
        let parts : word ≡ big_from 0 len eight * 2 ^ (8 * rest) + big_from len rest eight =
        is ∙ split eight ∙ ap (λ (n : ℕ). big_from 0 len eight * n + big_from len rest eight) size in
        ap (bit_and word) (ones ∙ ap (λ (n : ℕ). 2 ^ n - 1) e) ∙ and_mask word (8 * rest)
        ∙ ap (λ (n : ℕ). n % 2 ^ (8 * rest)) parts
        ∙ mod_low (big_from 0 len eight) (8 * rest) (big_from len rest eight) small

    -- the word of a short name, without the bytes after it, is its front
    pub short_prefix : word - bit_and word ((2 ^ 64 - 1) / 2 ^ (8 * len)) ≡ prefix name
    short_prefix =
        let whole = is ∙ split eight in let own = split name in
        let none = big_from-zeros len rest name (λ k low. read_past (bytes_of b) (h + 16) len k low) in
        let alike = big_from-same 0 len name eight (λ k low high. same k (omega arith) (omega arith)) in
        let worth : big_from 0 len name * 256 ^ rest ≡ big_from 0 len eight * 256 ^ rest =
        ap (λ (n : ℕ). n * 256 ^ rest) alike in
        omega (arith, behind, whole, own, none, worth)
