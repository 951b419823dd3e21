-- Bytes of an object's head that are lent by a window, and the tests of them.
use Rattle.image_check.proofs.Common.{List, Memory, ScalarKind, ap, arith, bytes_of, class_at, cond-true, eq-eqb, false}
use Rattle.image_check.proofs.Common.{has_name, if◌then◌else◌, is_name, is_spelling, le-leb, length, name_at}
use Rattle.image_check.proofs.Common.{name_len_at, nat_le, part, read, read-part, size_of, sym, value_offset, ℕ, ◌&&◌}
use Rattle.image_check.proofs.Common.{◌*◌, ◌+◌, ◌-◌, ◌/◌, ◌<◌, ◌==◌, ◌∙◌, ◌≡◌, ◌≤◌}
use Rattle.std.proofs.Math.Nat.{mul-le-mul_left}
use Rattle.image_check.specs.ObjectTests.{padding_at}

one-more : (i n : ℕ) → i < n → i + 1 ≤ n
one-more i n l = omega arith

-- the element of a number
pub element-spelled : (b : List ℕ) (k : ScalarKind) (start i count size : ℕ) (bytes : List ℕ)
    → start + size_of k * count ≤ length b → i < count → size ≡ size_of k → bytes ≡ part b (start + size * i) size
    → is_spelling k bytes ≡ is_spelling k (read (bytes_of b) (start + size_of k * i) (size_of k))
element-spelled b k start i count size bytes h l e p =
    let more = mul-le-mul_left (size_of k) (one-more i count l) in
    let within : start + size_of k * i + size_of k ≤ length b = omega arith in
    ap (is_spelling k) (p ∙ ap (λ n. part b (start + n * i) n) e
    ∙ sym (read-part b (start + size_of k * i) (size_of k) within))

-- the bytes after the name
pub padding-read : (b : List ℕ) (at len : ℕ) (bytes : List ℕ) → len ≡ name_len_at (bytes_of b) at
    → value_offset (bytes_of b) at ≤ length b → bytes ≡ part b (at + 16 + len) ((len + 7) / 8 * 8 - len)
    → bytes ≡ padding_at (bytes_of b) at
padding-read b at len bytes e h p =
    let n : ℕ = name_len_at (bytes_of b) at in
    let room : at + 16 + (n + 7) / 8 * 8 ≤ length b = h in
    let within : at + 16 + n + ((n + 7) / 8 * 8 - n) ≤ length b = omega arith in
    p ∙ ap (λ n. part b (at + 16 + n) ((n + 7) / 8 * 8 - n)) e
    ∙ sym (read-part b (at + 16 + n) ((n + 7) / 8 * 8 - n) within)

-- the name of an object of class 1
pub named-right : (format : ℕ) (m : Memory) (at len : ℕ) (name : List ℕ) → class_at m at ≡ 1
    → len ≡ name_len_at m at → len ≤ 255 → name ≡ name_at m at → is_name format name ≡ has_name format m at
named-right format m at len name c e l p =
    let n : ℕ = name_len_at m at in
    let short : n ≤ 255 = omega arith in
    ap (is_name format) p ∙ sym (cond-true (nat_le n 255) (is_name format (name_at m at)) false (le-leb n 255 short))
    ∙ sym (cond-true (class_at m at == 1) (if nat_le n 255 then is_name format (name_at m at) else false)
    (nat_le (class_at m at) 2 && (n == 0)) (eq-eqb (class_at m at) 1 c))
