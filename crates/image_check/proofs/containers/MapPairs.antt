-- The bounds of a pair of a map, and its fields.
use Rattle.image_check.proofs.Common.{Blocks, Option, ScalarKind, WindowState, ap, arith, bytes_of, int_lt}
use Rattle.image_check.proofs.Common.{is_pair-IsPairNode, is_target, is_target-PayloadBounds, kept_link, length}
use Rattle.image_check.proofs.Common.{link_at}
use Rattle.image_check.proofs.Common.{little_number, part, read, read-part, size_of, small_size, sym, true, value_of, ℕ}
use Rattle.image_check.proofs.Common.{◌%◌, ◌*◌, ◌+◌, ◌∙◌, ◌≡◌, ◌≤◌}
use Rattle.seg_types.specs.declared.kinds.ScalarKind.TheVariants.{Bool as BoolKind}
use Rattle.image_check.specs.MapNodes.{is_pair, key_before, pair_cells}

-- a scalar has at most 8 bytes
pub size-most : (k : ScalarKind) → size_of k ≤ 8
size-most BoolKind = omega arith
size-most other = omega arith

-- a scalar has at least 1 byte
pub size-least : (k : ScalarKind) → 1 ≤ size_of k
size-least BoolKind = omega arith
size-least other = omega arith

-- elements have at least one byte each
pub size-times : (k : ScalarKind) (n : ℕ) → n ≤ size_of k * n
size-times BoolKind n = omega arith
size-times other n = omega arith

-- a place has room for links, key and value, far below the limits of numbers
pub record Lies (c : WindowState) (k v : ScalarKind) (n : ℕ) : Type 0 where
  pub whole : n % 16 ≡ 0
  pub low : 144 ≤ n
  pub fields : n + 16 + size_of k + size_of v ≤ length c.bytes
  pub high : n + 32 ≤ length c.bytes
  pub small : length c.bytes ≤ 1073741824

-- a place of a pair lies in the window
pub place-lies : (c : WindowState) (k v : ScalarKind) (n : ℕ) → is_target c n ≡ true → Lies c k v n
place-lies c k v n h =
    let p = is_target-PayloadBounds c n h in
    let a = size-most k in
    let b = size-most v in
    let high = p.high in
    record {
      whole = p.whole;
      low = p.low;
      fields = omega arith;
      high = high;
      small = small_size (length c.bytes) p.size;
    }

-- a pair lies in the window
pub pair-lies : (c : WindowState) (es : Blocks) (root : ℕ) (k v : ScalarKind) (n : ℕ)
    → is_pair c es root k v n ≡ true → Lies c k v n
pair-lies c es root k v n h = place-lies c k v n (is_pair-IsPairNode c es root k v n h).place

-- ---- fields

-- the left link as it is read
pub left-kept : (c : WindowState) (es : Blocks) (root : ℕ) (k v : ScalarKind) (n : ℕ) (o : Option ℕ)
    → o ≡ kept_link (is_pair c es root k v) n (link_at (bytes_of c.bytes) n) → o ≡ (pair_cells c es root k v n).left
unfolding pair_cells
left-kept c es root k v n o e = e

-- the right link as it is read
pub right-kept : (c : WindowState) (es : Blocks) (root : ℕ) (k v : ScalarKind) (n : ℕ) (o : Option ℕ)
    → o ≡ kept_link (is_pair c es root k v) n (link_at (bytes_of c.bytes) (n + 8))
    → o ≡ (pair_cells c es root k v n).right
unfolding pair_cells
right-kept c es root k v n o e = e

-- keys that are compared as parts of the window
pub parts-before : (c : WindowState) (k : ScalarKind) (a b : ℕ) → a + 16 + size_of k ≤ length c.bytes
    → b + 16 + size_of k ≤ length c.bytes
    → int_lt (value_of k (little_number (size_of k) (part c.bytes (a + 16) (size_of k))))
    (value_of k (little_number (size_of k) (part c.bytes (b + 16) (size_of k)))) ≡ key_before (bytes_of c.bytes) k a b
parts-before c k a b x y =
    ap (λ p. int_lt (value_of k (little_number (size_of k) p))
    (value_of k (little_number (size_of k) (part c.bytes (b + 16) (size_of k)))))
    (sym (read-part c.bytes (a + 16) (size_of k) x))
    ∙ ap (λ p. int_lt (value_of k (little_number (size_of k) (read (bytes_of c.bytes) (a + 16) (size_of k))))
    (value_of k (little_number (size_of k) p))) (sym (read-part c.bytes (b + 16) (size_of k) y))
