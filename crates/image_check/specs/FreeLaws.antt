-- The laws of the offsets at which a payload can begin, as nodes.
use Rattle.std.proofs.Common.{◌≡◌, ◌∙◌, refl, ap, subst, ℕ, zero, suc, ◌+◌, ◌*◌, ◌/◌, ◌%◌, ◌^◌, ◌<◌, ◌≤◌, inl, inr}
use Rattle.std.proofs.Common.{true, false, ◌&&◌, List, [], ◌∷◌, length, arith, nat_le, ◌==◌, IsTrue}
use Rattle.std.specs.Prelude.{Option, Some, None}
use Rattle.std.proofs.lemmas.Bool.{both_ways, cases_Bool, cases_lt, and_parts, and_from, or_left, or_right, leb-true}
use Rattle.std.proofs.lemmas.Bool.{eqb-true, eq-eqb, cond-true, cond-false}
use Rattle.raw_region.specs.Memory.{Memory, WindowState, bytes_of}
use Rattle.offset_link.specs.Link.{is_handle_offset, link_at}
use Rattle.link_tree.specs.Nodes.{is_in, leads}
use Rattle.block_tags.specs.Format.{is_legal_size}
use Rattle.best_fit.specs.GapLaws.{Comes, comes-false, comes-trans}
use Rattle.image_check.specs.FreeNodes.{is_target, good_target, target_cells, len_at, stands_before, is_before}

-- ---- there are few places

pub multiples : ℕ → List ℕ
multiples zero = []
multiples (suc k) = 16 * k ∷ multiples k

pub length-multiples : (k : ℕ) → length (multiples k) ≡ k
unfolding multiples
length-multiples zero = refl
length-multiples (suc k) = ap suc (length-multiples k)

in_multiples : (k i : ℕ) → i < k → is_in (16 * i) (multiples k) ≡ true
unfolding multiples
in_multiples zero i l = absurd (omega arith)
in_multiples (suc k) i l = elim (cases_lt i k) [
  | inl h ↦ or_right (16 * i == 16 * k) (is_in (16 * i) (multiples k)) (in_multiples k i h)
  | inr h ↦ or_left (16 * i == 16 * k) (is_in (16 * i) (multiples k)) (eq-eqb (16 * i) (16 * k) (omega arith))
]

pub small_size : (n : ℕ) → IsTrue (is_legal_size n) → n ≤ 1073741824
small_size n h = grind arith

-- an offset at which a payload can begin, in a window of a legal size
pub record PayloadBounds (c : WindowState) (n : ℕ) : Type 0 where
  pub size : IsTrue (is_legal_size (length c.bytes))
  pub whole : n % 16 ≡ 0
  pub low : 144 ≤ n
  pub high : n + 32 ≤ length c.bytes

pub is_target-PayloadBounds : (c : WindowState) (n : ℕ) → is_target c n ≡ true → PayloadBounds c n
unfolding is_target
is_target-PayloadBounds c n h =
    let two = and_parts (is_legal_size (length c.bytes)) (is_handle_offset (length c.bytes) n) h in
    let three = and_parts ((n % 16 == 0) && nat_le 144 n) (nat_le (n + 32) (length c.bytes)) two.1 in
    let four = and_parts (n % 16 == 0) (nat_le 144 n) three.0 in
    record {
      size = two.0;
      whole = eqb-true (n % 16) 0 four.0;
      low = leb-true 144 n four.1;
      high = leb-true (n + 32) (length c.bytes) three.1;
    }

pub is_target-from : (c : WindowState) (n : ℕ) → IsTrue (is_legal_size (length c.bytes))
    → is_handle_offset (length c.bytes) n ≡ true → is_target c n ≡ true
unfolding is_target
is_target-from c n size h = and_from (is_legal_size (length c.bytes)) (is_handle_offset (length c.bytes) n) size h

pub target_listed : (c : WindowState) (n : ℕ) → PayloadBounds c n → is_in n (multiples (length c.bytes / 16)) ≡ true
target_listed c n p =
    let whole = p.whole in
    let high = p.high in
    let e : 16 * (n / 16) ≡ n = omega arith in
    subst (λ k. is_in k (multiples (length c.bytes / 16))
    ≡ true) e (in_multiples (length c.bytes / 16) (n / 16) (omega arith))

pub targets_finite : (c : WindowState) → (ns : List ℕ) × (length ns ≤ 2 ^ 40)
    × ((n : ℕ) → is_target c n ≡ true → is_in n ns ≡ true)
targets_finite c = elim (cases_Bool (is_legal_size (length c.bytes))) [
  | inl e ↦
      let small = small_size (length c.bytes) e in
      let len = length-multiples (length c.bytes / 16) in
      (multiples (length c.bytes / 16), omega arith, λ n h. target_listed c n (is_target-PayloadBounds c n h))
  | inr e ↦ (
    [],
    omega arith,
    λ n h. absurd (both_ways (is_legal_size (length c.bytes)) e (is_target-PayloadBounds c n h).size),
  )
]

-- ---- links lead to places

pub target_leads : (c : WindowState) (link : Option ℕ) → IsTrue (is_legal_size (length c.bytes))
    → leads (is_target c) (good_target (length c.bytes) link) ≡ true
unfolding good_target
target_leads c None size = refl
target_leads c (Some n) size = elim (cases_Bool (is_handle_offset (length c.bytes) n)) [
  | inl e ↦ ap (leads (is_target c)) (cond-true (is_handle_offset (length c.bytes) n) (Some n) None e)
      ∙ is_target-from c n size e
  | inr e ↦ ap (leads (is_target c)) (cond-false (is_handle_offset (length c.bytes) n) (Some n) None e)
]

pub targets_left : (c : WindowState) (n : ℕ) → is_target c n ≡ true → leads (is_target c) (target_cells c n).left ≡ true
unfolding target_cells
targets_left c n h = target_leads c (link_at (bytes_of c.bytes) n) (is_target-PayloadBounds c n h).size

pub targets_right : (c : WindowState) (n : ℕ) → is_target c n ≡ true → leads (is_target c) (target_cells c
    n).right ≡ true
unfolding target_cells
targets_right c n h = target_leads c (link_at (bytes_of c.bytes) (n + 8)) (is_target-PayloadBounds c n h).size

-- ---- the order

comes_same : (k a : ℕ) → Comes k a k a → ⊥
comes_same k a (inl x) = omega arith
comes_same k a (inr x) = let l = x.1 in omega arith

pub before_irreflexive : (m : Memory) (n : ℕ) → stands_before m n n ≡ false
before_irreflexive m n = comes-false (len_at m n) n (len_at m n) n (comes_same (len_at m n) n)

pub before_transitive : (m : Memory) (a b c : ℕ) → stands_before m a b ≡ true → stands_before m b c ≡ true
    → stands_before m a c ≡ true
before_transitive m a b c x y = comes-trans (len_at m a) a (len_at m b) b (len_at m c) c x y

pub before_agrees : (m : Memory) (len node a b : ℕ) → stands_before m a b ≡ true → is_before m len node b ≡ true
    → is_before m len node a ≡ true
before_agrees m len node a b x y = comes-trans (len_at m a) a (len_at m b) b len node x y
