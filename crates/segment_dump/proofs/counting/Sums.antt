-- What some need together.
use Rattle.segment_dump.proofs.Common.{◌≡◌, ℕ, ◌+◌, ◌*◌, ◌/◌, ◌<◌, ◌≤◌, ◌==◌, Bool, true, false, List, [], ◌∷◌, ◌++◌}
use Rattle.segment_dump.proofs.Common.{if◌then◌else◌, refl, sym, ap, ◌∙◌, arith, zero-add, max, nat_tests, room, Needs}
use Rattle.segment_dump.proofs.Common.{IsSmall, all_needs, block_room, both, nothing, ScalarKind, size_of, node_len}
use Rattle.std.proofs.{Common.add_assoc, Math.Nat.le-max_right, Math.Nat.zero-max, Math.Nat.le-mul_of_pos_right}
use Rattle.seg_types.specs.declared.kinds.ScalarKind.TheVariants.{Bool as BoolKind}

-- ---- sums of needs

max-apart : (a b c : ℕ) → max (max a b) c ≡ max a (max b c)
max-apart a b c = omega arith

pub both-apart : (a b c : Needs) → both (both a b) c ≡ both a (both b c)
both-apart a b c = λ i. record {
  room = add_assoc a.room b.room c.room i;
  longest = max-apart a.longest b.longest c.longest i;
}

pub both-nothing : (a : Needs) → both nothing a ≡ a
both-nothing a = λ i. record { room = zero-add a.room i; longest = zero-max a.longest i }

max-none : (a : ℕ) → max a 0 ≡ a
max-none a = omega arith

add-none : (a : ℕ) → a + 0 ≡ a
add-none a = omega arith

pub both-no_more : (a : Needs) → both a nothing ≡ a
both-no_more a = λ i. record { room = add-none a.room i; longest = max-none a.longest i }

-- the needs of two lists are those of both
pub all-append : {X : Type 0} (needs : X → Needs) (xs ys : List X)
    → all_needs needs (xs ++ ys) ≡ both (all_needs needs xs) (all_needs needs ys)
all-append needs [] ys = sym (both-nothing (all_needs needs ys))
all-append needs (x ∷ xs) ys =
    ap (both (needs x)) (all-append needs xs ys) ∙ sym (both-apart (needs x) (all_needs needs xs) (all_needs needs ys))

-- ---- what is counted one by one

-- what was counted, and what is left, make the whole
pub record IsPart (counted left whole : Needs) : Type 0 where
  pub sum : both counted left ≡ whole

-- nothing was counted: all is left
pub part-start : (whole : Needs) → IsPart nothing whole whole
part-start whole = record { sum = both-nothing whole }

-- nothing is left: all was counted
pub part-end : (counted whole : Needs) → IsPart counted nothing whole → counted ≡ whole
part-end counted whole h = sym (both-no_more counted) ∙ h.sum

-- one more is counted: nothing overflows, since the whole is small
pub part-more : (counted one left whole sum : Needs) → IsSmall whole.room → IsPart counted (both one left) whole
    → (counted.room + one.room < 18446744073709551616 → sum ≡ both counted one) → IsPart sum left whole
part-more counted one left whole sum s h f =
    let rooms : counted.room + (one.room + left.room) ≡ whole.room = ap (λ (n : Needs). n.room) h.sum in
    let is : sum ≡ both counted one = f (omega arith) in
    record { sum = ap (λ n. both n left) is ∙ both-apart counted one left ∙ h.sum }

-- what is left needs no more than all
pub part-small : (counted left whole : Needs) → IsPart counted left whole → left.room ≤ whole.room
part-small counted left whole h = let rooms : counted.room + left.room ≡ whole.room =
    ap (λ (n : Needs). n.room) h.sum in omega arith

-- ---- blocks

round-up : (n : ℕ) → n ≤ (n + 31) / 16 * 16
round-up n = omega arith

room-least : (n : ℕ) → n ≤ room n
room-least n = omega (arith, round-up n, le-max_right 32 ((n + 31) / 16 * 16))

least-if : (b : Bool) (n : ℕ) → (n == 0) ≡ b → n ≤ (if b then 0 else room n)
least-if true n e = let z : n ≡ 0 = grind (arith, nat_tests) in omega (arith, z)
least-if false n e = room-least n

-- the room of a block is at least its bytes
pub block-least : (n : ℕ) → n ≤ block_room n
unfolding block_room
block-least n = least-if (n == 0) n refl

-- elements take at least as many bytes as there are
pub size-least : (k : ScalarKind) (n : ℕ) → n ≤ size_of k * n
size-least BoolKind n = omega arith
size-least k n = omega arith

-- nodes take at least as many bytes as there are
pub node-least : (k v : ScalarKind) (n : ℕ) → n ≤ n * block_room (node_len (size_of k) (size_of v))
node-least k v n = le-mul_of_pos_right n (omega (arith, block-least (node_len (size_of k) (size_of v))))
