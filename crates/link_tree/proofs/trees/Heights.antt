-- How high a red-black tree can be.
use Rattle.std.proofs.Common.{◌≡◌, refl, ℕ, zero, suc, ◌+◌, ◌*◌, ◌≤◌, ◌<◌, ◌^◌, ◌/◌, true, false, cond, ◌∷◌, length}
use Rattle.std.proofs.Common.{arith, length-append, pow-suc}
use Rattle.std.proofs.lemmas.Bool.{eqb-true}
use Rattle.std.proofs.lemmas.Int.Digits.{length-digits_of-le, length-digits_of_step}
use Rattle.std.proofs.Math.Pow.{pow_pos}
use Rattle.link_tree.proofs.trees.BlackHeights.{IsEven, even_fork, even_tree}
use Rattle.link_tree.specs.Tree.{Tree, leaf, fork, nodes_of, has_black_root, IsRedBlack, height, bits, BoundsHeight}

redness : Tree → ℕ
redness t = cond (has_black_root t) 0 1

redness_le : (t : Tree) → redness t ≤ 1
unfolding redness
redness_le t = elim (has_black_root t) as (λ v. cond v 0 1 ≤ 1) [ true ↦ omega arith | false ↦ omega arith ]

tall : (t : Tree) (b : ℕ) → IsEven t b → height t ≤ 2 * b + redness t
unfolding redness
tall leaf b e = omega arith
tall (fork true l n r) b e =
    let p = even_fork true l n r b e in
    let tl = tall l p.below p.left_even in
    let tr = tall r p.below p.right_even in
    let kl = p.left_root refl in
    let kr = p.right_root refl in
    let ul : height l ≤ 2 * p.below + 0 = rw kl at tl in
    let ur : height r ≤ 2 * p.below + 0 = rw kr at tr in
    omega arith
tall (fork false l n r) b e =
    let p = even_fork false l n r b e in
    omega (arith, tall l p.below p.left_even, tall r p.below p.right_even, redness_le l, redness_le r)

black_tall : (t : Tree) (b : ℕ) → has_black_root t ≡ true → IsEven t b → height t ≤ 2 * b
unfolding redness
black_tall t b k e =
    let h = tall t b e in
    let g : height t ≤ 2 * b + 0 = rw k at h in
    omega arith

full : (t : Tree) (b : ℕ) → IsEven t b → 2 ^ b ≤ length (nodes_of t) + 1
full leaf b e =
    let zero_b = eqb-true b 0 e.black in
    rw zero_b (omega arith)
full (fork true l n r) b e =
    let p = even_fork true l n r b e in
    let is : b ≡ p.below = p.is in
    rw is (omega (
      arith,
      full l p.below p.left_even,
      full r p.below p.right_even,
      length-append (nodes_of l)
          (n ∷ nodes_of r),
    ))
full (fork false l n r) b e =
    let p = even_fork false l n r b e in
    let is : b ≡ suc p.below = p.is in
    rw (is, pow-suc)
    (omega (
      arith,
      full l p.below p.left_even,
      full r p.below p.right_even,
      length-append (nodes_of l)
          (n ∷ nodes_of r),
    ))

-- a number from 2 ^ b on has more than b digits
bits_more : (b m : ℕ) → 2 ^ b ≤ m → b + 1 ≤ bits m
bits_more zero m h = omega (arith, length-digits_of_step 2 m (omega arith) (omega arith))
bits_more (suc b) m h =
    let g = rw pow-suc at h in
    let positive : 0 < 2 ^ b = pow_pos b in
    let half : 2 ^ b ≤ m / 2 = omega arith in
    omega (arith, bits_more b (m / 2) half, length-digits_of_step 2 m (omega arith) (omega arith))

-- the height is at most the law's bound less two
pub height_bits : (t : Tree) → IsRedBlack t → height t + 2 ≤ 2 * bits (length (nodes_of t) + 1)
height_bits t k =
    let b = k.black.0 in
    let e = even_tree t k in
    omega (arith, bits_more b (length (nodes_of t) + 1) (full t b e), black_tall t b k.root e)

-- law: the height of a red-black tree is at most twice the bits of its number of nodes
pub bounds_height : BoundsHeight
bounds_height t k = omega (arith, height_bits t k)

-- a number of at most 2^40 nodes has at most 41 bits
pub bits_most : (m : ℕ) → m ≤ 2 ^ 40 → bits (m + 1) ≤ 41
bits_most m h = length-digits_of-le 2 41 (m + 1) (omega arith) (omega arith)
