-- Vectors and maps of a caller's own types, computed.
use Rattle.std.proofs.Common.{◌≡◌, refl, ℕ, List, [], ◌∷◌, ◌++◌, Bool, true, false}
use Rattle.std.specs.Cmp.Lexicographic.{slice_cmp}
use Rattle.std.specs.Ordering.{nat_cmp, is_lt}
use Rattle.raw_region.specs.Memory.{Memory, bytes_of, word_at, word_bytes}
use Rattle.block_tags.specs.declared.tile.Role.TheVariants.{Storage, Node}
use Rattle.best_fit.specs.Table.{BackingArray}
use Rattle.seg_vector.specs.Vector.{IsVectorOf, is_vector}
use Rattle.seg_map.specs.Map.{Pair, IsMapAt, put_pair, remove_pair, is_rising, is_pair}
use Rattle.rows.proofs.Images.{words, extent, table}
use Rattle.rows.proofs.OneGap.{one_node}

-- ---- points, each spelled by two bytes

abbrev Point : Type 0
Point = ℕ × ℕ

abbrev point_bytes : Point → List ℕ
point_bytes (x, y) = x ∷ y ∷ []

abbrev is_point : Point → Bool
is_point p = true

-- three words, a tag, and two points
abbrev points_memory : Memory
points_memory = bytes_of (words (40 ∷ 2 ∷ 3 ∷ 0 ∷ 32 ∷ []) ++ 1 ∷ 2 ∷ 3 ∷ 4 ∷ [])

abbrev three : BackingArray
three = table 3 (extent 24 32 Storage)

points : IsVectorOf point_bytes points_memory 0 ((1, 2) ∷ (3, 4) ∷ []) three
unfolding word_at word_bytes
points = record { link = refl; len_word = refl; capacity = refl; storage = refl }

points_are : is_vector 2 is_point ((1, 2) ∷ (3, 4) ∷ []) three ≡ true
points_are = refl

-- the block has no room for three elements of 6 bytes
too_long : is_vector 6 is_point ((1, 2) ∷ (3, 4) ∷ []) three ≡ false
too_long = refl

-- ---- a map from points to bytes

abbrev pair : ℕ → ℕ → ℕ → Pair Point ℕ
pair x y value = record { key = (x, y); value = value; node = extent 24 48 Node }

-- three words, a tag, two null links, and the pair of (7, 9) and 5
abbrev map_memory : Memory
map_memory = bytes_of (words (40 ∷ 1 ∷ 0 ∷ 0 ∷ 48 ∷ 1 ∷ 1 ∷ []) ++ 7 ∷ 9 ∷ 5 ∷ [])

one_pair : IsMapAt 2 point_bytes (λ v. v ∷ []) map_memory 0 (pair 7 9 5 ∷ [])
unfolding word_at word_bytes
one_pair = record {
  count = refl;
  third = refl;
  tree = one_node _ _ 40 refl refl;
  pairs = ((refl, refl), tt);
}

pair_is : is_pair 2 1 is_point (λ v. true) (pair 7 9 5) ≡ true
pair_is = refl

-- ---- the order is the one that is given: here that of the spellings

abbrev before : Point → Point → Bool
before p q = is_lt (slice_cmp nat_cmp (point_bytes p) (point_bytes q))

put_between : put_pair before (pair 1 9 8) (pair 1 2 3 ∷ pair 2 0 4 ∷ []) ≡ pair 1 2 3 ∷ pair 1 9 8 ∷ pair 2 0 4 ∷ []
put_between = refl

put_over : put_pair before (pair 2 0 8) (pair 1 2 3 ∷ pair 2 0 4 ∷ []) ≡ pair 1 2 3 ∷ pair 2 0 8 ∷ []
put_over = refl

removed : remove_pair before (pair 1 2 3 ∷ pair 2 0 4 ∷ []) (1, 2) ≡ pair 2 0 4 ∷ []
removed = refl

falling : is_rising before (pair 2 0 4 ∷ pair 1 2 3 ∷ []) ≡ false
falling = refl
