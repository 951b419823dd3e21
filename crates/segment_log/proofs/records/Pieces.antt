-- What stands where after a write.
use Rattle.std.proofs.Common.{◌≡◌, ℕ, ◌+◌, ◌<◌, ◌≤◌, List, [], ◌∷◌, ◌++◌, length, take, drop, get_or}
use Rattle.std.proofs.Common.{refl, sym, ◌∙◌}
use Rattle.std.proofs.Common.{ap, arith, append_assoc, length-append}
use Rattle.std.proofs.lemmas.List.{take_at, drop_at, length-take-le, length-replicate, take-take, get_or-take}
use Rattle.std.proofs.lemmas.List.{get_or-drop, replicate-append-replicate}
use Rattle.segment_log.specs.Crashes.{WritesAt}
use Rattle.segment_log.specs.Records.{open_gate, shut_gate, zeros}

module _ (old : List ℕ) (at : ℕ) (bytes new : List ℕ) (room : at ≤ length old) (holds : WritesAt old at bytes new) where
  prefix_len : length (take at old) ≡ at
  prefix_len = length-take-le at old room

  split : new ≡ take at old ++ (bytes ++ drop (at + length bytes) old)
  split = holds ∙ append_assoc (take at old) bytes (drop (at + length bytes) old)

  -- what stands before the bytes that were written
  pub held_before : take at new ≡ take at old
  held_before = ap (λ (l : List ℕ). take at l) split
      ∙ take_at (take at old) (bytes ++ drop (at + length bytes) old) at prefix_len

  -- the bytes that were written, and what stands behind them
  pub held_at : drop at new ≡ bytes ++ drop (at + length bytes) old
  held_at = ap (λ (l : List ℕ). drop at l) split
      ∙ drop_at (take at old) (bytes ++ drop (at + length bytes) old) at prefix_len

  -- what stands behind the bytes that were written
  pub held_after : drop (at + length bytes) new ≡ drop (at + length bytes) old
  held_after =
      ap (λ (l : List ℕ). drop (at + length bytes) l) holds
      ∙ drop_at (take at old ++ bytes) (drop (at + length bytes) old) (at + length bytes)
      (omega (arith, length-append (take at old) bytes, prefix_len))

  -- the bytes that were written lie within
  pub held_len : at + length bytes ≤ length new
  held_len =
      omega (
        arith,
        ap length holds,
        length-append (take at old ++ bytes) (drop (at + length bytes) old),
        length-append
            (take at old) bytes,
        prefix_len,
      )

-- what two logs have alike in front
pub take_less : (n m : ℕ) (a b : List ℕ) → n ≤ m → take m a ≡ take m b → take n a ≡ take n b
take_less n m a b le same = sym (take-take n m a le) ∙ ap (λ (l : List ℕ). take n l) same ∙ take-take n m b le

-- two logs that are alike in front have the same byte there
pub get_same : (i m : ℕ) (a b : List ℕ) → i < m → take m a ≡ take m b → get_or a i 0 ≡ get_or b i 0
get_same i m a b lt same = sym (get_or-take m a i 0 lt) ∙ ap (λ (l : List ℕ). get_or l i 0) same
    ∙ get_or-take m b i 0 lt

-- the first byte of what is left
pub get_dropped : (n : ℕ) (l : List ℕ) → get_or (drop n l) 0 0 ≡ get_or l n 0
get_dropped n l = let z : n + 0 ≡ n = omega arith in get_or-drop n l 0 0 ∙ ap (λ (k : ℕ). get_or l k 0) z

-- how many zeros there are
pub length-zeros : (n : ℕ) → length (zeros n) ≡ n
unfolding zeros
length-zeros n = length-replicate n 0

-- zeros are zeros, and others behind them
pub zeros_split : (n m : ℕ) → zeros (n + m) ≡ zeros n ++ zeros m
unfolding zeros
zeros_split n m = sym (replicate-append-replicate n m 0)

-- ---- gates as they are written

-- how many bytes a shut gate has
pub length-shut : length shut_gate ≡ 4096
unfolding shut_gate zeros
length-shut = refl

-- how many bytes an open gate has
pub length-open : length open_gate ≡ 4096
unfolding open_gate zeros
length-open = refl

-- the first byte of a shut gate
pub shut_first : get_or shut_gate 0 0 ≡ 0
unfolding shut_gate
shut_first = refl

-- the first byte of an open gate
pub open_first : get_or open_gate 0 0 ≡ 1
unfolding open_gate
open_first = refl

-- the first byte of bytes, and of others behind them
pub first_of : (xs ys : List ℕ) → 0 < length xs → get_or (xs ++ ys) 0 0 ≡ get_or xs 0 0
first_of [] ys some = absurd (omega arith)
first_of (x ∷ xs) ys some = refl
